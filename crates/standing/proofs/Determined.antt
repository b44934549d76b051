-- What each public function answers is determined: two answers that both meet its contract are one, since the contract is an equation
-- with a definition, or says exactly when the answer is true.
use mathlib.Core.Path.{◌≡◌}
use mathlib.Core.Bool.{Bool, true}
use mathlib.Core.List.{List}
use mathlib.Core.Logic.{◌↔◌}
use Prim.Native.Nat.{ℕ, min}
use lib.ListN.{take}
use Rattle.meaning.proofs.SetLaws.{both_decide}
use Rattle.text.proofs.Determined.{both_equal}
use Rattle.table.specs.declared.numbers.Operation.{Operation}
use Rattle.standing.specs.declared.numbers.Terminal.{Terminal}
use Rattle.standing.specs.declared.entries.Entry.{Entry}
use Rattle.standing.specs.declared.records.Session.{Session}
use Rattle.standing.specs.declared.searches.Search.{Search}
use Rattle.standing.specs.Lists.{blank_entry}
use Rattle.standing.specs.Searching.{operations_in, examined, looking, looking_next}
use Rattle.standing.specs.Soundness.{RecordSound}

pub blank_entry_determined : (r r' : Entry) → r ≡ blank_entry → r' ≡ blank_entry → r ≡ r'
blank_entry_determined r r' = both_equal

pub operations_in_determined : (positions : ℕ) (operations : List Operation) (set r r' : ℕ)
    → r ≡ operations_in (take positions operations) set → r' ≡ operations_in (take positions operations) set → r ≡ r'
operations_in_determined positions operations set r r' = both_equal

pub examine_determined : (s : Search) (e : Entry) (place : ℕ) (r r' : Search) → r ≡ examined s e place → r' ≡ examined s e place → r ≡ r'
examine_determined s e place r r' = both_equal

pub look_for_determined : (s : Session) (t : Terminal) (r r' : Search) → r ≡ looking s t → r' ≡ looking s t → r ≡ r'
look_for_determined s t r r' = both_equal

pub look_for_next_determined : (s : Session) (t : Terminal) (r r' : Search) → r ≡ looking_next s t → r' ≡ looking_next s t → r ≡ r'
look_for_next_determined s t r r' = both_equal

pub record_is_sound_determined : (s : Session) (r r' : Bool) → (r ≡ true) ↔ RecordSound s → (r' ≡ true) ↔ RecordSound s → r ≡ r'
record_is_sound_determined s r r' = both_decide r r'

-- the lesser of two numbers, as std's `min` answers it
pub least_determined : (a b r r' : ℕ) → r ≡ min a b → r' ≡ min a b → r ≡ r'
least_determined a b r r' = both_equal
