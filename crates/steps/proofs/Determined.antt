-- What each public function answers is determined: two answers that both meet its contract are one, since the contract is an equation
-- with a definition, or one that depends on whether something is so. Of the lent calls: CallsDetermined.antt.
use mathlib.Core.Path.{◌≡◌, ap, ◌∙◌}
use mathlib.Core.Bool.{Bool}
use mathlib.Core.List.{List}
use Prim.Native.Nat.{ℕ}
use Rattle.meaning.proofs.SetLaws.{both_decide}
use Rattle.text.proofs.Determined.{both_equal}
use Rattle.table.specs.declared.cells.Table.{Table}
use Rattle.standing.specs.declared.searches.Waiter.{Waiter}
use Rattle.standing.specs.declared.numbers.Terminal.{Terminal}
use Rattle.standing.specs.declared.entries.Entry.{Entry}
use Rattle.standing.specs.declared.records.Session.{Session}
use Rattle.standing.specs.declared.searches.Search.{Search}
use Rattle.std.specs.Prelude.{Result, Option}
use Rattle.steps.specs.declared.replies.CallRefusal.{CallRefusal}
use Rattle.steps.specs.declared.outcomes.Asked.{Asked}
use Rattle.steps.specs.declared.outcomes.Handed.{Handed}
use Rattle.steps.specs.declared.outcomes.Withdrawn.{Withdrawn}
use Rattle.steps.specs.Answers.{number_of}
use Rattle.steps.specs.Steps.{opening}
use Rattle.steps.specs.Values.{ask_core, finish_core, withdraw_core, Decided, OpenedBy, AskedBy, FinishedBy, WithdrawnBy}

pub number_determined : (r : CallRefusal) (n n' : ℕ) → n ≡ number_of r → n' ≡ number_of r → n ≡ n'
number_determined r n n' = both_equal

pub open_step_determined : (t : Table) (r r' : Session) → r ≡ opening t → r' ≡ opening t → r ≡ r'
open_step_determined t r r' = both_equal

pub ask_step_determined : (s : Session) (e : Entry) (r r' : Asked) → r ≡ ask_core s e → r' ≡ ask_core s e → r ≡ r'
ask_step_determined s e r r' = both_equal

pub finish_step_determined : (s : Session) (f : Option Waiter) (r r' : Handed) → r ≡ finish_core s f → r' ≡ finish_core s f → r ≡ r'
finish_step_determined s f r r' = both_equal

pub withdraw_step_determined : (s : Session) (p : ℕ) (r r' : Withdrawn) → r ≡ withdraw_core s p → r' ≡ withdraw_core s p → r ≡ r'
withdraw_step_determined s p r r' = both_equal

-- the calls by value, which depend on whether something is so
decided_equal : {P : Type 0} {R : Type 0} (value : Bool → R) (r r' : R) → Decided P value r → Decided P value r' → r ≡ r'
decided_equal value r r' d d' = both_equal (d.is ∙ ap value (both_decide d.sound d'.sound d.says d'.says)) d'.is

pub opened_determined : (n : ℕ) (t : Table) (r r' : Result Session CallRefusal) → OpenedBy n t r → OpenedBy n t r' → r ≡ r'
opened_determined n t r r' = decided_equal _ r r'

pub asked_determined : (s : Session) (n : ℕ) (f : Search) (t : Terminal) (name : List ℕ) (r r' : Result Asked CallRefusal)
    → AskedBy s n f t name r → AskedBy s n f t name r' → r ≡ r'
asked_determined s n f t name r r' = decided_equal _ r r'

pub finished_determined : (s : Session) (n : ℕ) (f : Search) (t : Terminal) (r r' : Result Handed CallRefusal)
    → FinishedBy s n f t r → FinishedBy s n f t r' → r ≡ r'
finished_determined s n f t r r' = decided_equal _ r r'

pub withdrawn_determined : (s : Session) (n : ℕ) (f : Search) (t : Terminal) (r r' : Result Withdrawn CallRefusal)
    → WithdrawnBy s n f t r → WithdrawnBy s n f t r' → r ≡ r'
withdrawn_determined s n f t r r' = decided_equal _ r r'
