-- What each public function answers is determined: two answers that both meet its contract are one, since the contract is an
-- equation with a definition, or says exactly when the answer is true.
use mathlib.Core.Path.{◌≡◌}
use mathlib.Core.Bool.{Bool, true}
use mathlib.Core.List.{List, []}
use mathlib.Core.Logic.{◌↔◌}
use Prim.Native.Nat.{ℕ}
use lib.ListN.{take, get_or}
use Rattle.meaning.specs.Names.{key}
use Rattle.meaning.specs.Sets.{meeting, union_of}
use Rattle.meaning.proofs.SetLaws.{both_decide}
use Rattle.text.proofs.Determined.{both_equal}
use Rattle.std.specs.Prelude.{Option}
use Rattle.table.specs.declared.numbers.Operation.{Operation}
use Rattle.table.specs.declared.numbers.Position.{Position}
use Rattle.table.specs.declared.cells.Table.{Table}
use Rattle.table.specs.Cells.{zeros, spellings, names_of}
use Rattle.table.specs.Following.{positions_with, found_in}
use Rattle.table.specs.Linking.{single, linked}
use Rattle.table.specs.Marks.{mark_of}
use Rattle.table.specs.Soundness.{Sound}
use Rattle.table.specs.Tests.{fit_test}

pub table_of_zeros_determined : (r r' : Table) → r ≡ zeros → r' ≡ zeros → r ≡ r'
table_of_zeros_determined r r' = both_equal

pub set_of_determined : (p : Position) (r r' : ℕ) → r ≡ single p.0 → r' ≡ single p.0 → r ≡ r'
set_of_determined p r r' = both_equal

pub meets_determined : (s t : ℕ) (r r' : Bool) → r ≡ meeting s t → r' ≡ meeting s t → r ≡ r'
meets_determined s t r r' = both_equal

pub link_determined : (rows : List ℕ) (last first : ℕ) (r r' : List ℕ)
    → r ≡ linked rows last first → r' ≡ linked rows last first → r ≡ r'
link_determined rows last first r r' = both_equal

pub union_of_determined : (rows : List ℕ) (s r r' : ℕ) → r ≡ union_of rows s → r' ≡ union_of rows s → r ≡ r'
union_of_determined rows s r r' = both_equal

pub permission_determined : (positions : ℕ) (operations : List Operation) (o : Operation) (r r' : ℕ)
    → r ≡ positions_with (take positions operations) o.0 → r' ≡ positions_with (take positions operations) o.0 → r ≡ r'
permission_determined positions operations o r r' = both_equal

pub find_determined : (names : ℕ) (lengths bytes name : List ℕ) (r r' : Option Operation)
    → r ≡ found_in (take names (spellings lengths bytes)) (key name)
    → r' ≡ found_in (take names (spellings lengths bytes)) (key name)
    → r ≡ r'
find_determined names lengths bytes name r r' = both_equal

pub mark_of_determined : (t : Table) (r r' : ℕ) → r ≡ mark_of t → r' ≡ mark_of t → r ≡ r'
mark_of_determined t r r' = both_equal

pub is_sound_determined : (t : Table) (r r' : Bool) → (r ≡ true) ↔ Sound t → (r' ≡ true) ↔ Sound t → r ≡ r'
is_sound_determined t r r' = both_decide r r'

pub fits_determined : (s n : ℕ) (r r' : Bool) → r ≡ fit_test s n → r' ≡ fit_test s n → r ≡ r'
fits_determined s n r r' = both_equal

pub operations_in_use_determined : (t : Table) (r r' : List Operation) → r ≡ take t.positions t.operations
    → r' ≡ take t.positions t.operations → r ≡ r'
operations_in_use_determined t r r' = both_equal

pub name_determined : (t : Table) (o : Operation) (r r' : List ℕ) → r ≡ get_or (names_of t) o.0 [] → r' ≡ get_or (names_of t) o.0 [] → r ≡ r'
name_determined t o r r' = both_equal
