-- What each public function answers is determined: two answers that both meet its contract are one, since the contract is an
-- equation with a definition.
use mathlib.Core.Path.{◌≡◌}
use mathlib.Core.List.{List}
use Prim.Native.Nat.{ℕ}
use Rattle.table.specs.declared.cells.Table.{Table}
use Rattle.text.proofs.Determined.{both_equal}
use Rattle.parts.specs.Parts.{either, then, starred, completed, placed}
use Rattle.parts.specs.declared.joining.Part.{Part}
use Rattle.std.specs.Prelude.{Result}
use Rattle.text.specs.declared.faults.Fault.{Fault}

pub either_part_determined : (l r q q' : Part) → q ≡ either l r → q' ≡ either l r → q ≡ q'
either_part_determined l r q q' = both_equal

pub then_part_determined : (l r q q' : Part) → q ≡ then l r → q' ≡ then l r → q ≡ q'
then_part_determined l r q q' = both_equal

pub star_part_determined : (p q q' : Part) → q ≡ starred p → q' ≡ starred p → q ≡ q'
star_part_determined p q q' = both_equal

pub complete_determined : (p : Part) (r r' : Table) → r ≡ completed p → r' ≡ completed p → r ≡ r'
complete_determined p r r' = both_equal

pub place_determined : (t : Table) (n : List ℕ) (r r' : Result Part Fault) → r ≡ placed t n → r' ≡ placed t n → r ≡ r'
place_determined t n r r' = both_equal
