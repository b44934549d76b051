-- The set of the positions of an operation, bit by bit: bit p is in it exactly if the p-th operation of the list is the one asked for. Each
-- operation of the list puts one digit before the set of the others.
use mathlib.Core.Path.{◌≡◌}
use mathlib.Core.Bool.{Bool, true, false, cond}
use mathlib.Core.List.{List, [], ◌∷◌}
use mathlib.Core.Logic.{◌↔◌}
use Prim.Native.Nat.{ℕ, zero, suc, ◌+◌, ◌*◌, ◌<◌, ◌/◌, ◌%◌}
use native.Mathlib.Nat.{not-suc-le-zero, le_of_suc-le-suc}
use native.Mathlib.Omega.{arith}
use borrow.Author.Tests.{eqb-true, eq-eqb}
use lib.Dec.{eqb}
use lib.ListN.{length, get_or}
use Rattle.meaning.specs.Sets.{mem, In}
use Rattle.meaning.proofs.SetLaws.{none_in}
use Rattle.table.specs.declared.numbers.Operation.{Operation}
use Rattle.table.specs.Following.{positions_with}

-- a digit before a set is its bit 0, and the set's own bits come behind
mem_digit : (t : Bool) (s : ℕ) → mem 0 (cond t 1 0 + 2 * s) ≡ t
unfolding mem
mem_digit true s = let odd : (1 + 2 * s) % 2 ≡ 1 = omega arith in rw odd
mem_digit false s = let even : (0 + 2 * s) % 2 ≡ 0 = omega arith in rw even

mem_behind : (t : Bool) (s p : ℕ) → mem (suc p) (cond t 1 0 + 2 * s) ≡ mem p s
unfolding mem
mem_behind true s p = let half : (1 + 2 * s) / 2 ≡ s = omega arith in rw half
mem_behind false s p = let half : (0 + 2 * s) / 2 ≡ s = omega arith in rw half

pub in_positions_with : (os : List Operation) (z : Operation) (o p : ℕ)
    → In p (positions_with os o) ↔ ((p < length os) × ((get_or os p z).0 ≡ o))
unfolding positions_with
in_positions_with [] z o p = (none_in p, λ h. absurd (not-suc-le-zero h.0))
in_positions_with (x ∷ os) z o zero =
    rw (mem_digit (eqb x.0 o) (positions_with os o)) (λ h. (omega arith, eqb-true x.0 o h), λ h. eq-eqb x.0 o h.1)
in_positions_with (x ∷ os) z o (suc p) =
    let rest = in_positions_with os z o p in
    rw (mem_behind (eqb x.0 o) (positions_with os o) p)
    (λ h. (omega (arith, (rest.0 h).0), (rest.0 h).1), λ h. rest.1 (le_of_suc-le-suc h.0, h.1))
