-- The set of the operations that have a position. One turn of a loop that gathers it, position after position: what is gathered of all is
-- `out`, joined with what the positions from p on have. And what a comparison with the set of the first operations says.
use mathlib.Core.Path.{◌≡◌, sym, ◌∙◌}
use mathlib.Core.Bool.{true}
use mathlib.Core.List.{List, [], ◌∷◌}
use mathlib.Core.Logic.{◌↔◌, ⊎_elim, inl, inr}
use Prim.Native.Nat.{ℕ, zero, suc, ◌+◌, ◌-◌, ◌*◌, ◌^◌, ◌≤◌, ◌<◌, ◌/◌, ◌%◌}
use native.Mathlib.Nat.{one-mul, mod-eq_of_lt, not-suc-le-zero, le_of_suc-le-suc, pow-suc}
use native.Mathlib.Omega.{arith}
use borrow.Author.Tests.{eqb-true, eq-eqb}
use lib.Bits.{bit_or, bit_and, or_zero_r}
use lib.Dec.{eqb}
use lib.ListN.{length, drop, get_or, drop_of_length-le}
use lib.Pow.{pow-lt, pow_pos}
use Rattle.meaning.specs.Sets.{mem, In}
use Rattle.meaning.proofs.SetLaws.{none_in, in_single, in_union, in_shared, same_sets, union_assoc, in_below}
use Rattle.table.specs.declared.numbers.Operation.{Operation}
use Rattle.table.specs.Tests.{placed_in}
use Rattle.table.proofs.Repeats.{here_and_behind}

-- bit o, as the program shifts it
pub bit_shifted : (o : ℕ) → o < 64 → 1 * 2 ^ o % 18446744073709551616 ≡ 2 ^ o
bit_shifted o h = rw (one-mul (2 ^ o)) (mod-eq_of_lt (pow-lt {j = 64} h))

-- the set has an operation exactly if it stands in the list
pub in_placed : (os : List Operation) (z : Operation) (o : ℕ) → In o (placed_in os) → (p : ℕ) × (p < length os) × ((get_or os p z).0 ≡ o)
unfolding placed_in
in_placed [] z o h = none_in o h
in_placed (x ∷ os) z o h =
    ⊎_elim
    (λ here. (0, omega arith, sym ((in_single o x.0).0 here)))
    (λ there. let (p, l, e) = in_placed os z o there in (suc p, omega arith, e))
    ((in_union o (2 ^ x.0) (placed_in os)).0 h)

pub placed_in_told : (os : List Operation) (z : Operation) (o p : ℕ) → p < length os → (get_or os p z).0 ≡ o → In o (placed_in os)
unfolding placed_in
placed_in_told [] z o p l e = absurd (not-suc-le-zero l)
placed_in_told (x ∷ os) z o zero l e = (in_union o (2 ^ x.0) (placed_in os)).1 (inl ((in_single o x.0).1 (sym e)))
placed_in_told (x ∷ os) z o (suc p) l e = (in_union o (2 ^ x.0) (placed_in os)).1 (inr (placed_in_told os z o p (le_of_suc-le-suc l) e))

-- what the loop keeps
abbrev pub Gathered : List Operation → ℕ → ℕ → Type 0
Gathered operations p out = placed_in operations ≡ bit_or out (placed_in (drop p operations))

module _ (operations : List Operation) (p out : ℕ) (i : Gathered operations p out) where
  pub one_more_gathered : p < length operations
      → Gathered operations (p + 1) (bit_or out (2 ^ (get_or operations p (record { 0 = 0 })).0))
  unfolding placed_in
  one_more_gathered used = i ∙ rw (here_and_behind operations p used) (sym (union_assoc out _ _))

  pub all_gathered : length operations ≤ p → out ≡ placed_in operations
  unfolding placed_in
  all_gathered past = sym (i ∙ rw (drop_of_length-le operations past, or_zero_r out))

-- the set of the first k has all below k
in_first : (k p : ℕ) → p < k → In p (2 ^ k - 1)
unfolding mem
in_first zero p h = absurd (not-suc-le-zero h)
in_first (suc k) zero h =
    let some = pow_pos k in
    let odd : (2 ^ k * 2 - 1) % 2 ≡ 1 = omega arith in
    rw (pow-suc 2 k) (eq-eqb _ _ odd)
in_first (suc k) (suc p) h =
    let some = pow_pos k in
    let half : (2 ^ k * 2 - 1) / 2 ≡ 2 ^ k - 1 = omega arith in
    rw (pow-suc 2 k, half) (in_first k p (le_of_suc-le-suc h))

-- a set has the first k exactly if it shares with their set all that this has
pub first_all_in : (k s : ℕ) → (eqb (bit_and s (2 ^ k - 1)) (2 ^ k - 1) ≡ true) ↔ ((p : ℕ) → p < k → In p s)
first_all_in k s =
    let all = 2 ^ k - 1 in
    let below : all < 2 ^ k = omega (arith, pow_pos k) in (
      λ t p h. ((in_shared p s all).0 (rw (eqb-true (bit_and s all) all t) (in_first k p h))).0,
      λ has. eq-eqb (bit_and s all) all (same_sets (bit_and s all) all (λ p. (
        λ h. ((in_shared p s all).0 h).1,
        λ h. (in_shared p s all).1 (has p (in_below p k all below h), h),
      ))),
    )
