-- One turn of a loop that gathers a permission set, place by place.
use mathlib.Core.Path.{◌≡◌, refl, ◌∙◌, sym, ap}
use mathlib.Core.Bool.{Bool, true, false, cond}
use mathlib.Core.List.{List}
use Prim.Native.Nat.{ℕ, suc, ◌+◌, ◌*◌, ◌^◌, ◌%◌, ◌≤◌, ◌<◌}
use native.Mathlib.Numerals.{add-one}
use native.Mathlib.Omega.{arith}
use lib.Dec.{eqb}
use lib.ListN.{length, drop, get_or, drop_of_length-le}
use lib.Seq.{drop-cons}
use Rattle.std.specs.Int.Bits.{bit_or}
use native.Mathlib.Nat.{one-mul, pow-suc}
use Rattle.std.proofs.lemmas.Nat.{or_shifted, or_comm}
use Rattle.meaning.proofs.SetLaws.{members_below}
use Rattle.table.specs.declared.numbers.Operation.{Operation}
use Rattle.table.proofs.Placed.{bit_shifted}
use Rattle.table.proofs.PositionSets.{in_positions_with}
use Rattle.table.specs.Following.{positions_with}

-- a set of places is below 2 ^ their number
permission_below : (os : List Operation) (o : ℕ) → positions_with os o < 2 ^ length os
permission_below os o =
    members_below (length os) (positions_with os o) (λ p i. ((in_positions_with os (record { 0 = 0 }) o p).0 i).0)

-- what the loop keeps: `out` has the positions before place p, and those from there on are still to come
pub record Gathered (operations : List Operation) (o p out : ℕ) : Type 0 where
  pub all : positions_with operations o ≡ positions_with (drop p operations) o * 2 ^ p + out
  pub below : out < 2 ^ p

-- a bit, and what is twice as far up, over what is there
doubled : (b r q out : ℕ) → (b + 2 * r) * q + out ≡ r * (q * 2) + (b * q + out)
doubled b r q out = grind arith

bit_small : (t : Bool) (q out : ℕ) → out < q → cond t 1 0 * q + out < q * 2
bit_small true q out h = omega (arith, h)
bit_small false q out h = omega (arith, h)

-- one bit more, above all that is there
bit_put : (p out : ℕ) → p < 64 → out < 2 ^ p → bit_or out (1 * 2 ^ p % 18446744073709551616) ≡ 1 * 2 ^ p + out
bit_put p out h below = rw (bit_shifted p h) (or_comm out (2 ^ p) ∙ ap (λ q. bit_or q out) (sym (one-mul (2 ^ p))) ∙ or_shifted 1 p out below)

module _ (operations : List Operation) (o p out : ℕ) where
  -- whether the position at p is one of the operation's
  turn_gathered : (t : Bool) → p < length operations → eqb (get_or operations p (record { 0 = 0 })).0 o ≡ t
      → Gathered operations o p out → Gathered operations o (p + 1) (cond t 1 0 * 2 ^ p + out)
  unfolding positions_with
  turn_gathered t h e g =
      let double : 2 ^ (suc p) ≡ 2 ^ p * 2 = pow-suc 2 p in
      let here : positions_with (drop p operations) o ≡ cond t 1 0 + 2 * positions_with (drop (suc p) operations) o =
      rw (drop-cons operations p (record { 0 = 0 }) h, e) refl in
      rw (add-one p)
      (record {
        all = rw (double, g.all, here) (doubled _ _ _ _);
        below = rw double (bit_small t (2 ^ p) out g.below);
      })

  pub one_gathered : p < 64 → p < length operations → eqb (get_or operations p (record { 0 = 0 })).0 o ≡ true
      → Gathered operations o p out → Gathered operations o (p + 1) (bit_or out (1 * 2 ^ p % 18446744073709551616))
  one_gathered few h e g = rw (bit_put p out few g.below) (turn_gathered true h e g)

  pub none_gathered : p < length operations → eqb (get_or operations p (record { 0 = 0 })).0 o ≡ false
      → Gathered operations o p out → Gathered operations o (p + 1) out
  none_gathered h e g =
      let same : 0 * 2 ^ p + out ≡ out = omega arith in
      rw same at (turn_gathered false h e g)

  pub all_gathered : length operations ≤ p → Gathered operations o p out → out ≡ positions_with operations o
  unfolding positions_with
  all_gathered past g =
      let none : positions_with (drop p operations) o ≡ 0 = rw (drop_of_length-le operations past) refl in
      sym (rw none at g.all ∙ omega arith)
