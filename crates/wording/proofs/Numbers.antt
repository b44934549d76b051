-- Reading a number digit by digit: what is left of it, and how large it can have become.
use mathlib.Core.Path.{◌≡◌, refl}
use mathlib.Core.Bool.{Bool, true, false, ◌&&◌, false≢true}
use mathlib.Core.Logic.{◌⊎◌, inl, inr}
use mathlib.Core.List.{List, []}
use Prim.Native.Nat.{ℕ, ◌+◌, ◌*◌, ◌-◌, ◌≤◌, ◌<◌}
use native.Mathlib.Numerals.{add-one}
use native.Mathlib.Omega.{arith}
use borrow.Author.Tests.{leb-true, lt-leb, le-leb}
use lib.Dec.{leb}
use lib.ListN.{length, drop, get_or}
use lib.Seq.{drop-cons}
use Rattle.text.specs.Classes.{is_digit}
use Rattle.wording.specs.Orders.{all_digits, is_number, value_from, value_of, number_in}
use Rattle.std.specs.Prelude.{Some, None}

pub digit_range : (b : ℕ) → is_digit b ≡ true → (48 ≤ b) × (b ≤ 57)
digit_range b e = go (leb 48 b) (leb b 57) refl refl e
  where
    go : (u v : Bool) → leb 48 b ≡ u → leb b 57 ≡ v → (u && v) ≡ true → (48 ≤ b) × (b ≤ 57)
    go true true p q h = (leb-true 48 b p, leb-true b 57 q)
    go true false p q h = absurd (false≢true h)
    go false v p q h = absurd (false≢true h)

module _ (s : List ℕ) (i : ℕ) (h : i < length s) where
  pub digit_here : is_digit (get_or s i 0) ≡ true → all_digits (drop i s) ≡ all_digits (drop (i + 1) s)
  unfolding all_digits
  digit_here e = rw (add-one i, drop-cons s i 0 h, e) refl

  pub no_digit_here : is_digit (get_or s i 0) ≡ false → all_digits (drop i s) ≡ false
  unfolding all_digits
  no_digit_here e = rw (drop-cons s i 0 h, e) refl

  pub value_here : (v : ℕ) → value_from v (drop i s) ≡ value_from (v * 10 + (get_or s i 0 - 48)) (drop (i + 1) s)
  unfolding value_from
  value_here v = rw (add-one i, drop-cons s i 0 h) refl

pub all_of_none : all_digits [] ≡ true
unfolding all_digits
all_of_none = refl

pub value_of_none : {v : ℕ} → value_from v [] ≡ v
unfolding value_from
value_of_none = refl

-- a number of i digits, of 3 at most
pub record Small (i v : ℕ) : Type 0 where
  pub none : i ≤ 0 → v ≤ 0
  pub one : i ≤ 1 → v ≤ 9
  pub two : i ≤ 2 → v ≤ 99
  pub three : v ≤ 999

pub no_digits : Small 0 0
no_digits = record { none = λ h. h; one = λ h. omega arith; two = λ h. omega arith; three = omega arith }

pub small_next : (i v b : ℕ) → i < 3 → 48 ≤ b → b ≤ 57 → Small i v → Small (i + 1) (v * 10 + (b - 48))
small_next i v b h low high so =
    record {
      none = λ g. absurd (omega (arith, g));
      one = λ g. let z = so.none (omega (arith, g)) in omega (arith, z, high);
      two = λ g. let z = so.one (omega (arith, g)) in omega (arith, z, high);
      three = let z = so.two (omega (arith, h)) in omega (arith, z, high);
    }

-- what is no number
pub not_one_to_three : (s : List ℕ) → (length s ≡ 0) ⊎ (3 < length s) → number_in s ≡ None
unfolding is_number number_in
not_one_to_three s (inl e) = rw e refl
not_one_to_three s (inr h) = go (leb 1 (length s)) refl
  where
    go : (u : Bool) → leb 1 (length s) ≡ u → number_in s ≡ None
    go true e = rw (e, lt-leb (length s) 3 h) refl
    go false e = rw e refl

module _ (s : List ℕ) (few : length s ≤ 3) (some : 1 ≤ length s) where
  pub not_all_digits : all_digits s ≡ false → number_in s ≡ None
  unfolding is_number number_in
  not_all_digits e = rw (le-leb 1 (length s) some, le-leb (length s) 3 few, e) refl

  pub is_the_number : (v : ℕ) → all_digits s ≡ true → value_of s ≡ v → number_in s ≡ Some (record { 0 = v })
  unfolding is_number number_in
  is_the_number v e w = rw (le-leb 1 (length s) some, le-leb (length s) 3 few, e, w) refl
