-- Tests of every number in a range: the test of a range is true exactly if each test is; and what `all` says of a list, of its items
-- with their places and of a part of it is such a test.
use Rattle.std.specs.List.{list_all, enumerate_from}
use lib.ListN.{length, get_or, take, drop}
use lib.Seq.{drop-cons}
use mathlib.Core.List.{List, [], ◌∷◌}
use mathlib.Core.Path.{◌≡◌, refl, sym, ap, ◌∙◌}
use mathlib.Core.Bool.{Bool, true, ◌&&◌, and-eq-true_iff}
use mathlib.Core.Logic.{⊎_elim}
use Prim.Native.Nat.{ℕ, zero, suc, ◌+◌, ◌-◌, ◌≤◌, ◌<◌}
use native.Mathlib.Numerals.{add-one}
use native.Mathlib.Omega.{arith}
use lib.Dec.{eqb, eqb-suc-zero}
use Rattle.std.specs.Int.Bits.{bit_or, or_zero_l}
use Rattle.std.proofs.lemmas.Nat.{le_or_l}
use Rattle.std.proofs.lemmas.Bool.{ne_eqb}
use Rattle.meaning.proofs.SetLaws.{below_or_not}
use Rattle.table.specs.Tests.{passing, each}

module _ (test : ℕ → Bool) where
  passing_each : (k from p : ℕ) → passing test from k ≡ true → from ≤ p → p < from + k → test p ≡ true
  unfolding passing
  passing_each zero from p t l h = absurd (omega arith)
  passing_each (suc k) from p t l h =
      let both = (and-eq-true_iff (test from) (passing test (suc from) k)).0 t in
      ⊎_elim
      (λ later. passing_each k (suc from) p both.1 later (omega arith))
      (λ first. let e : p ≡ from = omega arith in rw e both.0)
      (below_or_not from p)

  each_passing : (k from : ℕ) → ((p : ℕ) → from ≤ p → p < from + k → test p ≡ true) → passing test from k ≡ true
  unfolding passing
  each_passing zero from t = refl
  each_passing (suc k) from t =
      rw (t from (omega arith) (omega arith)) (each_passing k (suc from) (λ p l h. t p (omega arith) (omega arith)))

  pub each_says : (from to p : ℕ) → each test from to ≡ true → from ≤ p → p < to → test p ≡ true
  each_says from to p t l h = passing_each (to - from) from p t l (omega arith)

  pub each_said : (from to : ℕ) → ((p : ℕ) → from ≤ p → p < to → test p ≡ true) → each test from to ≡ true
  each_said from to t = each_passing (to - from) from (λ p l h. t p l (omega arith))

-- What `all` says of the items of a list with their places is the test of the places.
passing_same : (f g : ℕ → Bool) (k from : ℕ) → ((p : ℕ) → from ≤ p → f p ≡ g p) → passing f from k ≡ passing g from k
unfolding passing
passing_same f g zero from same = refl
passing_same f g (suc k) from same =
    rw (same from (omega arith), passing_same f g k (suc from) (λ p h. same p (omega arith))) refl

module _ {A : Type 0} (test : ℕ → A → Bool) (d : A) where
  later : (p n : ℕ) (x : A) (xs : List A) → suc n ≤ p → get_or (x ∷ xs) (p - n) d ≡ get_or xs (p - suc n) d
  later p n x xs h =
      let one : p - n ≡ suc (p - suc n) = omega arith in
      rw one refl

  all_from : (xs : List A) (n : ℕ)
      → list_all (λ (q : ℕ × A). test q.0 q.1) (enumerate_from n xs) ≡ passing (λ p. test p (get_or xs (p - n) d)) n (length xs)
  unfolding passing
  all_from [] n = refl
  all_from (x ∷ xs) n =
      let here : n - n ≡ 0 = omega arith in
      rw (
        here,
        add-one n,
        all_from xs (suc n),
        passing_same _ (λ p. test p (get_or (x ∷ xs) (p - n) d)) (length xs) (suc n) (λ p h. ap (test p) (sym (later p n x xs h))),
      ) refl

  pub all_each : (xs : List A) (n : ℕ) → length xs ≡ n
      → list_all (λ (q : ℕ × A). test q.0 q.1) (enumerate_from 0 xs) ≡ each (λ p. test p (get_or xs p d)) 0 n
  all_each xs n e =
      all_from xs 0
      ∙ passing_same _ _ (length xs) 0 (λ p h. let all : p - 0 ≡ p = omega arith in rw all refl)
      ∙ ap (passing (λ p. test p (get_or xs p d)) 0) (omega (arith, e))

-- What `all` says of a part of a list is the test of its places.
pub all_part : {A : Type 0} (test : A → Bool) (d : A) (n from : ℕ) (xs : List A) → from + n ≤ length xs
    → list_all test (take n (drop from xs)) ≡ passing (λ p. test (get_or xs p d)) from n
unfolding passing
all_part test d zero from xs h = refl
all_part test d (suc n) from xs h = rw (drop-cons xs from d (omega arith), all_part test d n (suc from) xs (omega arith)) refl

-- Numbers are 0, both, exactly if all their bits together are.
pub or_is_zero : (a b : ℕ) → eqb (bit_or a b) 0 ≡ eqb a 0 && eqb b 0
or_is_zero zero b = rw (or_zero_l b) refl
or_is_zero (suc a) b = rw (eqb-suc-zero a) (ne_eqb _ _ (λ e. omega (arith, e, le_or_l (suc a) b)))
