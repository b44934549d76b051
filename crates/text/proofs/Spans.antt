-- Laws of `span`, over any test.
use mathlib.Core.Path.{◌≡◌}
use mathlib.Core.Bool.{Bool, true, false, cond}
use mathlib.Core.List.{List, [], ◌∷◌}
use Prim.Native.Nat.{ℕ, suc, ◌≤◌}
use native.Mathlib.Omega.{arith}
use lib.ListN.{length}
use Rattle.text.specs.Tokens.{span}

module _ (test : ℕ → Bool) where
  -- a byte that passes counts; one that fails ends the count
  pub span_counts : (b : ℕ) (s : List ℕ) → test b ≡ true → span test (b ∷ s) ≡ suc (span test s)
  unfolding span
  span_counts b s e = rw e

  pub span_ends : (b : ℕ) (s : List ℕ) → test b ≡ false → span test (b ∷ s) ≡ 0
  unfolding span
  span_ends b s e = rw e

-- one more or none, by a test
counted_within : (t : Bool) (n m : ℕ) → n ≤ m → cond t (suc n) 0 ≤ suc m
counted_within true n m h = omega arith
counted_within false n m h = omega arith

pub span_within : (test : ℕ → Bool) (s : List ℕ) → span test s ≤ length s
unfolding span
span_within test [] = omega arith
span_within test (b ∷ s) = counted_within (test b) (span test s) (length s) (span_within test s)
