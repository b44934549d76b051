-- Comparing names: std's equality of slices is that of names, whose keys are the names themselves; and names of other lengths, or with
-- another byte at some place, are never the same.
use Rattle.std.proofs.Common.{◌≡◌, refl, List, [], ◌∷◌, ℕ, nat_eq, get_or, length, false}
use mathlib.Core.Path.{ap}
use Rattle.std.specs.Cmp.Lexicographic.{pointwise}
use Rattle.meaning.specs.Names.{same}
use Rattle.meaning.proofs.NameLaws.{different_not_same}

pub same_pointwise : (a b : List ℕ) → pointwise nat_eq a b ≡ same a b
unfolding same
same_pointwise [] [] = refl
same_pointwise [] (y ∷ b) = refl
same_pointwise (x ∷ a) [] = refl
same_pointwise (x ∷ a) (y ∷ b) = rw (same_pointwise a b) refl

pub lengths_differ_is_false : (a b : List ℕ) → (length a ≡ length b → ⊥) → same a b ≡ false
lengths_differ_is_false a b h = different_not_same a b (λ e. h (ap length e))

pub byte_differs_is_false : (a b : List ℕ) (i : ℕ) → (get_or a i 0 ≡ get_or b i 0 → ⊥) → same a b ≡ false
byte_differs_is_false a b i h = different_not_same a b (λ e. h (ap (λ (l : List ℕ). get_or l i 0) e))
