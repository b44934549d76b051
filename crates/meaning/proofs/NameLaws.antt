-- `same` decides equality of names: by induction on both.
use mathlib.Core.Path.{◌≡◌, refl, ap₂}
use mathlib.Core.Bool.{Bool, true, false, false≢true, and-eq-true_iff}
use mathlib.Core.List.{[], ◌∷◌}
use Prim.Native.Nat.{ℕ}
use borrow.Author.Tests.{eqb-true, eq-eqb}
use lib.Dec.{eqb}
use Rattle.meaning.specs.Names.{Name, same}

pub same_equal : (m n : Name) → same m n ≡ true → m ≡ n
unfolding same
same_equal [] [] h = refl
same_equal [] (b ∷ n) h = absurd (false≢true h)
same_equal (a ∷ m) [] h = absurd (false≢true h)
same_equal (a ∷ m) (b ∷ n) h =
    let t = (and-eq-true_iff (eqb a b) (same m n)).0 h in
    ap₂ (λ (x : ℕ) (y : Name). x ∷ y) (eqb-true a b t.0) (same_equal m n t.1)

pub same_self : (n : Name) → same n n ≡ true
unfolding same
same_self [] = refl
same_self (a ∷ n) = rw (eq-eqb a a refl) (same_self n)

pub equal_same : (m n : Name) → m ≡ n → same m n ≡ true
equal_same m n e = rw e (same_self n)

pub different_not_same : (m n : Name) → (m ≡ n → ⊥) → same m n ≡ false
different_not_same m n h = go (same m n) refl
  where
    go : (t : Bool) → same m n ≡ t → t ≡ false
    go true e = absurd (h (same_equal m n e))
    go false e = refl
