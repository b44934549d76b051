-- Numbers below m that are all different are at most m. If one number below m is none of them, it can stand in for m - 1: then
-- they are still different, and below m - 1. So a list of different terminals has room for one more where some terminal does
-- not wait.
use mathlib.Core.Path.{◌≡◌, refl, sym, ◌∙◌}
use mathlib.Core.Bool.{Bool, true, false, cond}
use mathlib.Core.Logic.{◌≢◌}
use Prim.Native.Nat.{ℕ, zero, suc, ◌<◌, ◌≤◌}
use native.Mathlib.Omega.{arith}
use borrow.Author.Tests.{eqb-true, eqb-false}
use lib.Dec.{eqb}
use Rattle.steps.specs.Promises.{RoomForOne}
use Rattle.standing.specs.Soundness.{terminal_in}

-- f 0 to f (n - 1) are below m, and all different
pub record Different (n m : ℕ) (f : ℕ → ℕ) : Type 0 where
  pub below : (i : ℕ) → i < n → f i < m
  pub apart : (i j : ℕ) → i < n → j < n → f i ≡ f j → i ≡ j

all_but_last : {n m : ℕ} {f : ℕ → ℕ} → Different (suc n) m f → Different n m f
all_but_last d = record { below = λ i l. d.below i (omega arith); apart = λ i j k l. d.apart i j (omega arith) (omega arith) }

-- z in the place of m
instead_of : ℕ → ℕ → ℕ → ℕ
instead_of m z k = cond (eqb k m) z k

-- m becomes z, or it was another number and stays
data Replaced (m z k r : ℕ) : Type 0 where
  replaced : k ≡ m → r ≡ z → Replaced m z k r
  kept : k ≢ m → r ≡ k → Replaced m z k r

replaces : (m z k : ℕ) → Replaced m z k (instead_of m z k)
unfolding instead_of
replaces m z k = go (eqb k m) refl
  where
    go : (b : Bool) → eqb k m ≡ b → Replaced m z k (cond b z k)
    go true e = replaced (eqb-true k m e) refl
    go false e = kept (eqb-false k m e) refl

module _ (n m : ℕ) (f : ℕ → ℕ) (d : Different n (suc m) f) (z : ℕ) (few : z < suc m) (spare : (i : ℕ) → i < n → f i ≢ z) where
  lower : (i : ℕ) → i < n → (r : ℕ) → Replaced m z (f i) r → r < m
  lower i l r (replaced p q) = omega (arith, spare i l)
  lower i l r (kept p q) = omega (arith, d.below i l)

  still_apart : (i j : ℕ) → i < n → j < n → (r : ℕ) → Replaced m z (f i) r → Replaced m z (f j) r → i ≡ j
  still_apart i j k l r (replaced p q) (replaced p' q') = d.apart i j k l (p ∙ sym p')
  still_apart i j k l r (replaced p q) (kept p' q') = absurd (spare j l (sym q' ∙ q))
  still_apart i j k l r (kept p q) (replaced p' q') = absurd (spare i k (sym q ∙ q'))
  still_apart i j k l r (kept p q) (kept p' q') = d.apart i j k l (sym q ∙ q')

  with_one_spare : Different n m (λ i. instead_of m z (f i))
  with_one_spare =
      record {
        below = λ i l. lower i l _ (replaces m z (f i));
        apart = λ i j k l e. still_apart i j k l _ (rw e at (replaces m z (f i))) (replaces m z (f j));
      }

pub pigeonhole : (m n : ℕ) (f : ℕ → ℕ) → Different n m f → n ≤ m
pigeonhole m zero f d = omega arith
pigeonhole zero (suc n) f d = absurd (omega (arith, d.below 0 (omega arith)))
pigeonhole (suc m) (suc n) f d =
    let last : (i : ℕ) → i < n → f i ≢ f n = λ i l e. omega (arith, d.apart i n (omega arith) (omega arith) e) in
    omega (arith, pigeonhole m n _ (with_one_spare n m f (all_but_last d) (f n) (d.below n (omega arith)) last))

pub room_for_one : RoomForOne
room_for_one s l t sound few waits-not =
    let n = s.waiting in
    let all : Different n 64 (terminal_in l) = record { below = sound.terminals_below; apart = sound.terminals_differ } in
    omega (arith, pigeonhole 63 n _ (with_one_spare n 63 (terminal_in l) all t few (λ i h e. waits-not (i, h, e))))
