-- A set is below 2 ^ n if nothing is left of it shifted by n, and every set is for n from 64 on.
use mathlib.Core.Path.{◌≡◌, sym, ◌∙◌}
use mathlib.Core.Bool.{true}
use mathlib.Core.Logic.{⊎_elim}
use Prim.Native.Nat.{ℕ, ◌/◌, ◌^◌, ◌≤◌, ◌<◌}
use native.Mathlib.Nat.{div-lt_iff_lt-mul}
use native.Mathlib.Omega.{arith}
use lib.Dec.{eqb, ltb}
use lib.Pow.{pow_pos, pow_mono}
use borrow.Author.Tests.{lt-ltb, le-ltb, eq-eqb, ne_eqb}
use Rattle.meaning.proofs.SetLaws.{below_or_not}

pub shifted_empty : (s n : ℕ) → eqb (s / 2 ^ n) 0 ≡ ltb s (2 ^ n)
shifted_empty s n =
    let none = div-lt_iff_lt-mul {k = 2 ^ n} {x = s} {y = 1} (pow_pos n) in
    ⊎_elim
    (λ h. eq-eqb (s / 2 ^ n) 0 (omega (arith, none.1 (omega arith))) ∙ sym (lt-ltb s (2 ^ n) h))
    (λ h. ne_eqb (s / 2 ^ n) 0 (λ e. omega (arith, none.0 (omega arith))) ∙ sym (le-ltb s (2 ^ n) h))
    (below_or_not s (2 ^ n))

pub below_wide : (s n : ℕ) → 64 ≤ n → s < 2 ^ 64 → ltb s (2 ^ n) ≡ true
below_wide s n h small =
    let wide : 2 ^ 64 ≤ 2 ^ n = pow_mono h in
    lt-ltb s (2 ^ n) (omega arith)
