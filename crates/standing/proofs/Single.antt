-- The test that one number, and no other, is in a set.
use mathlib.Core.Path.{◌≡◌, refl, sym, ap, ◌∙◌}
use mathlib.Core.Bool.{Bool, true, false, false≢true}
use mathlib.Core.Logic.{◌↔◌}
use Prim.Native.Nat.{ℕ, zero, suc, ◌^◌, ◌/◌, ◌%◌, ◌<◌}
use native.Mathlib.Nat.{pow-suc, pow-zero, suc_inj}
use native.Mathlib.Omega.{arith}
use borrow.Author.Tests.{eqb-true, eqb-false, eq-eqb}
use lib.Count.{ones_step}
use lib.Dec.{eqb}
use Rattle.std.specs.Int.{is_power_of_two}
use Rattle.std.specs.Int.RustNames.{count_ones}
use Rattle.std.proofs.lemmas.Nat.{zero_from_ones}
use Rattle.meaning.specs.Sets.{mem, In}
use Rattle.meaning.proofs.SetLaws.{none_in, in_single, same_sets}

-- one number is in the set, and nothing else
abbrev pub Sole : ℕ → Type 0
Sole s = (o : ℕ) × In o s × ((q : ℕ) → In q s → q ≡ o)

odd_sole : (s : ℕ) → mem 0 s ≡ true → (eqb s 1 ≡ true) ↔ Sole s
odd_sole s odd = (
  λ h.
      let one : s ≡ 1 = eqb-true s 1 h in
      (0, odd, λ q i. (in_single q 0).0 (rw (one, ← pow-zero 2) at i)),
  λ h.
      eq-eqb s 1
      (same_sets s 1 (λ q. (λ i. (in_single q 0).1 (h.2 q i ∙ sym (h.2 0 odd)), λ i. rw ((in_single q 0).0 i) odd))),
)

even_sole : (s : ℕ) → mem 0 s ≡ false → Sole (s / 2) ↔ Sole s
unfolding mem
even_sole s even = (
  λ h. (suc h.0, h.1, λ q i. behind h.0 h.2 q i),
  λ h. before h.0 h.1 h.2,
)
  where
    behind : (o : ℕ) → ((q : ℕ) → In q (s / 2) → q ≡ o) → (q : ℕ) → In q s → q ≡ suc o
    behind o only zero i = absurd (false≢true (sym even ∙ i))
    behind o only (suc q) i = ap suc (only q i)

    before : (o : ℕ) → In o s → ((q : ℕ) → In q s → q ≡ o) → Sole (s / 2)
    before zero i only = absurd (false≢true (sym even ∙ i))
    before (suc o) i only = (o, i, λ q m. suc_inj (only (suc q) m))

-- a set with the number 0 is that of 0 alone exactly if it has one
odd_one : (s : ℕ) → s % 2 ≡ 1 → (count_ones s ≡ 1) ↔ (s ≡ 1)
unfolding count_ones
odd_one s odd = (
  λ one.
      let rest : s / 2 ≡ 0 = zero_from_ones (s / 2) (omega (arith, one, odd, ones_step s)) in
      omega (arith, odd, rest),
  λ e. rw e,
)

by_parity : (s : ℕ) (b : Bool) → mem 0 s ≡ b → (is_power_of_two (s / 2) ≡ true) ↔ Sole (s / 2)
    → (is_power_of_two s ≡ true) ↔ Sole s
unfolding mem
by_parity s true e half =
    let odd = odd_one s (eqb-true (s % 2) 1 e) in (
      λ h. (odd_sole s e).0 (eq-eqb s 1 (odd.0 (eqb-true _ 1 h))),
      λ h. eq-eqb _ 1 (odd.1 (eqb-true s 1 ((odd_sole s e).1 h))),
    )
by_parity s false e half =
    let same : count_ones s ≡ count_ones (s / 2) = omega (arith, ones_step s, eqb-false (s % 2) 1 e) in
    rw same (λ h. (even_sole s e).0 (half.0 h), λ h. half.1 ((even_sole s e).1 h))

pub sole_says : (k s : ℕ) → s < 2 ^ k → (is_power_of_two s ≡ true) ↔ Sole s
unfolding count_ones
sole_says zero s small =
    let empty : s ≡ 0 = omega (arith, pow-zero 2) in
    (λ h. absurd (false≢true (rw empty at h)), λ h. none_in h.0 (rw empty at h.1))
sole_says (suc k) s small = by_parity s (mem 0 s) refl (sole_says k (s / 2) (omega (arith, pow-suc 2 k)))
