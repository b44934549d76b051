-- What `position`, `contains` and `==` of slices answer, and where `split_inclusive` cuts one, in the words of the lines.
use Rattle.std.proofs.Common.{◌≡◌, ℕ, suc, Bool, true, false, not, ◌&&◌, List, [], ◌∷◌, length, ltb, ◌≤◌, refl, sym, ap, ◌∙◌, arith}
use Rattle.std.proofs.lemmas.Grind.{common_steps}
use Rattle.std.specs.Prelude.{eqb}
use Rattle.std.specs.Option.{unwrap_or}
use Rattle.std.specs.List.{position, position_or_len, list_any, IsFirstMatchOrLen}
use Rattle.std.specs.Str.{bytes_eq}
use Rattle.std.proofs.lemmas.List.Sums.{prefix_len-le-length, position_or_len_is}
use Rattle.std.proofs.lemmas.Bool.{eq-eqb}
use mathlib.Core.Bool.{false≢true}
use mathlib.Core.Logic.{⊎_elim}
use native.Mathlib.Nat.{le_refl}
use lib.ListN.{get_or-eq_default}
use Rattle.meaning.proofs.SetLaws.{below_or_not}
use Rattle.meaning.specs.Names.{same}
use Rattle.text.specs.Tokens.{span}
use Rattle.text.proofs.Firsts.{span_is, unwrap_cut}
use Rattle.wording.specs.Lines.{before}

-- the first place of b, or the end
pub before_first : (b : ℕ) (s : List ℕ) → unwrap_or (position (λ x. eqb x b) s) (length s) ≡ before b s
before_first b s =
    unwrap_cut (position_or_len (λ x. eqb x b) s) (length s) (prefix_len-le-length _ s) ∙ span_is (λ x. not (eqb x b)) s

-- two have the same bytes
pub same_bytes : (s t : List ℕ) → bytes_eq s t ≡ same s t
unfolding same
same_bytes [] [] = refl
same_bytes [] (b ∷ t) = refl
same_bytes (a ∷ s) [] = refl
same_bytes (a ∷ s) (b ∷ t) = ap (λ r. eqb a b && r) (same_bytes s t)

-- where a slice is cut: at the first b, or at the end
pub first_match : (b : ℕ) (s : List ℕ) (i : ℕ) → IsFirstMatchOrLen (λ x. eqb x b) s i → i ≡ before b s
first_match b s i found =
    sym (position_or_len_is (λ x. eqb x b) s i 0 within (λ k h. found.0 k 0 (omega arith) h) (λ h. found.1 h 0))
    ∙ span_is (λ x. not (eqb x b)) s
  where
    -- behind the end `found` would say of b itself that it is another byte
    within : i ≤ length s
    within =
        ⊎_elim
        (λ past.
        let other = found.0 (length s) b (omega arith) past in
        absurd (false≢true (sym (rw (get_or-eq_default s b (le_refl (length s))) at other) ∙ eq-eqb b b refl)))
        (λ h. h)
        (below_or_not (length s) i)

suc_below : (m n : ℕ) → ltb m n ≡ ltb (suc m) (suc n)
suc_below m n = grind (arith, common_steps)

some_below : (n : ℕ) → true ≡ ltb 0 (suc n)
some_below n = grind (arith, common_steps)

-- whether some byte is b
pub has_first : (b : ℕ) (s : List ℕ) → list_any (λ x. eqb x b) s ≡ ltb (before b s) (length s)
unfolding span
has_first b [] = refl
has_first b (d ∷ s) = go (eqb d b) refl (has_first b s)
  where
    go : (t : Bool) → eqb d b ≡ t → list_any (λ x. eqb x b) s ≡ ltb (before b s) (length s)
        → list_any (λ x. eqb x b) (d ∷ s) ≡ ltb (before b (d ∷ s)) (length (d ∷ s))
    go true e rest = rw e (some_below (length s))
    go false e rest = rw (e, rest) (suc_below (before b s) (length s))
