-- Lines that are cut off one after the other, each with its LF: the text of each, and the lines behind it.
use mathlib.Core.Path.{◌≡◌, refl, sym, ap, ◌∙◌}
use mathlib.Core.Bool.{Bool, true, false}
use mathlib.Core.Logic.{⊎_elim}
use mathlib.Core.List.{List, [], ◌∷◌, ◌++◌}
use Prim.Native.Nat.{ℕ, suc, ◌+◌, ◌-◌, ◌<◌, ◌≤◌, min}
use native.Mathlib.Numerals.{add-one}
use native.Mathlib.Omega.{arith}
use lib.Dec.{eqb}
use lib.ListN.{length, get_or, take, drop, drop_of_length-le}
use Rattle.std.specs.Io.BufRead.{strip_last}
use Rattle.std.specs.List.{IsFirstMatchOrLen}
use Rattle.std.proofs.lemmas.List.{take-take, take_at, take_all, length-take-le, get_or-take, drop_at}
use Rattle.std.proofs.lemmas.Grind.{common_steps}
use Rattle.meaning.proofs.SetLaws.{below_or_not}
use Rattle.text.specs.Tokens.{span}
use Rattle.std.proofs.lemmas.List.{take_min}
use Rattle.wording.specs.Lines.{lf, before, lines_of}
use Rattle.wording.proofs.Firsts.{first_match}
use Rattle.wording.proofs.Pieces.{no_lines, first_line}

drop_capped : (n : ℕ) (s : List ℕ) → drop (min n (length s)) s ≡ drop n s
drop_capped n s =
    ⊎_elim
    (λ h. ap (λ (k : ℕ). drop k s) {x = min n (length s)} {y = n} (omega arith))
    (λ h. drop_of_length-le s (omega arith) ∙ sym (drop_of_length-le s h))
    (below_or_not n (length s))

-- up to its first LF, that LF included, a text has as much before its first LF
before_front : (s : List ℕ) → before lf (take (before lf s + 1) s) ≡ before lf s
unfolding span
before_front [] = refl
before_front (b ∷ s) = go (eqb b lf) refl (before_front s)
  where
    go : (t : Bool) → eqb b lf ≡ t → before lf (take (before lf s + 1) s) ≡ before lf s
        → before lf (take (before lf (b ∷ s) + 1) (b ∷ s)) ≡ before lf (b ∷ s)
    go true e rest = rw e (rw e refl)
    go false e rest = rw (e, add-one (suc (before lf s))) (rw e (ap suc (rw (add-one (before lf s)) at rest)))

first_line_of : (s : List ℕ) → 0 < length s → lines_of s ≡ take (before lf s) s ∷ lines_of (drop (before lf s + 1) s)
first_line_of [] h = absurd (omega (arith, h))
first_line_of (b ∷ s) h = first_line b s

pub no_lines_left : (s : List ℕ) → length s ≡ 0 → lines_of s ≡ []
no_lines_left [] e = no_lines
no_lines_left (b ∷ s) e = absurd (omega (arith, e))

-- where x is cut off s, up to and with its first LF
piece_is : (s x rest : List ℕ) (i : ℕ) → s ≡ x ++ rest → length x ≡ min (i + 1) (length s) → IsFirstMatchOrLen (λ y. eqb y lf) s i
    → x ≡ take (before lf s + 1) s
piece_is s x rest i parts long found =
    sym (rw (← parts) at (take_at x rest (length x) refl)) ∙ ap (λ k. take k s) long ∙ take_min (i + 1) s
    ∙ ap (λ k. take (k + 1) s) (first_match lf s i found)

-- a text that ends with b, without it
strip_last_at : (b : ℕ) (x : List ℕ) (k : ℕ) → length x ≡ k + 1 → eqb (get_or x k 0) b ≡ true → strip_last b x ≡ take k x
strip_last_at b x k long ends = grind (arith, common_steps)

-- a text that does not end with b
strip_last_none : (b : ℕ) (x : List ℕ) → (0 < length x → eqb (get_or x (length x - 1) 0) b ≡ false) → strip_last b x ≡ x
strip_last_none b x other = grind (arith, common_steps)

-- up to its first LF, that LF included, a text without an LF at its end is what stands before that LF
front_without_end : (s : List ℕ) (i : ℕ) → IsFirstMatchOrLen (λ y. eqb y lf) s i → strip_last lf (take (i + 1) s) ≡ take i s
front_without_end s i found = ⊎_elim ended endless (below_or_not i (length s))
  where
    ended : i < length s → strip_last lf (take (i + 1) s) ≡ take i s
    ended h =
        strip_last_at lf (take (i + 1) s) i (length-take-le (i + 1) s (omega arith))
        (ap (λ y. eqb y lf) (get_or-take (i + 1) s i 0 (omega arith)) ∙ found.1 h 0)
        ∙ take-take i (i + 1) s (omega arith)

    endless : length s ≤ i → strip_last lf (take (i + 1) s) ≡ take i s
    endless h =
        rw (take_all (i + 1) s (omega arith), take_all i s h)
        (strip_last_none lf s (λ some. found.0 (length s - 1) 0 (omega arith) (omega arith)))

-- so cut off, x without an LF at its end is what stands before its first LF
pub piece_without_end : (s x rest : List ℕ) (i : ℕ) → s ≡ x ++ rest → length x ≡ min (i + 1) (length s)
    → IsFirstMatchOrLen (λ y. eqb y lf) s i → strip_last lf x ≡ take (before lf x) x
piece_without_end s x rest i parts long found =
    let at : i ≡ before lf s = first_match lf s i found in
    let x-is = piece_is s x rest i parts long found in
    rw (x-is, before_front s) (rw at at (front_without_end s i found) ∙ sym (take-take (before lf s) (before lf s + 1) s (omega arith)))

-- so cut off, x gives the first of the lines, and the others are those behind it
pub line_cut : (s x rest : List ℕ) (i b : ℕ) → s ≡ x ++ rest → length x ≡ min (i + 1) (length s) → IsFirstMatchOrLen (λ y. eqb y lf) s i
    → 0 < length s → b ≡ before lf x → lines_of s ≡ take b x ∷ lines_of rest
line_cut s x rest i b parts long found some told =
    let at : i ≡ before lf s = first_match lf s i found in
    let x-is : x ≡ take (before lf s + 1) s = piece_is s x rest i parts long found in
    let rest-is : rest ≡ drop (before lf s + 1) s =
    sym (rw (← parts) at (drop_at x rest (length x) refl)) ∙ ap (λ k. drop k s) long ∙ drop_capped (i + 1) s ∙ ap (λ k. drop (k + 1) s) at
    in
    let b-is : b ≡ before lf s = told ∙ ap (λ y. before lf y) x-is ∙ before_front s in
    rw (b-is, x-is, rest-is)
    (first_line_of s some ∙ ap (λ t. t ∷ lines_of (drop (before lf s + 1) s)) (sym (take-take (before lf s) (before lf s + 1) s (omega arith))))
