-- The lines of an input, by where its first LF is: what stands before it is the first, and the others are the lines of what stands behind.
use mathlib.Core.Path.{◌≡◌, refl, ap}
use mathlib.Core.Bool.{Bool, true, false}
use mathlib.Core.List.{List, [], ◌∷◌}
use Prim.Native.Nat.{ℕ, suc, ◌+◌}
use native.Mathlib.Numerals.{add-one}
use lib.Dec.{eqb}
use lib.ListN.{take, drop}
use Rattle.text.specs.Tokens.{span}
use Rattle.wording.specs.Lines.{lf, before, onto, lines_of, first_of, behind_first, text_of, later_lines}

pub no_lines : lines_of [] ≡ []
unfolding lines_of
no_lines = refl

-- a byte that is not LF, in front of bytes whose lines are known
onto_first : (b : ℕ) (s : List ℕ) → eqb b lf ≡ false
    → onto b (lines_of s) ≡ (b ∷ take (before lf s) s) ∷ lines_of (drop (before lf s + 1) s)
    → lines_of (b ∷ s) ≡ take (before lf (b ∷ s)) (b ∷ s) ∷ lines_of (drop (before lf (b ∷ s) + 1) (b ∷ s))
unfolding span lines_of
onto_first b s e more = rw (e, add-one (suc (before lf s))) (rw (add-one (before lf s)) at more)

pub first_line : (b : ℕ) (s : List ℕ)
    → lines_of (b ∷ s) ≡ take (before lf (b ∷ s)) (b ∷ s) ∷ lines_of (drop (before lf (b ∷ s) + 1) (b ∷ s))
unfolding span lines_of
first_line b [] = go (eqb b lf) refl
  where
    go : (t : Bool) → eqb b lf ≡ t
        → lines_of (b ∷ []) ≡ take (before lf (b ∷ [])) (b ∷ []) ∷ lines_of (drop (before lf (b ∷ []) + 1) (b ∷ []))
    go true e = rw e refl
    go false e = onto_first b [] e refl
first_line b (d ∷ s) = go (eqb b lf) refl (first_line d s)
  where
    go : (t : Bool) → eqb b lf ≡ t
        → lines_of (d ∷ s) ≡ take (before lf (d ∷ s)) (d ∷ s) ∷ lines_of (drop (before lf (d ∷ s) + 1) (d ∷ s))
        → lines_of (b ∷ d ∷ s) ≡ take (before lf (b ∷ d ∷ s)) (b ∷ d ∷ s) ∷ lines_of (drop (before lf (b ∷ d ∷ s) + 1) (b ∷ d ∷ s))
    go true e rest = rw e refl
    go false e rest = onto_first b (d ∷ s) e (ap (onto b) rest)

-- the path's text, and the lines behind it
pub text_is : (s : List ℕ) → text_of s ≡ take (before lf s) s
unfolding span lines_of text_of
text_is [] = refl
text_is (b ∷ s) = ap first_of (first_line b s)

pub later_are : (s : List ℕ) → later_lines s ≡ lines_of (drop (before lf s + 1) s)
unfolding span lines_of later_lines
later_are [] = refl
later_are (b ∷ s) = ap behind_first (first_line b s)
