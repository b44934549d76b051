-- Following rows and permission sets through a history: by single positions, by sets, and as a line does.
use Rattle.std.specs.Prelude.{Bool, true, ◌&&◌, List, [], ◌∷◌, ℕ, get_or}
use Rattle.std.specs.Int.Bits.{bit_and}
use Rattle.meaning.specs.Names.{Name}
use Rattle.meaning.specs.Sets.{In, meeting, union_of}

module _ (rows : List ℕ) (permission : Name → ℕ) where
  -- a walk through positions, from a set along the rows, spells the history
  unfoldable pub Walk : ℕ → List Name → Type 0
  Walk s [] = Unit
  Walk s (k ∷ h) = (p : ℕ) × In p s × In p (permission k) × Walk (get_or rows p 0) h

  -- the set kept after the history: what both share at an ask, the union of the rows at a finish
  unfoldable pub set_after : ℕ → List Name → ℕ
  set_after s [] = s
  set_after s (k ∷ h) = set_after (union_of rows (bit_and s (permission k))) h

  -- "a table permits a history if each of its operations in turn meets the set and moves it as an ask and a finish do"
  unfoldable pub permits : ℕ → List Name → Bool
  permits s [] = true
  permits s (k ∷ h) =
      meeting s (permission k) && permits (union_of rows (bit_and s (permission k))) h
