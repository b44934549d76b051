-- One more name at the end of a history, for any rows and permission sets: the set moves on once more, and the history is permitted if it
-- was and the name meets the set. By induction on the history.
use mathlib.Core.Path.{◌≡◌, refl, sym}
use mathlib.Core.Bool.{◌&&◌, and-true, and_assoc}
use mathlib.Core.List.{List, [], ◌∷◌, ◌++◌}
use Prim.Native.Nat.{ℕ}
use lib.Bits.{bit_and}
use Rattle.meaning.specs.Names.{Name}
use Rattle.meaning.specs.Sets.{meeting, union_of}
use Rattle.meaning.specs.Following.{set_after, permits}

module _ (rows : List ℕ) (permission : Name → ℕ) where
  pub set_with : (s : ℕ) (h : List Name) (k : Name)
      → set_after rows permission s (h ++ k ∷ []) ≡ union_of rows (bit_and (set_after rows permission s h) (permission k))
  unfolding set_after
  set_with s [] k = refl
  set_with s (j ∷ h) k = set_with (union_of rows (bit_and s (permission j))) h k

  pub permits_with : (s : ℕ) (h : List Name) (k : Name)
      → permits rows permission s (h ++ k ∷ []) ≡ (permits rows permission s h && meeting (set_after rows permission s h) (permission k))
  unfolding set_after permits
  permits_with s [] k = and-true (meeting s (permission k))
  permits_with s (j ∷ h) k = rw (permits_with (union_of rows (bit_and s (permission j))) h k) (sym (and_assoc (meeting s (permission j)) _ _))
