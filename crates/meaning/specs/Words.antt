-- The language of an expression, and the histories that it permits.
use Rattle.std.specs.Prelude.{◌≡◌, List, [], ◌∷◌, ◌++◌, ◌⊎◌}
use Rattle.meaning.specs.Names.{Name, key}

-- sequence, choice, repetition (document 001, section 2)
pub data Expr : Type 0 where
  name : Name → Expr
  seq : Expr → Expr → Expr
  choice : Expr → Expr → Expr
  star : Expr → Expr

-- w is made of some words of W, one after the other
pub data Repeated (W : List Name → Type 0) : List Name → Type 0 where
  none : {w : List Name} → w ≡ [] → Repeated W w
  more : {w : List Name} (u v : List Name) → W u → Repeated W v → w ≡ u ++ v → Repeated W w

-- "the language of an expression is the usual one of regular expressions over names": w is a word of e
unfoldable pub Word : Expr → List Name → Type 0
Word (name n) w = w ≡ key n ∷ []
Word (seq a b) w = (u v : List Name) × Word a u × Word b v × (w ≡ u ++ v)
Word (choice a b) w = Word a w ⊎ Word b w
Word (star a) w = Repeated (Word a) w

-- "a history is permitted if it is a beginning of a word of the repeated expression"
abbrev pub Begins : Expr → List Name → Type 0
Begins e h = (w : List Name) × Word (star e) (h ++ w)

-- the names of e as written, from the left
unfoldable pub names : Expr → List Name
names (name n) = n ∷ []
names (seq a b) = names a ++ names b
names (choice a b) = names a ++ names b
names (star a) = names a
