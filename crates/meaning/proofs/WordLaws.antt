-- Words of a repetition: a word of the part is one, and one that is not empty starts with a word of the part that is not empty. And
-- every expression has a word that is not empty.
use mathlib.Core.Path.{◌≡◌, refl, sym, ◌∙◌}
use mathlib.Core.Logic.{◌⊎◌, inl, inr}
use mathlib.Core.List.{List, [], ◌∷◌, ◌++◌, append-nil}
use Rattle.meaning.specs.Names.{Name, key}
use Rattle.meaning.specs.Words.{Expr, Repeated, Word}
use Rattle.meaning.specs.Words.Expr.{name, seq, choice, star}
use Rattle.meaning.specs.Words.Repeated.{none, more}

pub repeated_once : (W : List Name → Type 0) (w : List Name) → W w → Repeated W w
repeated_once W w h = more w [] h (none refl) (sym (append-nil w))

-- a word of W that is not empty, and a repetition after it
abbrev pub Opened : (List Name → Type 0) → List Name → Type 0
Opened W w = (k : Name) × (x v : List Name) × W (k ∷ x) × Repeated W v × (w ≡ k ∷ (x ++ v))

-- the empty words in front can be left out
pub repeated_opens : (W : List Name → Type 0) {w : List Name} → Repeated W w → (w ≡ []) ⊎ Opened W w
repeated_opens W (none e) = inl e
repeated_opens W {w} (more u v h t e) = go u h e (repeated_opens W t)
  where
    go : (u : List Name) → W u → w ≡ u ++ v → (v ≡ []) ⊎ Opened W v → (w ≡ []) ⊎ Opened W w
    go [] h e (inl n) = inl (e ∙ n)
    go [] h e (inr (k, x, y, f, r, d)) = inr (k, x, y, f, r, e ∙ d)
    go (k ∷ x) h e o = inr (k, x, v, h, t, e)

-- every expression has a word that is not empty
pub some_word : (e : Expr) → (k : Name) × (x : List Name) × Word e (k ∷ x)
unfolding Word
some_word (name n) = (key n, [], refl)
some_word (seq a b) =
    let i = some_word a in
    let j = some_word b in
    (i.0, i.1 ++ j.0 ∷ j.1, (i.0 ∷ i.1, j.0 ∷ j.1, i.2, j.2, refl))
some_word (choice a b) = let i = some_word a in (i.0, i.1, inl i.2)
some_word (star a) = let i = some_word a in (i.0, i.1, repeated_once (Word a) (i.0 ∷ i.1) i.2)
