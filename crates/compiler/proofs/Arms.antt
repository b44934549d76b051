-- The arms of a `match` on a token: what the last arm, which takes every other token, knows.
use mathlib.Core.Path.{◌≡◌, refl, sym, ap, ◌∙◌}
use mathlib.Core.Bool.{false, false≢true}
use mathlib.Core.List.{List, [], ◌∷◌}
use Prim.Native.Nat.{ℕ}
use borrow.Author.Tests.{ne_eqb}
use lib.Dec.{eqb}
use lib.ListN.{get_or}
use Rattle.text.specs.declared.tokens.Token.{Token}
use Rattle.text.specs.declared.tokens.Token.TheVariants.{Semicolon, Plus, Star, Open, Close, Path, End, Name as Named, TextEnd, Bad, Long}
use Rattle.compiler.specs.Reading.{kind, begins}

-- a token other than one that is no name is of another kind
abbrev unnamed : List Token
unnamed = Semicolon ∷ Plus ∷ Star ∷ Open ∷ Close ∷ Path ∷ End ∷ Bad ∷ TextEnd ∷ Bad ∷ Long ∷ []

of_its_kind : (t : Token) → eqb (kind t) 7 ≡ false → get_or unnamed (kind t) Bad ≡ t
of_its_kind Semicolon h = refl
of_its_kind Plus h = refl
of_its_kind Star h = refl
of_its_kind Open h = refl
of_its_kind Close h = refl
of_its_kind Path h = refl
of_its_kind End h = refl
of_its_kind (Named n) h = absurd (false≢true (sym h))
of_its_kind TextEnd h = refl
of_its_kind Bad h = refl
of_its_kind Long h = refl

pub other_than : (a : Token) → eqb (kind a) 7 ≡ false → (t : Token) → (t ≡ a → ⊥) → eqb (kind t) (kind a) ≡ false
other_than a no_name t other =
    ne_eqb (kind t) (kind a)
    (λ e. other
    (sym (of_its_kind t (ap (λ n. eqb n 7) e ∙ no_name)) ∙ ap (λ n. get_or unnamed n Bad) e ∙ of_its_kind a no_name))

-- a token other than a `(` and a name begins no factor
pub begins_none : (t : Token) → (t ≡ Open → ⊥) → ((n : ℕ) → t ≡ Named n → ⊥) → begins t ≡ false
begins_none Semicolon o h = refl
begins_none Plus o h = refl
begins_none Star o h = refl
begins_none Open o h = absurd (o refl)
begins_none Close o h = refl
begins_none Path o h = refl
begins_none End o h = refl
begins_none (Named n) o h = absurd (h n refl)
begins_none TextEnd o h = refl
begins_none Bad o h = refl
begins_none Long o h = refl
