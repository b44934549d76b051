-- The items of a text, a token at a time: those of what is left are the token that comes next and the items behind it. The idea: how
-- many may be read does not count, if it is more than the bytes left, for a token takes a byte or more unless the text ends.
use mathlib.Core.Path.{◌≡◌, refl}
use mathlib.Core.Logic.{◌⊎◌, inl, inr, ⊎_elim}
use mathlib.Core.List.{List, [], ◌∷◌, nil≢cons}
use Prim.Native.Nat.{ℕ, zero, suc, ◌+◌, ◌<◌}
use native.Mathlib.Omega.{arith}
use lib.ListN.{length, drop, length-drop}
use Rattle.text.specs.Tokens.{next_token}
use Rattle.text.specs.declared.tokens.Token.{Token}
use Rattle.text.specs.declared.tokens.Token.TheVariants.{Semicolon, Plus, Star, Open, Close, Path, End, Name, TextEnd, Bad, Long}
use Rattle.text.proofs.Reading.{used_within_text, token_moves_on}
use Rattle.grammar.specs.Promises.{ReadingGoesOn}
use Rattle.grammar.specs.Symbols.{Item, items_by, items_within, items_from}

-- a token is the end of the text, or one item in front of those behind it
pub end_or_item : (t : Token) (k : ℕ) (s : List ℕ)
    → (t ≡ TextEnd) ⊎ ((x : Item) × ((rest : List Item) → items_by t k s rest ≡ x ∷ rest))
unfolding items_by
end_or_item Semicolon k s = inr (_, λ rest. refl)
end_or_item Plus k s = inr (_, λ rest. refl)
end_or_item Star k s = inr (_, λ rest. refl)
end_or_item Open k s = inr (_, λ rest. refl)
end_or_item Close k s = inr (_, λ rest. refl)
end_or_item Path k s = inr (_, λ rest. refl)
end_or_item End k s = inr (_, λ rest. refl)
end_or_item (Name n) k s = inr (_, λ rest. refl)
end_or_item TextEnd k s = inl refl
end_or_item Bad k s = inr (_, λ rest. refl)
end_or_item Long k s = inr (_, λ rest. refl)

-- what stands behind the end of the text does not count
same_behind : (t : Token) (k : ℕ) (s : List ℕ) (r r' : List Item) → ((t ≡ TextEnd → ⊥) → r ≡ r') → items_by t k s r ≡ items_by t k s r'
unfolding items_by
same_behind t k s r r' h =
    ⊎_elim (λ e. rw e) (λ (x, front). rw (h (λ e. nil≢cons (rw e at (front []))))) (end_or_item t k s)

-- a token that is not the end leaves fewer bytes
fewer_left : (s : List ℕ) → ((next_token s).token ≡ TextEnd → ⊥) → length (drop (next_token s).used s) < length s
fewer_left s goes_on = omega (arith, length-drop (next_token s).used s, used_within_text s, token_moves_on s goes_on)

-- more than the bytes left is enough, and more makes no difference
any_bound : (f g k : ℕ) (s : List ℕ) → length s < f → length s < g → items_within f k s ≡ items_within g k s
unfolding items_within
any_bound zero g k s hf hg = absurd (omega arith)
any_bound (suc f) zero k s hf hg = absurd (omega arith)
any_bound (suc f) (suc g) k s hf hg =
    same_behind (next_token s).token _ _ _ _ λ goes_on.
    let fewer = fewer_left s goes_on in
    any_bound f g (k + (next_token s).used) (drop (next_token s).used s) (omega arith) (omega arith)

pub reading_goes_on : ReadingGoesOn
unfolding items_from items_within
reading_goes_on k s =
    same_behind (next_token s).token _ _ _ _ λ goes_on.
    any_bound (length s) (suc (length (drop (next_token s).used s))) _ _ (fewer_left s goes_on) (omega arith)
