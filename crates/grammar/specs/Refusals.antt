-- Which texts are accepted, and by which number, at which place, every other is refused: document 01's limits and its table of
-- refusals 1 to 7, row by row.
use Rattle.std.specs.Prelude.{◌≡◌, false, List, [], ◌∷◌, ◌++◌, ℕ, suc, ◌+◌, ◌≤◌, ◌<◌, length}
use Rattle.meaning.specs.Names.{Name, key}
use Rattle.meaning.specs.Words.{Expr}
use Rattle.meaning.specs.Operations.{holds, distinct}
use Rattle.grammar.specs.Symbols.{Symbol, Lexeme, Item, Reads, items}
use Rattle.grammar.specs.Symbols.Symbol.{semicolon, plus, asterisk, opening, closing, path, end, name}
use Rattle.grammar.specs.Symbols.Lexeme.{symbol, bad, long}
use Rattle.grammar.specs.Grammar.{Whole}

-- how many `(`, how many `)`, and which names stand among the symbols
unfoldable pub opened : List Symbol → ℕ
opened [] = 0
opened (opening ∷ ts) = suc (opened ts)
opened (semicolon ∷ ts) = opened ts
opened (plus ∷ ts) = opened ts
opened (asterisk ∷ ts) = opened ts
opened (closing ∷ ts) = opened ts
opened (path ∷ ts) = opened ts
opened (end ∷ ts) = opened ts
opened (name n ∷ ts) = opened ts

unfoldable pub closed : List Symbol → ℕ
closed [] = 0
closed (closing ∷ ts) = suc (closed ts)
closed (semicolon ∷ ts) = closed ts
closed (plus ∷ ts) = closed ts
closed (asterisk ∷ ts) = closed ts
closed (opening ∷ ts) = closed ts
closed (path ∷ ts) = closed ts
closed (end ∷ ts) = closed ts
closed (name n ∷ ts) = closed ts

unfoldable pub names_in : List Symbol → List Name
names_in [] = []
names_in (name n ∷ ts) = n ∷ names_in ts
names_in (semicolon ∷ ts) = names_in ts
names_in (plus ∷ ts) = names_in ts
names_in (asterisk ∷ ts) = names_in ts
names_in (opening ∷ ts) = names_in ts
names_in (closing ∷ ts) = names_in ts
names_in (path ∷ ts) = names_in ts
names_in (end ∷ ts) = names_in ts

-- the limits of a list of symbols: "open parentheses at once" 16, "positions (names as written)" 64, "distinct names" 32
pub record Within (ts : List Symbol) : Type 0 where
  pub depth : (u v : List Symbol) → ts ≡ u ++ v → opened u ≤ closed u + 16
  pub positions : length (names_in ts) ≤ 64
  pub names : length (distinct (names_in ts)) ≤ 32

-- a text that fits the grammar and the limits, and its expression; that no name has more than 16 bytes is part of `Reads`
pub record Accepted (text : List ℕ) (e : Expr) : Type 0 where
  -- the limit of the text itself
  pub short : length text ≤ 4096
  pub symbols : List Symbol
  pub read : Reads (items text) symbols
  pub whole : Whole symbols e
  pub limits : Within symbols

-- "no text of the grammar, limits aside, starts with" these symbols
abbrev pub StartsNoText : List Symbol → Type 0
StartsNoText ts = (v : List Symbol) (e : Expr) → ¬ Whole (ts ++ v) e

-- the rows 2 to 7, for an item x behind the symbols `so_far`: number n can be given
pub data Row (so_far : List Symbol) (x : Lexeme) : ℕ → Type 0 where
  bad_byte : x ≡ bad → Row so_far x 2
  long_name : x ≡ long → Row so_far x 3
  no_text : (t : Symbol) → x ≡ symbol t → StartsNoText (so_far ++ t ∷ []) → Row so_far x 4
  too_deep : x ≡ symbol opening → opened so_far ≡ closed so_far + 16 → Row so_far x 5
  one_position_too_many : (n : Name) → x ≡ symbol (name n) → length (names_in so_far) ≡ 64 → Row so_far x 6
  one_name_too_many : (n : Name) → x ≡ symbol (name n) → holds (distinct (names_in so_far)) (key n) ≡ false
      → length (distinct (names_in so_far)) ≡ 32 → Row so_far x 7

-- none of the symbols is refused where it stands
abbrev pub Unrefused : List Symbol → Type 0
Unrefused ts = (u v : List Symbol) (t : Symbol) (n : ℕ) → ts ≡ u ++ t ∷ v → ¬ Row u (symbol t) n

-- "Refusal 1 comes first; then tokens are taken from the left, the first refused token decides, and for one token the lower number
-- wins"; or "the text stops short": number n, returned with a place
pub data Refused (text : List ℕ) : ℕ → ℕ → Type 0 where
  too_long : 4096 < length text → Refused text 1 4096
  at_a_token : (before after : List Item) (x : Item) (so_far : List Symbol) (n : ℕ) → length text ≤ 4096
      → items text ≡ before ++ x ∷ after → Reads before so_far → Unrefused so_far
      → Row so_far x.lexeme n → ((m : ℕ) → m < n → ¬ Row so_far x.lexeme m) → Refused text n x.place
  stops_short : (so_far : List Symbol) → length text ≤ 4096 → Reads (items text) so_far → Unrefused so_far
      → ((e : Expr) → ¬ Whole so_far e) → Refused text 4 (length text)
