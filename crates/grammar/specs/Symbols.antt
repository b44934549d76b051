-- The tokens of a text as the grammar sees them, each with its place.
use Rattle.std.specs.Prelude.{List, [], ◌∷◌, ℕ, zero, suc, ◌+◌, length, take, drop}
use Rattle.meaning.specs.Names.{Name}
use Rattle.text.specs.Tokens.{next_token}
use Rattle.text.specs.declared.tokens.Token.{Token}
use Rattle.text.specs.declared.tokens.Token.TheVariants.{Semicolon, Plus, Star, Open, Close, Path, End, Name as Named, TextEnd, Bad, Long}

-- "tokens are the signs and names", and the keywords
pub data Symbol : Type 0 where
  semicolon plus asterisk opening closing path end : Symbol
  name : Name → Symbol

-- what stands at a place: a symbol, a "bad byte, or digit at a token's start", or a "name of 17 or more bytes"
pub data Lexeme : Type 0 where
  symbol : Symbol → Lexeme
  bad long : Lexeme

-- what stands in the text, and where
pub record Item : Type 0 where
  pub place : ℕ
  pub lexeme : Lexeme

-- the token that was read, at place k, where the text from its first byte on is s; then the items after it
unfoldable pub items_by : Token → ℕ → List ℕ → List Item → List Item
items_by Semicolon k s rest = record { place = k; lexeme = symbol semicolon } ∷ rest
items_by Plus k s rest = record { place = k; lexeme = symbol plus } ∷ rest
items_by Star k s rest = record { place = k; lexeme = symbol asterisk } ∷ rest
items_by Open k s rest = record { place = k; lexeme = symbol opening } ∷ rest
items_by Close k s rest = record { place = k; lexeme = symbol closing } ∷ rest
items_by Path k s rest = record { place = k; lexeme = symbol path } ∷ rest
items_by End k s rest = record { place = k; lexeme = symbol end } ∷ rest
items_by (Named n) k s rest = record { place = k; lexeme = symbol (name (take n s)) } ∷ rest
items_by TextEnd k s rest = []
items_by Bad k s rest = record { place = k; lexeme = bad } ∷ rest
items_by Long k s rest = record { place = k; lexeme = long } ∷ rest

-- at most f items of s, which stands at place k: "reading goes on with what is left of the text after a token"
unfoldable pub items_within : ℕ → ℕ → List ℕ → List Item
items_within zero k s = []
items_within (suc f) k s =
    items_by (next_token s).token (k + (next_token s).start) (drop (next_token s).start s)
    (items_within f (k + (next_token s).used) (drop (next_token s).used s))

-- all of them, for each takes a byte or more
unfoldable pub items_from : ℕ → List ℕ → List Item
items_from k s = items_within (suc (length s)) k s

-- what stands in the text, from the left; "places count from 0"
unfoldable pub items : List ℕ → List Item
items text = items_from 0 text

-- the items are the symbols ts, at whatever places: none of them is bad or long
pub data Reads : List Item → List Symbol → Type 0 where
  nothing : Reads [] []
  next : {k : ℕ} {t : Symbol} {is : List Item} {ts : List Symbol} → Reads is ts → Reads (record { place = k; lexeme = symbol t } ∷ is) (t ∷ ts)
