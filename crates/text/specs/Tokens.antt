-- The next token of what is left of a text: which it is, where it starts, and how many bytes are used up with it.
use Rattle.std.specs.Prelude.{Bool, true, false, cond, ◌&&◌, List, [], ◌∷◌, ℕ, suc, ◌+◌, eqb, ltb, length, take, drop}
use Rattle.meaning.specs.Names.{key, same}
use Rattle.text.specs.Classes.{class_of, is_blank_class, starts_name, is_in_name}
use Rattle.text.specs.declared.classes.Class.{Class}
use Rattle.text.specs.declared.classes.Class.TheVariants.{Semicolon as SemicolonSign, Plus as PlusSign, Asterisk, Open as OpenSign, Close as CloseSign}
use Rattle.text.specs.declared.tokens.Token.{Token}
use Rattle.text.specs.declared.tokens.Token.TheVariants.{Semicolon, Plus, Star, Open, Close, Path, End, Name, TextEnd, Bad, Long}
use Rattle.text.specs.declared.tokens.Read.{Read}

-- how many bytes at the front pass a test
unfoldable pub span : (ℕ → Bool) → List ℕ → ℕ
span test [] = 0
span test (b ∷ s) = cond (test b) (suc (span test s)) 0

abbrev pub blank_byte : ℕ → Bool
blank_byte b = is_blank_class (class_of b)

-- "a letter and the longest run of letters and digits after it"
abbrev pub name_byte : ℕ → Bool
name_byte b = is_in_name (class_of b)

-- the bytes of `path` and of `end`
abbrev pub path_word : List ℕ
path_word = 112 ∷ 97 ∷ 116 ∷ 104 ∷ []

abbrev pub end_word : List ℕ
end_word = 101 ∷ 110 ∷ 100 ∷ []

-- the two names are one: "compared byte for byte", through their keys
abbrev pub same_name : List ℕ → List ℕ → Bool
same_name m n = same (key m) (key n)

-- "`path` and `end` in small letters are keywords and never names"; a name has "1 to 16 bytes"
unfoldable pub word_token : List ℕ → Token
word_token w =
    cond (same_name w path_word) Path
    (cond (same_name w end_word) End
    (cond (ltb 16 (length w)) Long (Name (length w))))

-- the sign of a class; any other byte is bad, for "a token that starts with a digit is refused as a bad byte"
abbrev pub sign_token : Class → Token
sign_token SemicolonSign = Semicolon
sign_token PlusSign = Plus
sign_token Asterisk = Star
sign_token OpenSign = Open
sign_token CloseSign = Close
sign_token _ = Bad

-- a keyword or a name of n bytes, after k blanks
abbrev pub word_read : ℕ → ℕ → List ℕ → Read
word_read k n s = record { token = word_token (take n s); start = k; used = k + n }

-- the token at the front of a text that starts with no blank, after k blanks
unfoldable pub token_from : ℕ → List ℕ → Read
token_from k [] = record { token = TextEnd; start = k; used = k }
token_from k (b ∷ s) =
    cond (starts_name (class_of b)) (word_read k (span name_byte (b ∷ s)) (b ∷ s))
    (record { token = sign_token (class_of b); start = k; used = k + 1 })

-- "blanks anywhere between tokens and at both ends"
unfoldable pub next_token : List ℕ → Read
next_token s = token_from (span blank_byte s) (drop (span blank_byte s) s)

-- the token is a name
abbrev pub is_name : Token → Bool
is_name (Name n) = true
is_name _ = false

-- the bytes are "well formed" as a name: read as a text, they are one name and nothing else
unfoldable pub well_formed : List ℕ → Bool
well_formed n = is_name (next_token n).token && eqb (next_token n).start 0 && eqb (next_token n).used (length n)
