-- Document 01, "Program": the lines of an input, and the fields of a line.
use Rattle.std.specs.Prelude.{cond, not, List, [], ◌∷◌, ℕ, eqb}
use Rattle.text.specs.Tokens.{span}

-- LF, and the space
abbrev pub lf : ℕ
lf = 10

abbrev pub space : ℕ
space = 32

-- how many bytes stand before the first that is b
abbrev pub before : ℕ → List ℕ → ℕ
before b s = span (λ x. not (eqb x b)) s

-- a byte more at the front of the first of some pieces
abbrev pub onto : ℕ → List (List ℕ) → List (List ℕ)
onto b [] = (b ∷ []) ∷ []
onto b (p ∷ ps) = (b ∷ p) ∷ ps

-- "Lines end at LF; bytes after the last LF, if any, form a line"
unfoldable pub lines_of : List ℕ → List (List ℕ)
lines_of [] = []
lines_of (b ∷ s) = cond (eqb b lf) ([] ∷ lines_of s) (onto b (lines_of s))

-- "one space between fields": between any two there is one, and a field may be empty
unfoldable pub fields_of : List ℕ → List (List ℕ)
fields_of [] = [] ∷ []
fields_of (b ∷ s) = cond (eqb b space) ([] ∷ fields_of s) (onto b (fields_of s))

-- the first of some pieces, and those behind it
abbrev pub first_of : List (List ℕ) → List ℕ
first_of [] = []
first_of (p ∷ ps) = p

abbrev pub behind_first : List (List ℕ) → List (List ℕ)
behind_first [] = []
behind_first (p ∷ ps) = ps

-- "Line one (empty input: empty text) is the path"
unfoldable pub text_of : List ℕ → List ℕ
text_of input = first_of (lines_of input)

-- "Each later line"
unfoldable pub later_lines : List ℕ → List (List ℕ)
later_lines input = behind_first (lines_of input)
