-- What is promised of the grammar and the refusals. Each promise is a type here; proofs/ has a proof of each, under the same name
-- in small letters.
use Rattle.std.specs.Prelude.{◌≡◌, true, ◌↔◌, ◌⊎◌, ℕ, ◌+◌, drop}
use mathlib.Core.List.{List, Memᴰ}
use Rattle.meaning.specs.Names.{Name}
use Rattle.meaning.specs.Words.{Expr, names}
use Rattle.text.specs.Tokens.{next_token, well_formed}
use Rattle.grammar.specs.Symbols.{Symbol, items_by, items_from}
use Rattle.grammar.specs.Grammar.{Whole}
use Rattle.grammar.specs.Refusals.{Accepted, Refused, names_in}
use Rattle.grammar.specs.Machine.{judge}
use Rattle.grammar.specs.Machine.Verdict.{accepted, refused}

-- "reading goes on with what is left of the text after a token": the bound of `items_within` is never reached
abbrev pub ReadingGoesOn : Type 0
ReadingGoesOn =
    (k : ℕ) (s : List ℕ)
    → items_from k s
    ≡ items_by (next_token s).token (k + (next_token s).start) (drop (next_token s).start s)
    (items_from (k + (next_token s).used) (drop (next_token s).used s))

-- the grammar gives a list of symbols one expression at most: sequences and sums are grouped from the left. (Any other grouping has
-- the same words: meaning's `RewritingKeepsWords` regroups freely.)
abbrev pub OneExpression : Type 0
OneExpression = (w : List Symbol) (a b : Expr) → Whole w a → Whole w b → a ≡ b

-- the names of the expression are those of the symbols, in order
abbrev pub NamesAsWritten : Type 0
NamesAsWritten = (w : List Symbol) (e : Expr) → Whole w e → names e ≡ names_in w

-- every text is accepted or refused, and not both; an accepted one has one expression, a refused one one number and place
pub record ExactlyOne (text : List ℕ) : Type 0 where
  pub one_or_other : ((e : Expr) × Accepted text e) ⊎ ((n k : ℕ) × Refused text n k)
  pub one_expression : (a b : Expr) → Accepted text a → Accepted text b → a ≡ b
  pub one_refusal : (n k m l : ℕ) → Refused text n k → Refused text m l → (n ≡ m) × (k ≡ l)
  pub not_both : (e : Expr) (n k : ℕ) → Accepted text e → ¬ Refused text n k

abbrev pub OneVerdict : Type 0
OneVerdict = (text : List ℕ) → ExactlyOne text

-- the machine accepts exactly the accepted texts, with their expressions, and refuses exactly as the table of refusals says
pub record Judged (text : List ℕ) : Type 0 where
  pub accepts : (e : Expr) → (judge text ≡ accepted e) ↔ Accepted text e
  pub refuses : (n k : ℕ) → (judge text ≡ refused n k) ↔ Refused text n k

abbrev pub JudgedExactly : Type 0
JudgedExactly = (text : List ℕ) → Judged text

-- each name of an accepted text is well formed
abbrev pub NamesWellFormed : Type 0
NamesWellFormed = (text : List ℕ) (e : Expr) → Accepted text e → (n : Name) → Memᴰ n (names e) → well_formed n ≡ true
