-- The names of an accepted text: those of its expression are those of its symbols, by induction on the derivation; and each is well formed, for
-- it stands in the text where a name was read.
use mathlib.Core.Path.{◌≡◌, refl}
use mathlib.Core.Bool.{true}
use mathlib.Core.Logic.{⊎_elim}
use mathlib.Core.List.Memᴰ
use mathlib.Core.List.{List, [], ◌∷◌, append-nil, Memᴰ}
use Prim.Native.Nat.{ℕ, zero, suc, ◌+◌}
use lib.ListN.{take, drop}
use Rattle.meaning.specs.Names.{Name}
use Rattle.meaning.specs.Words.{Expr, names}
use Rattle.text.specs.Tokens.{next_token, well_formed}
use Rattle.text.specs.declared.tokens.Token.{Token}
use Rattle.text.specs.declared.tokens.Token.TheVariants.{Semicolon, Plus, Star, Open, Close, Path, End, Name as Named, TextEnd, Bad, Long}
use Rattle.text.proofs.WellFormed.{name_well_formed}
use Rattle.grammar.specs.Symbols.{Symbol, Lexeme, Item, items_by, items_within, items_from, items, Reads}
use Rattle.grammar.specs.Symbols.Symbol.{semicolon, plus, asterisk, opening, closing, path, end}
use Rattle.grammar.specs.Symbols.Lexeme.{symbol, bad, long}
use Rattle.grammar.specs.Symbols.Reads.{nothing, next}
use Rattle.grammar.specs.Grammar.{Expression, Sequence, Factor}
use Rattle.grammar.specs.Grammar.Expression.{one_sequence, and_another}
use Rattle.grammar.specs.Grammar.Sequence.{one_factor, and_then, and_next}
use Rattle.grammar.specs.Grammar.Factor.{a_name, in_parentheses, starred}
use Rattle.grammar.specs.Refusals.{names_in}
use Rattle.grammar.specs.Promises.{NamesAsWritten, NamesWellFormed}
use Rattle.grammar.proofs.Counts.{names_append}

mutual
  unfolding names names_in

  expression_names : {w : List Symbol} {e : Expr} → Expression w e → names e ≡ names_in w
  expression_names (one_sequence d) = sequence_names d
  expression_names (and_another u v d d' q) = rw (q, names_append u (plus ∷ v), expression_names d, sequence_names d')

  sequence_names : {w : List Symbol} {e : Expr} → Sequence w e → names e ≡ names_in w
  sequence_names (one_factor d) = factor_names d
  sequence_names (and_then u v d d' q) = rw (q, names_append u (semicolon ∷ v), sequence_names d, factor_names d')
  sequence_names (and_next u v d d' q) = rw (q, names_append u v, sequence_names d, factor_names d')

  factor_names : {w : List Symbol} {e : Expr} → Factor w e → names e ≡ names_in w
  factor_names (a_name n q) = rw q
  factor_names (in_parentheses u d q) = rw (q, names_append (opening ∷ u) (closing ∷ []), append-nil) (expression_names d)
  factor_names (starred u d q) = rw (q, names_append u (asterisk ∷ []), append-nil) (factor_names d)

pub names_as_written : NamesAsWritten
unfolding names_in
names_as_written w e (u, d, q) = rw (q, names_append (path ∷ u) (end ∷ []), append-nil) (expression_names d)

-- each of the names is well formed; each that an item has, or some items
abbrev Formed : List Name → Type 0
Formed ns = (n : Name) → Memᴰ n ns → well_formed n ≡ true

abbrev FormedItem : Lexeme → Type 0
FormedItem (symbol t) = Formed (names_in (t ∷ []))
FormedItem bad = Unit
FormedItem long = Unit

abbrev FormedItems : List Item → Type 0
FormedItems [] = Unit
FormedItems (x ∷ xs) = FormedItem x.lexeme × FormedItems xs

-- a token's name is formed, and so are the items behind it
by_formed : (t : Token) (k : ℕ) (s : List ℕ) (rest : List Item) → ((n : ℕ) → t ≡ Named n → well_formed (take n s) ≡ true) → FormedItems rest
    → FormedItems (items_by t k s rest)
unfolding items_by names_in
by_formed Semicolon k s rest h r = (λ n m. absurd (Memᴰ.not-nil m), r)
by_formed Plus k s rest h r = (λ n m. absurd (Memᴰ.not-nil m), r)
by_formed Star k s rest h r = (λ n m. absurd (Memᴰ.not-nil m), r)
by_formed Open k s rest h r = (λ n m. absurd (Memᴰ.not-nil m), r)
by_formed Close k s rest h r = (λ n m. absurd (Memᴰ.not-nil m), r)
by_formed Path k s rest h r = (λ n m. absurd (Memᴰ.not-nil m), r)
by_formed End k s rest h r = (λ n m. absurd (Memᴰ.not-nil m), r)
by_formed (Named size) k s rest h r = (λ n m. rw (Memᴰ.eq_of_singleton m) (h size refl), r)
by_formed TextEnd k s rest h r = tt
by_formed Bad k s rest h r = (tt, r)
by_formed Long k s rest h r = (tt, r)

within_formed : (f k : ℕ) (s : List ℕ) → FormedItems (items_within f k s)
unfolding items_within
within_formed zero k s = tt
within_formed (suc f) k s =
    by_formed (next_token s).token (k + (next_token s).start) (drop (next_token s).start s) _ (name_well_formed s)
    (within_formed f (k + (next_token s).used) (drop (next_token s).used s))

items_formed : (text : List ℕ) → FormedItems (items text)
unfolding items items_from
items_formed text = within_formed _ 0 text

reads_formed : {is : List Item} {ts : List Symbol} → Reads is ts → FormedItems is → Formed (names_in ts)
unfolding names_in
reads_formed nothing h n m = absurd (Memᴰ.not-nil m)
reads_formed (next {t = t} {ts = ts} r) h n m =
    ⊎_elim (h.0 n) (λ later. reads_formed r h.1 n later) (Memᴰ.append_cases (names_in (t ∷ [])) (rw (names_append (t ∷
    []) ts) at m))

pub names_well_formed : NamesWellFormed
names_well_formed text e a n m =
    reads_formed a.read (items_formed text) n (rw (names_as_written a.symbols e a.whole) at m)
