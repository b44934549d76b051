-- The grammar of document 01, "Path text": which lists of symbols are a path, and of which expression.
use Rattle.std.specs.Prelude.{◌≡◌, List, [], ◌∷◌, ◌++◌}
use Rattle.meaning.specs.Names.{Name}
use Rattle.meaning.specs.Words.{Expr}
use Rattle.meaning.specs.Words.Expr.{name as name_of, seq, choice, star}
use Rattle.grammar.specs.Symbols.{Symbol}
use Rattle.grammar.specs.Symbols.Symbol.{semicolon, plus, asterisk, opening, closing, path, end, name}

mutual
  -- "Expression: one or more sequences joined by `+`"
  pub data Expression : List Symbol → Expr → Type 0 where
    one_sequence : {w : List Symbol} {e : Expr} → Sequence w e → Expression w e
    and_another : {w : List Symbol} (u v : List Symbol) {a b : Expr} → Expression u a → Sequence v b → w ≡ u ++ plus ∷ v
        → Expression w (choice a b)

  -- "Sequence: one or more factors; between two factors `;` may stand or be omitted"
  pub data Sequence : List Symbol → Expr → Type 0 where
    one_factor : {w : List Symbol} {e : Expr} → Factor w e → Sequence w e
    and_then : {w : List Symbol} (u v : List Symbol) {a b : Expr} → Sequence u a → Factor v b → w ≡ u ++ semicolon ∷ v
        → Sequence w (seq a b)
    and_next : {w : List Symbol} (u v : List Symbol) {a b : Expr} → Sequence u a → Factor v b → w ≡ u ++ v → Sequence w (seq a b)

  -- "Factor: a name or a parenthesised expression, then any number of `*`"
  pub data Factor : List Symbol → Expr → Type 0 where
    a_name : {w : List Symbol} (n : Name) → w ≡ name n ∷ [] → Factor w (name_of n)
    in_parentheses : {w : List Symbol} (u : List Symbol) {e : Expr} → Expression u e → w ≡ opening ∷ u ++ closing ∷ [] → Factor w e
    starred : {w : List Symbol} (u : List Symbol) {e : Expr} → Factor u e → w ≡ u ++ asterisk ∷ [] → Factor w (star e)

-- "The whole text is `path`, an expression, `end`"
abbrev pub Whole : List Symbol → Expr → Type 0
Whole w e = (u : List Symbol) × Expression u e × (w ≡ path ∷ u ++ end ∷ [])
