-- What the grammar derives the machine runs through, to the derived expression; so the grammar gives one expression at most. By induction on
-- the derivation: a factor may begin wherever the machine takes a name or a `(` (`Ready`), and leaves it having that factor.
use mathlib.Core.Path.{◌≡◌, refl}
use mathlib.Core.List.{List, [], ◌∷◌}
use mathlib.Core.Option.{Option, some, none}
use Rattle.meaning.specs.Names.{Name}
use Rattle.meaning.specs.Words.{Expr}
use Rattle.meaning.specs.Words.Expr.{name as name_of}
use Rattle.grammar.specs.Symbols.{Symbol}
use Rattle.grammar.specs.Symbols.Symbol.{semicolon, plus, asterisk, opening, closing, path, end, name}
use Rattle.grammar.specs.Grammar.{Expression, Sequence, Factor, Whole}
use Rattle.grammar.specs.Grammar.Expression.{one_sequence, and_another}
use Rattle.grammar.specs.Grammar.Sequence.{one_factor, and_then, and_next}
use Rattle.grammar.specs.Grammar.Factor.{a_name, in_parentheses, starred}
use Rattle.grammar.specs.Machine.{Left, nothing_left, then_after, run_to, sum_to, onward, State, step_to, start_step, want_step, have_step}
use Rattle.grammar.specs.Machine.State.{wanting, having, finished}
use Rattle.grammar.specs.Promises.{OneExpression}
use Rattle.grammar.proofs.Runs.{after, reached, after_append}

-- in state s a factor may begin, and l stands to its left
record Ready (s : State) (l : Left) (ks : List Left) : Type 0 where
  takes_name : (n : Name) → step_to s (name n) ≡ some (having l (name_of n) ks)
  takes_opening : step_to s opening ≡ some (wanting nothing_left (l ∷ ks))

wanting_ready : (l : Left) (ks : List Left) → Ready (wanting l ks) l ks
unfolding step_to want_step
wanting_ready l ks = record { takes_name = λ n. refl; takes_opening = refl }

having_ready : (l : Left) (f : Expr) (ks : List Left) → Ready (having l f ks) (onward l f) ks
unfolding step_to have_step
having_ready l f ks = record { takes_name = λ n. refl; takes_opening = refl }

-- after w the machine has a factor, and the sequence behind the last `+` is e
abbrev HasSequence : Option Expr → List Left → List Symbol → Expr → Type 0
HasSequence s ks w e = (r : Option Expr) × (f : Expr)
    × (after (some (wanting (record { sum = s; run = none }) ks)) w ≡ some (having (record { sum = s; run = r }) f ks))
    × (then_after r f ≡ e)

-- after w the machine has a factor, and all within the parentheses is e
abbrev HasExpression : List Left → List Symbol → Expr → Type 0
HasExpression ks w e = (l : Left) × (f : Expr) × (after (some (wanting nothing_left ks)) w ≡ some (having l f ks)) × (sum_to l f ≡ e)

mutual
  unfolding step_to want_step have_step

  expression_runs : {w : List Symbol} {e : Expr} → Expression w e → (ks : List Left) → HasExpression ks w e
  expression_runs (one_sequence d) ks = let (r, f, runs, is) = sequence_runs d none ks in (record { sum = none; run = r }, f, runs, is)
  expression_runs (and_another u v d d' q) ks =
      let (l, f, runs, is) = expression_runs d ks in
      let (r, g, runs', is') = sequence_runs d' (some (sum_to l f)) ks in
      (record { sum = some (sum_to l f); run = r }, g, rw (q, after_append _ u (plus ∷ v), runs) runs', rw (is', is))

  sequence_runs : {w : List Symbol} {e : Expr} → Sequence w e → (s : Option Expr) (ks : List Left) → HasSequence s ks w e
  sequence_runs (one_factor d) s ks = (none, _, factor_runs d (wanting_ready _ ks), refl)
  sequence_runs (and_then u v {b = b} d d' q) s ks =
      let (r, f, runs, is) = sequence_runs d s ks in
      let l : Left = record { sum = s; run = r } in
      (some (run_to l f), b, rw (q, after_append _ u (semicolon ∷ v), runs) (factor_runs d' (wanting_ready (onward l f) ks)), rw is)
  sequence_runs (and_next u v {b = b} d d' q) s ks =
      let (r, f, runs, is) = sequence_runs d s ks in
      let l : Left = record { sum = s; run = r } in
      (some (run_to l f), b, rw (q, after_append _ u v, runs) (factor_runs d' (having_ready l f ks)), rw is)

  factor_runs : {w : List Symbol} {e : Expr} → Factor w e → {s : State} {l : Left} {ks : List Left} → Ready s l ks
      → after (some s) w ≡ some (having l e ks)
  factor_runs (a_name n q) ready = rw (q, ready.takes_name n)
  factor_runs (in_parentheses u d q) {l = k} {ks = ks} ready =
      let (l, f, runs, is) = expression_runs d (k ∷ ks) in
      rw (q, after_append _ (opening ∷ u) (closing ∷ []), ready.takes_opening, runs, is)
  factor_runs (starred u d q) ready = rw (q, after_append _ u (asterisk ∷ []), factor_runs d ready)

pub whole_runs : {w : List Symbol} {e : Expr} → Whole w e → reached w ≡ some (finished e)
unfolding step_to start_step have_step
whole_runs (u, d, q) =
    let (l, f, runs, is) = expression_runs d [] in
    rw (q, after_append _ (path ∷ u) (end ∷ []), runs, is)

pub one_expression : OneExpression
one_expression w a b d d' =
    let ends = whole_runs d in
    let ends' = whole_runs d' in
    cc
