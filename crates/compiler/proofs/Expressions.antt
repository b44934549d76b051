-- The reader of expressions, turn by turn: it starts with a sequence, grows by each that follows a `+`, and ends where no `+` does.
use mathlib.Core.Path.{◌≡◌, refl, ap, ◌∙◌}
use mathlib.Core.List.{List}
use mathlib.Core.Option.{Option, some, none}
use Prim.Native.Nat.{ℕ}
use Rattle.meaning.specs.Words.{Expr}
use Rattle.grammar.specs.Machine.{Left, State, upward, nothing_left, sum_to}
use Rattle.grammar.specs.Machine.State.{wanting, having}
use Rattle.table.specs.declared.cells.Table.{Table}
use Rattle.compiler.specs.Reading.{SequenceRead, ExpressionRead, Sum, on_sum, or_read, behind, sequence_from, ends_sequence, ends_expression}
use Rattle.std.specs.Prelude.{None as Ends}
use Rattle.compiler.specs.Reading.{Seen}
use Rattle.compiler.proofs.Tails.{slice}
use Rattle.compiler.proofs.Growing as growing
use Rattle.compiler.proofs.Joining.{names_or, or_joined}
use Rattle.compiler.proofs.Onwards.{GoesOn, no_sequence_follows}
use Rattle.compiler.proofs.Sequences.{wanted_run, run_read, in_order}

-- where an expression is wanted and read
abbrev wanted_sum : Unit {0} → List Left → State
wanted_sum u ks = wanting nothing_left ks

abbrev sum_read : Unit {0} → Sum → List Left → State
sum_read u b ks = having b.0 b.1 ks

abbrev either_way : Sum → Expr
either_way b = sum_to b.0 b.1

-- the sum that stands to the left of a sequence that follows
abbrev turn : Unit {0} → Sum → Option Expr
turn u b = some (either_way b)

module _ (s : List ℕ) (d : ℕ) (t : Table) where
  -- a sequence is an expression
  pub expression_starts : (q : Seen) → SequenceRead ends_sequence s d t q → ExpressionRead ends_sequence s d t q
  expression_starts q given =
      growing.starts wanted_sum sum_read either_way s d t wanted_run run_read in_order (λ u. none) (λ b. (
        on_sum none b.0,
        b.1,
      )) ends_sequence q given
      (λ a ks. refl) (λ a c ks. refl) (λ c. refl)

  module _ (e : Seen) (given : ExpressionRead ends_sequence s d t e) (z : e.number ≡ 0) where
    pub expression_ends : sequence_from s e.left ≡ Ends → ExpressionRead ends_expression s d t e
    expression_ends is =
        growing.ends_there wanted_sum sum_read either_way s d t ends_sequence e given z ends_expression (no_sequence_follows
        (behind s e).token _ _ is)

    -- another sequence follows, at byte j
    module _ (j : ℕ) (on : GoesOn upward s e j) (t' : Table) (so-far-is : t' ≡ e.part.table) (q : Seen)
        (told : SequenceRead ends_sequence (slice s j) d t' q) where
      pub sequence_is_refused : (q.number ≡ 0 → ⊥) → ExpressionRead ends_expression s d t q
      sequence_is_refused =
          growing.next_refused wanted_sum sum_read either_way s d t ends_sequence e given z wanted_run run_read in_order
          turn j on.fits on.less (λ text h u b. on.on text h b.0 b.1)
          t' so-far-is q ends_sequence told ends_expression

      pub expression_grows : q.number ≡ 0 → (r : Seen) → r ≡ or_read e q → ExpressionRead ends_sequence s d t r
      expression_grows y r joined =
          growing.grows wanted_sum sum_read either_way s d t ends_sequence e given z wanted_run run_read in_order
          turn j on.fits on.less (λ text h u b. on.on text h b.0 b.1)
          t' so-far-is q ends_sequence told (λ b c. (on_sum (some (either_way b)) c.0, c.1)) (λ a b c ks. refl)
          (λ b c ns. names_or (either_way b) (in_order c) ns) y r
          (ap (λ (x : Seen). x.number) joined) (ap (λ (x : Seen). x.left) joined)
          (λ ns rs b c is_b is_c. ap (λ (x : Seen). x.part) joined ∙ or_joined e (either_way b) ns rs is_b q (in_order c) is_c)
