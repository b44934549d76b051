-- The readers' cycle: the measure of each reader, three times the bytes left, plus 2 for an expression, 1 for a sequence and 0 for a
-- factor, so that it falls from each reader to the next even where no byte is read. The invariant of a loop: whatever the first sequence
-- or factor is read behind, all that was read so far is.
use Prim.Native.Nat.{◌+◌, ◌*◌}
use lib.ListN.{length}
use Rattle.table.specs.declared.cells.Table.{Table}
use Rattle.compiler.specs.Reading.{ExpressionRead, SequenceRead, read_so, ends_sequence, ends_factor}
use Rattle.compiler.proofs.readers.+expression_factor_sequence.Given as goal

abbrev pub decreases-expression : goal.decreases-expression
decreases-expression l = 3 * length l.s.now + 2

abbrev pub decreases-factor : goal.decreases-factor
decreases-factor l = 3 * length l.s.now + 0

abbrev pub decreases-sequence : goal.decreases-sequence
decreases-sequence l = 3 * length l.s.now + 1

abbrev pub invariant-expression-loop-from : goal.invariant-expression-loop-from
invariant-expression-loop-from l =
    (t : Table) → ExpressionRead ends_sequence l.s l.depth t (read_so l.initial.e) → ExpressionRead ends_sequence l.s l.depth t (read_so l.e)

abbrev pub decreases-expression-loop-from : goal.decreases-expression-loop-from
decreases-expression-loop-from l = l.e.left

abbrev pub invariant-sequence-loop-from : goal.invariant-sequence-loop-from
invariant-sequence-loop-from l =
    (t : Table) → SequenceRead ends_factor l.s l.depth t (read_so l.initial.q) → SequenceRead ends_factor l.s l.depth t (read_so l.q)

abbrev pub decreases-sequence-loop-from : goal.decreases-sequence-loop-from
decreases-sequence-loop-from l = l.q.left
