-- `Uniting`: what was united so far, joined with the union of the rows to come, is the union.
use Rattle.meaning.specs.Sets.{union_of}
use Rattle.table.proofs.Unions.{Uniting}
use Rattle.table.proofs.sets.union_of.Given as goal

abbrev pub invariant-loop-row : goal.invariant-loop-row
invariant-loop-row l = Uniting l.rows (union_of l.rows l.s) l.out l.rest l.row-index
