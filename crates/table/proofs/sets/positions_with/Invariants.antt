-- `Gathered`: `out` has the positions passed.
use Rattle.table.proofs.Permissions.{Gathered}
use Rattle.table.proofs.sets.positions_with.Given as goal

abbrev pub invariant-loop-p : goal.invariant-loop-p
invariant-loop-p l = Gathered l.operations l.o.0 l.p l.out
