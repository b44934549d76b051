-- `Gathered`: `out` has the operations of the places passed.
use Rattle.table.proofs.Placed.{Gathered}
use Rattle.table.proofs.soundness.placed.Given as goal

abbrev pub invariant-loop-o : goal.invariant-loop-o
invariant-loop-o l = Gathered l.operations l.o-index l.out
