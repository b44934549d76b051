-- `readers::stars` meets its contract. The invariant: some stars were read, and the machine has gone on over them (`StarsSoFar`).
use Prim.Native.Nat.{◌-◌}
use lib.ListN.{length}
use Rattle.compiler.proofs.Stars.{StarsSoFar}
use Rattle.compiler.proofs.readers.stars.Given as goal

abbrev pub invariant-loop-used : goal.invariant-loop-used
invariant-loop-used l = StarsSoFar l.s l.used

abbrev pub decreases-loop-used : goal.decreases-loop-used
decreases-loop-used l = length l.s - l.used
