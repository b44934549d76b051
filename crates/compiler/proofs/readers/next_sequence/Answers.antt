-- `readers::next_sequence` meets its contract: arm by arm, by the token that it reads (Onwards).
use native.Mathlib.Omega.{arith}
use Rattle.compiler.proofs.Onwards.{next_fits}
use Rattle.compiler.proofs.readers.next_sequence.Goals as goal

pub overflow_add-result : goal.overflow_add-result
overflow_add-result c = omega (
  arith,
  next_fits c.args.s.now
      c.args.left _ c.next-r.ensures
      c.requires,
  c.well_formed,
)
