-- `Output::put_bytes` meets its contract. The invariant: the first bytes are put, as many as the loop has gone through.
use lib.ListN.{take}
use Rattle.wording.specs.Writing.{Writes}
use Rattle.wording.proofs.writing.Output.put_bytes.Given as goal

abbrev pub invariant-loop-b : goal.invariant-loop-b
invariant-loop-b l = Writes l.fn.self (take l.b-index l.s) l.self
