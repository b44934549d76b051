-- `soundness::zeros` meets its contract. The invariant: what was gathered is 0 exactly if each byte so far is.
use Rattle.std.proofs.Common.{◌≡◌, take}
use Rattle.std.specs.Prelude.{eqb}
use Rattle.std.specs.List.{list_all}
use Rattle.table.proofs.soundness.zeros.Given as goal

abbrev pub invariant-loop-b : goal.invariant-loop-b
invariant-loop-b l = eqb l.any 0 ≡ list_all (λ b. eqb b 0) (take l.b-index l.b-items)
