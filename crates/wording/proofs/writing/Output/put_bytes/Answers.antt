-- `Output::put_bytes` meets its contract: byte after byte.
use mathlib.Core.Path.{refl, sym}
use native.Mathlib.Numerals.{add-one}
use lib.Seq.{take-suc}
use Rattle.wording.proofs.Putting.{puts_nothing, writes_more, writes_as}
use Rattle.wording.proofs.writing.Output.put_bytes.Goals as goal

pub loop-b-init : goal.loop-b-init
loop-b-init c =
    let from = c.args.self.now in
    rw c.min-self.ensures (record { puts = puts_nothing from.bytes.now from.at; same_lent = refl })

pub loop-b-preserved : goal.loop-b-preserved
loop-b-preserved c =
    let here = take-suc c.args.s.now c.loop-b.b-index 0 c.loop-b-test.true in
    writes_as (sym (rw (add-one c.loop-b.b-index) here)) (writes_more c.loop-b.invariant c.put.ensures)
