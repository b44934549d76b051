use Rattle.table.proofs.Placed.{bit_shifted, one_more_gathered, all_gathered}
use Rattle.table.proofs.soundness.placed.Goals as goal

pub loop-o-preserved : goal.loop-o-preserved
loop-o-preserved c =
    rw (bit_shifted _ (c.requires c.loop-o.o-index c.loop-o-test.true))
    (one_more_gathered c.args.operations.now c.loop-o.o-index c.loop-o.out c.loop-o.invariant c.loop-o-test.true)

pub returns : goal.returns
returns c = all_gathered _ _ _ c.loop-o.invariant c.loop-o-test.false
