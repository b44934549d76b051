use borrow.Author.Tests.{eq-eqb, ne_eqb}
use lib.Bits.{or_zero_r}
use Rattle.meaning.specs.Sets.{mem}
use Rattle.table.proofs.Unions.{turn_united, all_united}
use Rattle.table.proofs.sets.union_of.Goals as goal
use Rattle.table.proofs.sets.union_of.Goals.{then-rest-eq1, else-rest-eq1}

pub loop-row-preserved : goal.loop-row-preserved
unfolding mem
loop-row-preserved c =
    let l = c.loop-row in
    let turn = turn_united c.args.rows.now _ l.out l.rest l.row-index l.invariant c.if-rest-eq1.out c.loop-row-test.true in
    elim c.if-rest-eq1.branch [
      | then-rest-eq1 w ↦ turn (rw (eq-eqb _ _ w.if-rest-eq1.true) w.out-is)
      | else-rest-eq1 w ↦ turn (rw (ne_eqb _ _ w.if-rest-eq1.false, or_zero_r) w.out-is)
    ]

pub returns : goal.returns
returns c = all_united _ _ _ _ _ c.loop-row.invariant c.loop-row-test.false
