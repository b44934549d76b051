use borrow.Author.Tests.{eq-eqb, ne_eqb}
use Rattle.std.proofs.Common.{arith}
use Rattle.meaning.specs.Sets.{mem}
use Rattle.table.proofs.Links.{turn_linked, all_linked}
use Rattle.table.proofs.sets.link.Goals as goal
use Rattle.table.proofs.sets.link.Goals.{then-rest-eq1, else-rest-eq1}

-- a row whose bit is not in the set is set to what it is

pub loop-row-preserved : goal.loop-row-preserved
unfolding mem
loop-row-preserved c =
    let l = c.loop-row in
    elim c.if-rest-eq1.branch [
      | then-rest-eq1 w ↦ turn_linked _ _ _ _ _ _ _ (omega arith) l.invariant (rw (eq-eqb _ _ w.if-rest-eq1.true)) w.rows-is
      | else-rest-eq1 w ↦ turn_linked _ _ _ _ _ _ _ (omega arith) l.invariant (rw (ne_eqb _ _ w.if-rest-eq1.false)) w.rows-is
    ]

pub returns : goal.returns
returns c = all_linked _ _ _ _ _ (omega arith) c.loop-row.invariant
