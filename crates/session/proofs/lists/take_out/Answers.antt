-- `session::lists::take_out` meets its contract, by the turns of TakingOut.antt.
use Rattle.std.proofs.Common.{◌∙◌, arith, sym}
use lib.ListN.{length-set}
use Rattle.session.proofs.TakingOut.{starts, goes_on, none_left}
use Rattle.session.proofs.lists.take_out.Goals as goal

pub loop-i-init : goal.loop-i-init
loop-i-init c = (omega (arith, c.min-i.ensures), starts _ _ c.args.n c.args.at c.args.list.now c.blank_entry-moving.ensures c.min-i.ensures)

pub loop-i-preserved : goal.loop-i-preserved
loop-i-preserved c =
    let l = c.loop-i in
    let said = c.replace-moving.ensures in (
      simp length-set (omega (arith, l.invariant.0)),
      rw (said.value, said.after) (sym (goes_on l.moving l.i c.args.at l.list c.loop-i-test.true l.invariant.0) ∙ l.invariant.1),
    )

pub returns : goal.returns
returns c = sym (none_left c.loop-i.moving c.loop-i.i c.args.at c.loop-i.list c.loop-i-test.false) ∙ c.loop-i.invariant.1
