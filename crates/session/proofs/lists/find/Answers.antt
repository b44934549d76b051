-- `session::lists::find` meets its contract, by the turns of Looking.antt.
use mathlib.Core.Path.{refl}
use Rattle.std.proofs.lemmas.List.{take_min}
use Rattle.session.proofs.Looking.{goes_on, ends_as}
use Rattle.session.proofs.lists.find.Goals as goal

pub loop-i-init : goal.loop-i-init
loop-i-init c = refl

pub loop-i-preserved : goal.loop-i-preserved
loop-i-preserved c = rw c.examine-found.ensures (goes_on _ _ c.loop-i.i c.loop-i.found c.loop-i-test.true c.loop-i.invariant)

pub returns : goal.returns
returns c =
    let ends = ends_as _ _ c.loop-i.i c.loop-i.found c.loop-i-test.false c.loop-i.invariant in
    rw (← take_min c.args.n c.args.list.now) (rw c.min.ensures at ends)
