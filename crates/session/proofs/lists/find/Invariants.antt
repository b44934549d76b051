-- `session::lists::find` meets its contract. The invariant is `Sofar`: what is found so far, taken on through the entries from i on, is what
-- is found in all.
use Rattle.session.proofs.Looking.{Sofar}
use Rattle.session.proofs.lists.find.Given as goal

abbrev pub invariant-loop-i : goal.invariant-loop-i
invariant-loop-i l = Sofar l.used l.fn.search l.i l.found
