-- `session::lists::take_out` meets its contract. The invariant: taking the entry out of the first i, with the one in hand for the last
-- place, gives what is wanted.
use Rattle.std.proofs.Common.{◌≡◌, ◌≤◌, length}
use Rattle.standing.specs.Lists.{taken_out}
use Rattle.session.proofs.TakingOut.{out_before}
use Rattle.session.proofs.lists.take_out.Given as goal

abbrev pub invariant-loop-i : goal.invariant-loop-i
invariant-loop-i l = (l.i ≤ length l.list) × (out_before l.moving l.i l.at l.list ≡ taken_out l.n l.at l.fn.list)
