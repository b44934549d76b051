-- `session::calls::finish` meets its contract: what is found is what the search through the entries in use finds, the call by value decides,
-- and the list is what it says.
use mathlib.Core.Path.{refl, sym, subst}
use Rattle.std.specs.Prelude.{Ok}
use Rattle.std.proofs.lemmas.Result.{err_from_is_err_and}
use Rattle.steps.specs.Calling.{Finishes}
use Rattle.steps.proofs.FinishServed.{finish_finishes}
use Rattle.session.proofs.calls.finish.Goals as goal
use Rattle.session.proofs.calls.finish.Goals.{in-Some, in_default}

pub returns-in_err-handed : goal.returns-in_err-handed
returns-in_err-handed c =
    let p = err_from_is_err_and c.from_residual.result c.from_residual.ensures.1 in
    rw (p.1, p.2) (finish_finishes _ _ _ _ _ refl (rw (c.lent-lent.ensures, c.look_for_next.ensures) at c.in_err-handed.ensures))

pub returns : goal.returns
returns c =
    let h = finish_finishes _ _ _ _ _ refl (rw (c.lent-lent.ensures, c.look_for_next.ensures) at c.in_ok-handed.ensures) in
    elim c.match-handed.branch [
      | in-Some w ↦ rw w.list-is (subst (Finishes _ _ _ (Ok c.in_ok-handed.handed.reply) _) (sym w.take_out.ensures) (rw w.in-Some.is at h))
      | in_default w ↦ rw w.list-is (rw w.in_default.is at h)
    ]
