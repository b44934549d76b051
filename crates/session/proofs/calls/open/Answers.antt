-- `session::calls::open` meets its contract: the call by value decides, and the list is what it says.
use mathlib.Core.Path.{sym, subst}
use Rattle.std.specs.Prelude.{Ok}
use Rattle.std.proofs.lemmas.Result.{err_from_is_err_and}
use Rattle.steps.specs.Calling.{Opens}
use Rattle.steps.proofs.OpenServed.{open_opens}
use Rattle.session.proofs.calls.open.Goals as goal

pub returns-in_err-session : goal.returns-in_err-session
returns-in_err-session c =
    let p = err_from_is_err_and c.from_residual.result c.from_residual.ensures.1 in
    rw (p.1, p.2) (open_opens _ _ _ _ c.in_err-session.ensures)

pub returns : goal.returns
returns c = subst (Opens _ _ _ (Ok _) _) (sym c.blank.ensures) (open_opens _ _ _ _ c.in_ok-session.ensures)
