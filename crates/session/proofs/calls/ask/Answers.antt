-- `session::calls::ask` meets its contract: what is found is what the search through the entries in use finds, the call by value decides,
-- and the list is what it says.
use mathlib.Core.Path.{refl, sym, subst}
use Rattle.std.specs.Prelude.{Ok}
use Rattle.std.proofs.lemmas.Result.{err_from_is_err_and}
use Rattle.steps.specs.Calling.{Asks}
use Rattle.steps.proofs.AskServed.{ask_asks}
use Rattle.session.proofs.calls.ask.Goals as goal

pub returns-in_err-asked : goal.returns-in_err-asked
returns-in_err-asked c =
    let p = err_from_is_err_and c.from_residual.result c.from_residual.ensures.1 in
    rw (p.1, p.2) (ask_asks _ _ _ _ _ _ refl (rw (c.lent-lent.ensures, c.look_for.ensures) at c.in_err-asked.ensures))

pub returns-in-Some : goal.returns-in-Some
returns-in-Some c =
    let h = ask_asks _ _ _ _ _ _ refl (rw (c.lent-lent.ensures, c.look_for.ensures) at c.in_ok-asked.ensures) in
    subst (Asks _ _ _ _ (Ok c.in_ok-asked.asked.reply) _) (sym c.append.ensures) (rw c.in-Some.is at h)

pub returns-in_default : goal.returns-in_default
returns-in_default c =
    let h = ask_asks _ _ _ _ _ _ refl (rw (c.lent-lent.ensures, c.look_for.ensures) at c.in_ok-asked.ensures) in
    rw c.in_default.is at h
