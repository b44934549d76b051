-- `session::calls::withdraw` meets its contract: what is found is what the search through the entries in use finds, the call by value decides,
-- and the list is what it says.
use mathlib.Core.Path.{refl, sym, subst}
use Rattle.std.specs.Prelude.{Ok}
use Rattle.std.proofs.lemmas.Result.{err_from_is_err_and}
use Rattle.steps.specs.Calling.{Withdraws}
use Rattle.steps.proofs.WithdrawServed.{withdraw_withdraws}
use Rattle.session.proofs.calls.withdraw.Goals as goal

pub returns-in_err-withdrawn : goal.returns-in_err-withdrawn
returns-in_err-withdrawn c =
    let p = err_from_is_err_and c.from_residual.result c.from_residual.ensures.1 in
    rw (p.1, p.2) (withdraw_withdraws _ _ _ _ _ refl (rw (c.lent-lent.ensures, c.look_for.ensures) at c.in_err-withdrawn.ensures))

pub returns : goal.returns
returns c =
    let h = withdraw_withdraws _ _ _ _ _ refl (rw (c.lent-lent.ensures, c.look_for.ensures) at c.in_ok-withdrawn.ensures) in
    subst (Withdraws _ _ _ (Ok _) _) (sym c.take_out.ensures) h
