-- The core steps by value keep a sound record and list sound: they are the steps, and those do.
use mathlib.Core.Path.{sym, subst}
use Rattle.steps.specs.Promises.{SoundAfter, AskCoreKeeps, FinishCoreKeeps, WithdrawCoreKeeps}
use Rattle.steps.proofs.AskServed.{ask_core_is_step}
use Rattle.steps.proofs.FinishServed.{finish_core_is_step}
use Rattle.steps.proofs.StepsKeep.{ask_step_keeps, finish_step_keeps, withdraw_step_keeps}
use Rattle.steps.proofs.WithdrawServed.{withdraw_core_is_step}

pub ask_core_keeps : AskCoreKeeps
ask_core_keeps s l e long d below idle absent exists =
    subst SoundAfter (sym (ask_core_is_step s l e long d below absent)) (ask_step_keeps s l e long d below idle absent exists)

pub finish_core_keeps : FinishCoreKeeps
finish_core_keeps s l long d = subst SoundAfter (sym (finish_core_is_step s l long d)) (finish_step_keeps s l long d)

pub withdraw_core_keeps : WithdrawCoreKeeps
withdraw_core_keeps s l t w long d there =
    subst SoundAfter (sym (withdraw_core_is_step s l t w there)) (withdraw_step_keeps s l t long d)
