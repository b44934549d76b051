-- `talk::take_turn` meets its contract: each kind of line is a law of turns (Turns.antt).
use mathlib.Core.Path.{refl, ap, ◌∙◌}
use Rattle.std.specs.Prelude.{Some}
use Rattle.transcripts.proofs.Turns.{ask_turned, finish_turned, withdraw_turned, unread_turned}
use Rattle.transcripts.proofs.talk.take_turn.Goals as goal

pub returns-in-Some-Ask : goal.returns-in-Some-Ask
returns-in-Some-Ask c =
    ask_turned _ c.read_line.ensures _
    (c.in-Some-Ask.is ∙ ap Some c.in-Some-Ask.field-0-is) c.ask_turn.ensures

pub returns-in-Some-Finish : goal.returns-in-Some-Finish
returns-in-Some-Finish c =
    finish_turned _ c.read_line.ensures _
    (c.in-Some-Finish.is ∙ ap Some c.in-Some-Finish.field-0-is) c.finish_turn.ensures

pub returns-in-Some-Withdraw : goal.returns-in-Some-Withdraw
returns-in-Some-Withdraw c =
    withdraw_turned _ c.read_line.ensures _
    (c.in-Some-Withdraw.is ∙ ap Some c.in-Some-Withdraw.field-0-is) c.withdraw_turn.ensures

pub returns-in-None : goal.returns-in-None
returns-in-None c =
    unread_turned _ c.read_line.ensures
    c.in-None.is refl refl c.put_refused.ensures
