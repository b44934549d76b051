-- The refusals and their numbers: a number has one refusal, and the number of every row of the table has one.
use mathlib.Core.Path.{◌≡◌, refl, sym, ap, ◌∙◌}
use mathlib.Core.Bool.{cond}
use mathlib.Core.List.{List}
use Prim.Native.Nat.{ℕ}
use lib.Dec.{eqb}
use Rattle.meaning.specs.Calls.{Call}
use Rattle.standing.specs.declared.entries.Entry.{Entry}
use Rattle.standing.specs.declared.records.Session.{Session}
use Rattle.steps.specs.declared.replies.CallRefusal.{CallRefusal}
use Rattle.steps.specs.declared.replies.CallRefusal.TheVariants.{ShortList, Unsound, NoTerminal, NoOperation}
use Rattle.steps.specs.declared.replies.CallRefusal.TheVariants.{Running, Waiting, NotRunning, NotWaiting}
use Rattle.steps.specs.Answers.{number_of}
use Rattle.steps.specs.Refusals.{Row}
use Rattle.steps.specs.Refusals.Row.{short_list, unsound, terminal_above_63, no_such_operation, ask_by_the_running, ask_by_a_waiting}
use Rattle.steps.specs.Refusals.Row.{finish_by_another, withdraw_by_another}

-- the refusal of a number
abbrev pub refusal_by : ℕ → CallRefusal
refusal_by n =
    cond (eqb n 8) ShortList (cond (eqb n 9) Unsound (cond (eqb n 10) NoTerminal (cond (eqb n 11) NoOperation
    (cond (eqb n 12) Running (cond (eqb n 13) Waiting (cond (eqb n 14) NotRunning NotWaiting))))))

refusal_by_its_number : (r : CallRefusal) → refusal_by (number_of r) ≡ r
refusal_by_its_number ShortList = refl
refusal_by_its_number Unsound = refl
refusal_by_its_number NoTerminal = refl
refusal_by_its_number NoOperation = refl
refusal_by_its_number Running = refl
refusal_by_its_number Waiting = refl
refusal_by_its_number NotRunning = refl
refusal_by_its_number NotWaiting = refl

-- the numbers tell the refusals apart
pub number_injective : (r q : CallRefusal) → number_of r ≡ number_of q → r ≡ q
number_injective r q e = sym (refusal_by_its_number r) ∙ ap refusal_by e ∙ refusal_by_its_number q

-- every row has the number of a refusal
pub row_has_refusal : {s : Session} {l : List Entry} {c : Call} {m : ℕ} → Row s l c m → number_of (refusal_by m) ≡ m
row_has_refusal (short_list h) = refl
row_has_refusal (unsound h) = refl
row_has_refusal (terminal_above_63 h) = refl
row_has_refusal (no_such_operation t n e h) = refl
row_has_refusal (ask_by_the_running t n e h) = refl
row_has_refusal (ask_by_a_waiting t n e h) = refl
row_has_refusal (finish_by_another t e h) = refl
row_has_refusal (withdraw_by_another t e h) = refl
