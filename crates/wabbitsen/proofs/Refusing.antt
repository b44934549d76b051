-- A refused call leaves record and list with every cell as before: it leaves the session that the record stands for, and putting that
-- into the record changes no cell. What a call does where it is served has no number of refusal.
use mathlib.Core.Path.{◌≡◌, refl, ap, ◌∙◌}
use mathlib.Core.Bool.{Bool, true, false, ◌&&◌}
use mathlib.Core.List.{List}
use mathlib.Core.Logic.{◌≢◌}
use Prim.Native.Nat.{ℕ}
use Rattle.std.specs.Prelude.{Option, Some, None, is_none}
use Rattle.standing.specs.declared.searches.Waiter.{Waiter}
use Rattle.standing.specs.declared.entries.Entry.{Entry}
use Rattle.standing.specs.declared.records.Session.{Session}
use Rattle.standing.specs.Soundness.{meets_set}
use Rattle.steps.specs.Answers.{Answer, open_answer, ask_answer, finish_answer, withdraw_answer}
use Rattle.steps.specs.Calling.{Serves}
use Rattle.steps.specs.Steps.{Outcome, freed, picked, hand_on, entry_of, take_back, open_step, ask_step, finish_step, withdraw_step}
use Rattle.compiler.specs.Compiling.{Reply as CompileReply}
use Rattle.std.specs.Prelude.{Ok, Err}
use Rattle.compiler.specs.Compiling.{answer, Compiles}
use Rattle.table.specs.Cells.{zeros}
use Rattle.table.specs.declared.cells.Table.{Table}
use Rattle.wabbitsen.specs.declared.records.Record.{Record}
use Rattle.wabbitsen.specs.declared.replies.Reply.{Reply}
use Rattle.wabbitsen.specs.Exporting.{session_in, holding, reply_of, compile_reply_of, Exported}
use Rattle.wabbitsen.specs.Promises.{AsBefore, RefusedOpenChangesNothing, RefusedAskChangesNothing}
use Rattle.wabbitsen.specs.Promises.{RefusedFinishChangesNothing, RefusedWithdrawChangesNothing, RefusedCompileZeros}
use Rattle.steps.proofs.CallCases.{served}
use Rattle.wabbitsen.proofs.Holding.{holding_session_in}

-- the steps refuse nothing
abbrev number_in : Outcome → ℕ
number_in o = (reply_of o.answer).number

ask_step_serves : (s : Session) (l : List Entry) (e : Entry) (t : Bool) → (is_none s.running && meets_set s e.operation.0) ≡ t
    → number_in (ask_step s l e) ≡ 0
unfolding ask_step
ask_step_serves s l e true is = rw is
ask_step_serves s l e false is = rw is

open_step_serves : (t : Table) (l : List Entry) → number_in (open_step t l) ≡ 0
unfolding open_step
open_step_serves t l = refl

finish_step_serves : (s : Session) (l : List Entry) → number_in (finish_step s l) ≡ 0
unfolding finish_step
finish_step_serves s l = handed_on (picked (freed s) l)
  where
    handed_on : (f : Option Waiter) → number_in (hand_on (freed s) l f) ≡ 0
    handed_on None = refl
    handed_on (Some w) = refl

withdraw_step_serves : (s : Session) (l : List Entry) (t : ℕ) → number_in (withdraw_step s l t) ≡ 0
unfolding withdraw_step
withdraw_step_serves s l t = taken_back (entry_of s l t)
  where
    taken_back : (f : Option Waiter) → number_in (take_back s l f) ≡ 0
    taken_back None = refl
    taken_back (Some w) = refl

-- so where C's reply has a number, the call has left the session and the list
abbrev Stands : Session → List Entry → Outcome → Type 0
Stands s l o = number_in o ≢ 0 → (o.session ≡ s) × (o.list ≡ l)

module _ {A : Type 0} (answer : A → Answer) {R : ℕ → Type 0} (b b' : Record) (l l' : List Entry) (step : Outcome) (r : Reply) where
  -- of any call that is exported
  changes_nothing : number_in step ≡ 0
      → Exported A answer (λ a s' l''. Serves R (session_in b) l step (record { answer = answer a; session = s'; list = l'' })) b r b' l'
      → AsBefore b l r b' l'
  changes_nothing serves call number =
      let (session, list) = served (Stands (session_in b) l) call.leaves (λ m refused. (refl, refl)) (λ none refused. absurd (refused serves))
      (λ zero. number (ap (λ (t : Reply). t.number) call.is_reply ∙ zero)) in
      (call.is_record ∙ ap (holding b) session ∙ holding_session_in b, list)

pub refused_open_changes_nothing : RefusedOpenChangesNothing
refused_open_changes_nothing b b' l l' t r call = changes_nothing open_answer b b' l l' _ r (open_step_serves t l) call

pub refused_ask_changes_nothing : RefusedAskChangesNothing
refused_ask_changes_nothing b b' l l' t n r call = changes_nothing ask_answer b b' l l' _ r (ask_step_serves (session_in b) l _ _ refl) call

pub refused_finish_changes_nothing : RefusedFinishChangesNothing
refused_finish_changes_nothing b b' l l' t r call = changes_nothing finish_answer b b' l l' _ r (finish_step_serves (session_in b) l) call

pub refused_withdraw_changes_nothing : RefusedWithdrawChangesNothing
refused_withdraw_changes_nothing b b' l l' t r call =
    changes_nothing withdraw_answer b b' l l' _ r (withdraw_step_serves (session_in b) l t.0) call

pub refused_compile_zeros : RefusedCompileZeros
refused_compile_zeros text t r call number =
    refused_by call.reply call.compiles (λ zero. number (ap (λ (t : Reply). t.number) call.is_reply ∙ zero))
  where
    refused_by : (c : CompileReply) → Compiles text (record { reply = c; table = t }) → (compile_reply_of (answer c)).number ≢ 0 → t ≡ zeros
    refused_by (Ok u) compiles never = absurd (never refl)
    refused_by (Err m) compiles number = compiles.no_table _ _ ((compiles.refuses _ _).0 refl)
