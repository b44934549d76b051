-- No call changes the table of the record.
use mathlib.Core.Path.{◌≡◌, refl, ap, ◌∙◌}
use mathlib.Core.Bool.{Bool, true, false, ◌&&◌}
use mathlib.Core.List.{List}
use Prim.Native.Nat.{ℕ}
use Rattle.meaning.specs.Calls.{Call}
use Rattle.meaning.specs.Calls.Call.{ask, finish, withdraw}
use Rattle.std.specs.Prelude.{Option, Some, None, is_none}
use Rattle.standing.specs.declared.searches.Waiter.{Waiter}
use Rattle.standing.specs.declared.entries.Entry.{Entry}
use Rattle.standing.specs.declared.records.Session.{Session}
use Rattle.standing.specs.Soundness.{meets_set}
use Rattle.steps.specs.Calling.{Serves, entry_for}
use Rattle.steps.specs.Calling.Serves.{refuses, does}
use Rattle.steps.specs.Refusals.{Row}
use Rattle.steps.specs.Steps.{Outcome, freed, ask_step, picked, hand_on, finish_step, entry_of, take_back, withdraw_step}
use Rattle.simulation.specs.Runs.{ReplyTo, Leaves}

served_table : {s : Session} {l : List Entry} {c : Call} {step o : Outcome} → Serves (Row s l c) s l step o
    → step.session.table ≡ s.table → o.session.table ≡ s.table
served_table (refuses m first e) same = ap (λ o. o.session.table) e
served_table (does none e) same = ap (λ o. o.session.table) e ∙ same

ask_table : (s : Session) (l : List Entry) (e : Entry) → (ask_step s l e).session.table ≡ s.table
unfolding ask_step
ask_table s l e = go (is_none s.running && meets_set s e.operation.0) refl
  where
    go : (b : Bool) → (is_none s.running && meets_set s e.operation.0) ≡ b → (ask_step s l e).session.table ≡ s.table
    go true p = rw p refl
    go false p = rw p refl

hand_table : (s : Session) (l : List Entry) (f : Option Waiter) → (hand_on s l f).session.table ≡ s.table
hand_table s l None = refl
hand_table s l (Some w) = refl

finish_table : (s : Session) (l : List Entry) → (finish_step s l).session.table ≡ s.table
unfolding finish_step
finish_table s l = hand_table (freed s) l (picked (freed s) l)

back_table : (s : Session) (l : List Entry) (f : Option Waiter) → (take_back s l f).session.table ≡ s.table
back_table s l None = refl
back_table s l (Some w) = refl

withdraw_table : (s : Session) (l : List Entry) (t : ℕ) → (withdraw_step s l t).session.table ≡ s.table
unfolding withdraw_step
withdraw_table s l t = back_table s l (entry_of s l t)

pub leaves_table : (s s' : Session) (l l' : List Entry) (c : Call) (r : ReplyTo c) → Leaves s l c r s' l' → s'.table ≡ s.table
leaves_table s s' l l' (ask u n) r by = served_table by (ask_table s l (entry_for s (record { 0 = u }) n))
leaves_table s s' l l' (finish u) r by = served_table by (finish_table s l)
leaves_table s s' l l' (withdraw u) r by = served_table by (withdraw_table s l u)
