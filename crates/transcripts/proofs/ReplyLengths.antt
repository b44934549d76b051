-- The numbers in the replies to calls on a sound record and list are small, so the reply lines are short.
use mathlib.Core.Path.{◌≡◌, refl, sym, ap, subst}
use mathlib.Core.Bool.{Bool, true, false, ◌&&◌}
use mathlib.Core.List.{List, [], ◌∷◌}
use Prim.Native.Nat.{ℕ, ◌+◌, ◌≤◌, ◌<◌}
use native.Mathlib.Omega.{arith}
use lib.Dec.{eqb}
use lib.ListN.{length, length-take, get_or}
use Rattle.meaning.specs.Calls.{Call}
use Rattle.meaning.specs.Calls.Call.{ask, finish, withdraw}
use Rattle.table.specs.Cells.{names_of}
use Rattle.table.specs.Soundness.{Sound as TableSound}
use Rattle.table.specs.declared.cells.Table.{Table}
use Rattle.standing.specs.declared.searches.Waiter.{Waiter}
use Rattle.standing.specs.declared.entries.Entry.{Entry}
use Rattle.standing.specs.declared.records.Session.{Session}
use Rattle.standing.specs.Lists.{in_use}
use Rattle.standing.specs.Soundness.{Sound, meets_set}
use Rattle.standing.proofs.Seeking.{Finds, seek_finds, found_in_use}
use Rattle.std.specs.Prelude.{Ok, Err, Option, Some, None, is_none}
use Rattle.steps.specs.declared.replies.Ask.TheVariants.{Granted, Delayed}
use Rattle.steps.specs.declared.replies.Next.{Next}
use Rattle.steps.specs.declared.replies.Next.TheVariants.{Granted as Grants, Nobody as NobodyNext}
use Rattle.steps.specs.Answers.{AskReply, FinishReply, WithdrawReply, number_of, Answer, ask_answer, next_answer, finish_answer, withdraw_answer}
use Rattle.steps.specs.Answers.Answer.{opened, granted, delayed, finished, handed, withdrawn, refused}
use Rattle.steps.specs.Calling.{Serves, entry_for}
use Rattle.steps.specs.Calling.Serves.{refuses, does}
use Rattle.steps.specs.Refusals.{Row}
use Rattle.steps.specs.Refusals.Row.{short_list, unsound, terminal_above_63, no_such_operation, ask_by_the_running}
use Rattle.steps.specs.Refusals.Row.{ask_by_a_waiting, finish_by_another, withdraw_by_another}
use Rattle.steps.specs.Steps.{Outcome, freed, ask_step, picked, hand_on, finish_step, entry_of, take_back, withdraw_step}
use Rattle.simulation.specs.Runs.{ReplyTo, Leaves}
use Rattle.wording.specs.Writing.{decimal}
use Rattle.wording.proofs.Sizes.{two_digits}
use Rattle.transcripts.specs.Replies.{line_of, granted_word, delayed_word, finished_word, withdrawn_word, reply_line}
use Rattle.transcripts.specs.Replies.{ask_line, finished_line, finish_line, withdraw_line}
use Rattle.transcripts.proofs.Lengths.{two_fields, four_and_a_name, refused_long, name_long}

-- the numbers of an answer have at most two digits
abbrev Small : Answer → Type 0
Small opened = Unit {0}
Small granted = Unit {0}
Small (delayed n) = n < 100
Small (finished n) = n < 100
Small (handed n t o) = (n < 100) × (t < 100)
Small (withdrawn p) = p < 100
Small (refused m) = m < 100

row_small : {s : Session} {l : List Entry} {c : Call} {m : ℕ} → Row s l c m → m < 100
row_small (short_list h) = omega arith
row_small (unsound h) = omega arith
row_small (terminal_above_63 h) = omega arith
row_small (no_such_operation t n e h) = omega arith
row_small (ask_by_the_running t n e h) = omega arith
row_small (ask_by_a_waiting t n e h) = omega arith
row_small (finish_by_another t e h) = omega arith
row_small (withdraw_by_another t e h) = omega arith

served_small : {s : Session} {l : List Entry} {c : Call} {step o : Outcome} → Serves (Row s l c) s l step o → Small step.answer
    → Small o.answer
served_small (refuses m first e) small = subst (λ x. Small x.answer) (sym e) (row_small first.applies)
served_small (does none e) small = subst (λ x. Small x.answer) (sym e) small

-- ---- what the steps answer
module _ (s : Session) (l : List Entry) (fits : s.waiting ≤ length l) (sound : Sound s l) where
  few : s.waiting ≤ 64
  few = sound.record_sound.count_most

  ask_small : (e : Entry) → Small (ask_step s l e).answer
  unfolding ask_step
  ask_small e = go (is_none s.running && meets_set s e.operation.0) refl
    where
      go : (b : Bool) → (is_none s.running && meets_set s e.operation.0) ≡ b → Small (ask_step s l e).answer
      go true p = rw p tt
      go false p =
          let ahead = length-take s.waiting l in
          let most = sound.record_sound.count_most in
          rw p (omega (arith, ahead, most))

  handed_small : (test : Entry → Bool) (f : Option Waiter) → Finds test (in_use s l) f → Small (hand_on (freed s) l f).answer
  handed_small test None finds = let most = few in omega (arith, most)
  handed_small test (Some w) finds =
      let (there, is) = found_in_use s l fits test w finds in
      let below = sound.terminals_below w.place there in
      let most = few in
      (omega (arith, there, most), let who = ap (λ e. e.terminal.0) is in omega (arith, below, who))

  finish_small : Small (finish_step s l).answer
  unfolding picked finish_step
  finish_small =
      handed_small (λ e. meets_set (freed s) e.operation.0) (picked (freed s) l)
      (seek_finds (λ e. meets_set (freed s) e.operation.0) (in_use s l))

  back_small : (test : Entry → Bool) (f : Option Waiter) → Finds test (in_use s l) f → Small (take_back s l f).answer
  back_small test None finds = omega arith
  back_small test (Some w) finds =
      let (there, is) = found_in_use s l fits test w finds in
      let most = few in
      omega (arith, there, most)

  withdraw_small : (t : ℕ) → Small (withdraw_step s l t).answer
  unfolding entry_of withdraw_step
  withdraw_small t = back_small (λ e. eqb e.terminal.0 t) (entry_of s l t) (seek_finds (λ e. eqb e.terminal.0 t) (in_use s l))

-- ---- the lines
word_and_number : (w : List ℕ) (n : ℕ) → n < 100 → length (line_of (w ∷ decimal n ∷ [])) ≤ length w + 4
word_and_number w n h =
    let all = two_fields w (decimal n) in
    let digits = two_digits n h in
    omega (arith, all, digits)

ask_long : (r : AskReply) → Small (ask_answer r) → length (ask_line r) ≤ 88
unfolding line_of ask_line
ask_long (Ok Granted) h = omega arith
ask_long (Ok (Delayed n)) h = let all = word_and_number delayed_word n h in omega (arith, all)
ask_long (Err r) h = let all = refused_long (number_of r) h in omega (arith, all)

finished_long : (t : Table) → TableSound t → (n : ℕ) (x : Next) → Small (next_answer n x) → length (finished_line t n x) ≤ 88
unfolding finished_line
finished_long t sound n NobodyNext h = let all = word_and_number finished_word n h in omega (arith, all)
finished_long t sound n (Grants g) (h, k) =
    let all = four_and_a_name finished_word (decimal n) granted_word (decimal g.terminal.0) (get_or (names_of t) g.operation.0 []) in
    let examined = two_digits n h in
    let terminal = two_digits g.terminal.0 k in
    let name = name_long t sound g.operation.0 in
    omega (arith, all, examined, terminal, name)

finish_long : (t : Table) → TableSound t → (r : FinishReply) → Small (finish_answer r) → length (finish_line t r) ≤ 88
unfolding finish_line
finish_long t sound (Ok f) h = finished_long t sound f.examined f.next h
finish_long t sound (Err r) h = let all = refused_long (number_of r) h in omega (arith, all)

withdraw_long : (r : WithdrawReply) → Small (withdraw_answer r) → length (withdraw_line r) ≤ 88
unfolding withdraw_line
withdraw_long (Ok p) h = let all = word_and_number withdrawn_word p h in omega (arith, all)
withdraw_long (Err r) h = let all = refused_long (number_of r) h in omega (arith, all)

-- the reply line of any call on a sound record and list
pub reply_long : (s s' : Session) (l l' : List Entry) → s.waiting ≤ length l → Sound s l → (c : Call) (r : ReplyTo c)
    → Leaves s l c r s' l' → length (reply_line s.table c r) ≤ 88
reply_long s s' l l' fits sound (ask u n) r by = ask_long r (served_small by (ask_small s l fits sound (entry_for s (record { 0 = u }) n)))
reply_long s s' l l' fits sound (finish u) r by =
    finish_long s.table sound.record_sound.table_sound r (served_small by (finish_small s l fits sound))
reply_long s s' l l' fits sound (withdraw u) r by = withdraw_long r (served_small by (withdraw_small s l fits sound u))
