-- What an ask, a finish and a withdraw do to the list and to the number of entries in use is one of three things: nothing; an
-- entry is put behind those in use, at a place below 64; or one of those in use, at most 64, is taken out. The bounds come from
-- the soundness of record and list: the count is at most 64, and there is room for one who does not wait.
use mathlib.Core.Path.{◌≡◌, refl}
use mathlib.Core.Bool.{Bool, true, false, ◌&&◌}
use mathlib.Core.List.{List}
use Prim.Native.Nat.{ℕ, suc, ◌-◌, ◌<◌, ◌≤◌}
use native.Mathlib.Omega.{arith}
use lib.Dec.{eqb}
use lib.ListN.{length, set}
use lib.Seq.{length-take-le}
use Rattle.meaning.specs.Names.{Name}
use Rattle.meaning.specs.Calls.{Call}
use Rattle.meaning.specs.Calls.Call.{ask}
use Rattle.std.specs.Prelude.{Option, Some, None, is_none}
use Rattle.standing.specs.declared.numbers.Terminal.{Terminal}
use Rattle.standing.specs.declared.entries.Entry.{Entry}
use Rattle.standing.specs.declared.records.Session.{Session}
use Rattle.standing.specs.declared.searches.Waiter.{Waiter}
use Rattle.steps.specs.Answers.{AskReply, FinishReply, WithdrawReply}
use Rattle.steps.specs.Calling.{Asks, Finishes, Withdraws, entry_for}
use Rattle.standing.specs.Lists.{in_use, taken_out}
use Rattle.standing.specs.Promises.{TakenOut}
use Rattle.steps.specs.Refusals.{Row, NoRow}
use Rattle.steps.specs.Refusals.Row.{terminal_above_63, ask_by_a_waiting}
use Rattle.standing.specs.Soundness.{meets_set}
use Rattle.steps.specs.Steps.{Outcome, freed, ask_step, picked, hand_on, finish_step, entry_of, take_back, withdraw_step}
use Rattle.steps.proofs.CallCases.{served, long_list, by_soundness}
use Rattle.standing.proofs.EntryLaws.{taken_out_says}
use Rattle.steps.proofs.Pigeonhole.{room_for_one}
use Rattle.standing.proofs.Seeking.{Earliest, Finds, seek_finds, found_in_use}

-- from n entries in use of a list to another number of another list
pub data Change (n : ℕ) (l : List Entry) : ℕ → List Entry → Type 0 where
  nothing : Change n l n l
  put_last : (e : Entry) → n < 64 → Change n l (suc n) (set l n e)
  took_out : (p : ℕ) (l' : List Entry) → p < n → n ≤ 64 → TakenOut n p l l' → Change n l (n - 1) l'

abbrev Changes : Session → List Entry → Outcome → Type 0
Changes s l o = Change s.waiting l o.session.waiting o.list

-- an ask: granted, or there is room for one more
module _ (s : Session) (l : List Entry) (t : Terminal) (n : Name) (none : NoRow (Row s l (ask t.0 n))) where
  room : s.waiting < 64
  room =
      let few : ¬ (63 < t.0) = λ many. none 10 (terminal_above_63 many) in
      by_soundness none (suc s.waiting) 64
      (λ sound. room_for_one s l t.0 sound (omega arith) (λ waits. none 13 (ask_by_a_waiting t.0 n refl waits)))

  decided : (e : Entry) (b : Bool) → is_none s.running && meets_set s e.operation.0 ≡ b → Changes s l (ask_step s l e)
  unfolding ask_step
  decided e true met = rw met nothing
  decided e false unmet =
      let all : length (in_use s l) ≡ s.waiting = length-take-le s.waiting l (omega (arith, room, long_list none)) in
      rw (unmet, all) (put_last e room)

-- a finish or a withdraw: nobody is found, or the one that is found is taken out
module _ (s : Session) (l : List Entry) {c : Call} (none : NoRow (Row s l c)) where
  most : s.waiting ≤ 64
  most = by_soundness none s.waiting 64 (λ sound. sound.record_sound.count_most)

  found_taken_out : (test : Entry → Bool) (w : Waiter) → Earliest test (in_use s l) w
      → Change s.waiting l (s.waiting - 1) (taken_out s.waiting w.place l)
  found_taken_out test w first =
      let fits : s.waiting ≤ length l = omega (arith, most, long_list none) in
      let here = (found_in_use s l fits test w first).0 in
      took_out w.place _ here most (taken_out_says s.waiting w.place l here fits)

  handed_on : (f : Option Waiter) → Finds (λ e. meets_set (freed s) e.operation.0) (in_use s l) f → Changes s l (hand_on (freed s) l f)
  handed_on None nobody = nothing
  handed_on (Some w) first = found_taken_out _ w first

  taken_back : (t : ℕ) (f : Option Waiter) → Finds (λ e. eqb e.terminal.0 t) (in_use s l) f → Changes s l (take_back s l f)
  taken_back t None nobody = nothing
  taken_back t (Some w) first = found_taken_out _ w first

  finish_step_changes : Changes s l (finish_step s l)
  unfolding finish_step picked
  finish_step_changes = handed_on (picked (freed s) l) (seek_finds _ (in_use s l))

  withdraw_step_changes : (t : ℕ) → Changes s l (withdraw_step s l t)
  unfolding withdraw_step entry_of
  withdraw_step_changes t = taken_back t (entry_of s l t) (seek_finds _ (in_use s l))

module _ (s s' : Session) (l l' : List Entry) (t : Terminal) where
  pub ask_changes : (n : Name) (r : AskReply) → Asks s l t n r s' l' → Change s.waiting l s'.waiting l'
  ask_changes n r asks = served (Changes s l) asks (λ m. nothing) (λ none. decided s l t n none (entry_for s t n) _ refl)

  pub finish_changes : (r : FinishReply) → Finishes s l t r s' l' → Change s.waiting l s'.waiting l'
  finish_changes r finishes = served (Changes s l) finishes (λ m. nothing) (finish_step_changes s l)

  pub withdraw_changes : (r : WithdrawReply) → Withdraws s l t r s' l' → Change s.waiting l s'.waiting l'
  withdraw_changes r withdraws =
      served (Changes s l) withdraws (λ m. nothing) (λ none. withdraw_step_changes s l none t.0)
