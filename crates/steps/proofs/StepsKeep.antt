-- The core steps leave a sound record and list. Who is granted an operation that meets the set does not wait, or is taken out
-- of the list. Who is put into the list neither runs nor waits, and while free its operation does not meet the set. A finish
-- that finds nobody leaves a list in which no operation meets the set: that is what the search failed on.
use mathlib.Core.Path.{◌≡◌, refl, sym, ap, ◌∙◌}
use mathlib.Core.Bool.{Bool, true, false, cond, ◌&&◌, and-eq-true_iff}
use mathlib.Core.List.{List}
use mathlib.Core.Logic.{◌≢◌}
use Prim.Native.Nat.{ℕ, suc, ◌-◌, ◌<◌, ◌≤◌}
use native.Mathlib.Nat.{not-suc-le-zero}
use native.Mathlib.Omega.{arith}
use lib.Dec.{eqb}
use lib.ListN.{length, set}
use lib.Seq.{length-take-le}
use Rattle.std.specs.Prelude.{Option, Some, None, is_none}
use Rattle.standing.specs.declared.searches.Waiter.{Waiter}
use Rattle.standing.specs.declared.entries.Entry.{Entry}
use Rattle.standing.specs.declared.records.Session.{Session}
use Rattle.steps.specs.Answers.Answer.{granted, delayed}
use Rattle.standing.specs.Lists.{in_use, place_of, taken_out}
use Rattle.steps.specs.Promises.{SoundAfter, OpenStepSound, AskStepKeeps, FinishStepKeeps, WithdrawStepKeeps}
use Rattle.steps.specs.Refusals.{Runs, Waits}
use Rattle.standing.specs.Soundness.{RecordSound, Sound, terminal_in, meets_set}
use Rattle.steps.specs.Steps.{opening, granting, counting, freed, open_step, ask_step}
use Rattle.steps.specs.Steps.{picked, hand_on, finish_step, entry_of, take_back, withdraw_step}
use Rattle.standing.proofs.States.{free_not_running, same_runner}
use Rattle.steps.proofs.Pigeonhole.{room_for_one}
use Rattle.standing.proofs.Seeking.{Finds, seek_finds, found_in_use, nobody_in_use}
use Rattle.steps.proofs.RecordKeeps.{opening_sound, granting_sound, counting_sound, freed_sound}
use Rattle.steps.proofs.ListKeeps.{Listed, listed, sound_by, each_left, left_listed, each_put, put_listed}

-- an entry's operation meets the set
abbrev meets : Session → Entry → Bool
meets s e = meets_set s e.operation.0

-- while one runs, nothing is asked of the operations that wait
granting_by : (s : Session) (e : Entry) (n : ℕ) (l : List Entry) → RecordSound (granting s e n) → Listed s.table.names n l
    → ((i : ℕ) → i < n → terminal_in l i ≢ e.terminal.0) → Sound (granting s e n) l
granting_by s e n l sound all other =
    sound_by (granting s e n) l sound all
    (λ u q i h same. other i h (same ∙ sym (same_runner e.terminal u q)))
    (λ q. free_not_running e.terminal (sym q))

pub open_step_sound : OpenStepSound
unfolding open_step
open_step_sound t l sound =
    sound_by (opening t) _ (opening_sound t sound)
    (record {
      below = λ i h. absurd (not-suc-le-zero h);
      differ = λ i j h. absurd (not-suc-le-zero h);
      exist = λ i h. absurd (not-suc-le-zero h);
    })
    (λ u q. free_not_running u q)
    (λ q i h. absurd (not-suc-le-zero h))

-- one asks that neither runs nor waits, for an operation that exists
module _ (s : Session) (l : List Entry) (e : Entry) (long : 64 ≤ length l) (sound : Sound s l) (few : e.terminal.0 < 64)
    (runs-not : ¬ Runs s e.terminal.0) (waits-not : ¬ Waits s l e.terminal.0)
    (known : e.operation.0 < s.table.names) where
  new : (i : ℕ) → i < s.waiting → terminal_in l i ≢ e.terminal.0
  new i h q = waits-not (i, h, q)

  grant_sound : meets s e ≡ true → Sound (granting s e s.waiting) l
  grant_sound met =
      granting_by s e s.waiting l
      (granting_sound s e s.waiting sound.record_sound met few sound.record_sound.count_most)
      (listed s l sound) new

  delay_sound : is_none s.running && meets s e ≡ false → Sound (counting s (suc s.waiting)) (set l s.waiting e)
  delay_sound unmet =
      let room = room_for_one s l e.terminal.0 sound few waits-not in
      let each = each_put s.waiting e l (omega arith) in
      sound_by (counting s (suc s.waiting)) (set l s.waiting e)
      (counting_sound s (suc s.waiting) sound.record_sound room)
      (put_listed s.waiting e l (omega arith) s.table.names (listed s l sound) few new known)
      (λ u q.
      each (λ d. d.terminal.0 ≢ u.0) (sound.none_runs u q)
      (λ same. runs-not (q ∙ ap (λ (n : ℕ). Some (record { 0 = n })) (sym same))))
      (λ q. each (λ d. meets s d ≡ false) (sound.nobody_permitted q) (rw q at unmet))

  ask_sound : (b : Bool) → is_none s.running && meets s e ≡ b
      → SoundAfter
      (cond b (record { answer = granted; session = granting s e s.waiting; list = l })
      (record {
        answer = delayed (place_of (in_use s l) e);
        session = counting s (suc s.waiting);
        list = set l (place_of (in_use s l) e) e;
      }))
  ask_sound true q = grant_sound ((and-eq-true_iff (is_none s.running) (meets s e)).0 q).1
  ask_sound false q =
      let most = sound.record_sound.count_most in
      let all : length (in_use s l) ≡ s.waiting = length-take-le s.waiting l (omega arith) in
      rw all (delay_sound q)

pub ask_step_keeps : AskStepKeeps
unfolding ask_step
ask_step_keeps s l e long sound few runs-not waits-not known = ask_sound s l e long sound few runs-not waits-not known _ refl

module _ (s : Session) (l : List Entry) (long : 64 ≤ length l) (sound : Sound s l) where
  fits : s.waiting ≤ length l
  fits = omega (arith, sound.record_sound.count_most)

  fewer : s.waiting - 1 ≤ 64
  fewer = omega (arith, sound.record_sound.count_most)

  handed_sound : (f : Option Waiter) → Finds (meets (freed s)) (in_use s l) f → SoundAfter (hand_on (freed s) l f)
  handed_sound None none =
      sound_by (freed s) l (freed_sound s sound.record_sound) (listed s l sound) (λ u q. free_not_running u q)
      (λ q. nobody_in_use s l fits (meets (freed s)) none)
  handed_sound (Some w) first =
      let (here, there) = found_in_use s l fits (meets (freed s)) w first in
      let same : terminal_in l w.place ≡ w.entry.terminal.0 = ap (λ (e : Entry). e.terminal.0) there in
      let few : w.entry.terminal.0 < 64 = omega (arith, sound.terminals_below w.place here) in
      granting_by (freed s) w.entry (s.waiting - 1) (taken_out s.waiting w.place l)
      (granting_sound (freed s) w.entry (s.waiting - 1) (freed_sound s sound.record_sound) first.passes few fewer)
      (left_listed s.waiting w.place l fits here s.table.names (listed s l sound))
      (each_left s.waiting w.place l fits here (λ e. e.terminal.0 ≢ w.entry.terminal.0)
      (λ i h other q. other (sound.terminals_differ i w.place h here (q ∙ sym same))))

  taken_back_sound : (t : ℕ) (f : Option Waiter) → Finds (λ e. eqb e.terminal.0 t) (in_use s l) f → SoundAfter (take_back s l f)
  taken_back_sound t None none = sound
  taken_back_sound t (Some w) first =
      let here = (found_in_use s l fits (λ e. eqb e.terminal.0 t) w first).0 in
      let each = each_left s.waiting w.place l fits here in
      sound_by (counting s (s.waiting - 1)) (taken_out s.waiting w.place l)
      (counting_sound s (s.waiting - 1) sound.record_sound fewer)
      (left_listed s.waiting w.place l fits here s.table.names (listed s l sound))
      (λ u q. each (λ e. e.terminal.0 ≢ u.0) (λ i h other. sound.none_runs u q i h))
      (λ q. each (λ e. meets s e ≡ false) (λ i h other. sound.nobody_permitted q i h))

pub finish_step_keeps : FinishStepKeeps
unfolding finish_step picked
finish_step_keeps s l long sound = handed_sound s l long sound (picked (freed s) l) (seek_finds _ (in_use s l))

pub withdraw_step_keeps : WithdrawStepKeeps
unfolding withdraw_step entry_of
withdraw_step_keeps s l t long sound = taken_back_sound s l long sound t (entry_of s l t) (seek_finds _ (in_use s l))
