-- Sound in, sound out, for each call: a refusal leaves record and list as they were; otherwise no row of the refusals applies,
-- and that is what the step needs to leave them sound.
use mathlib.Core.Path.{◌≡◌, refl}
use mathlib.Core.Bool.{Bool, true, false}
use mathlib.Core.List.{List}
use Prim.Native.Nat.{◌<◌}
use native.Mathlib.Omega.{arith}
use lib.ListN.{length, length-take}
use Rattle.meaning.specs.Names.{Name, key}
use Rattle.meaning.specs.Operations.{holds, number_of}
use Rattle.meaning.proofs.NumberLaws.{held_below}
use Rattle.table.specs.Cells.{names_of, spellings}
use Rattle.table.specs.declared.cells.Table.{Table}
use Rattle.standing.specs.declared.entries.Entry.{Entry}
use Rattle.steps.specs.Calling.{entry_for}
use Rattle.steps.specs.Promises.{SoundAfter, OpenKeeps, OpenedSound, AskKeeps, FinishKeeps, WithdrawKeeps}
use Rattle.steps.specs.Refusals.{OpenRow, NoRow}
use Rattle.steps.specs.Refusals.Row.{terminal_above_63, no_such_operation, ask_by_the_running, ask_by_a_waiting}
use Rattle.steps.specs.Refusals.OpenRow.{short_list as short-for-opening, unsound_table}
use Rattle.steps.specs.Steps.{open_step}
use Rattle.steps.proofs.TableStable.{table_stable}
use Rattle.steps.proofs.CallCases.{served, opened_served, long_list}
use Rattle.steps.proofs.StepsKeep.{open_step_sound, ask_step_keeps, finish_step_keeps, withdraw_step_keeps}

opens_sound : (t : Table) (l : List Entry) → NoRow (OpenRow t l) → SoundAfter (open_step t l)
opens_sound t l none =
    let long : ¬ (length l < 64) = λ short. none 8 (short-for-opening short) in
    open_step_sound t l (table_stable t (λ unsound. none 9 (unsound_table unsound)))

pub open_keeps : OpenKeeps
open_keeps s s' l l' t r opens sound = served SoundAfter opens (λ m. sound) (opens_sound t l)

pub opened_sound : OpenedSound
opened_sound s s' l l' t r opens is-opened = opened_served SoundAfter opens is-opened (opens_sound t l)

-- the operation of a name that the table holds is one of its operations
known_below : (t : Table) (k : Name) → ¬ (holds (names_of t) k ≡ false) → number_of (names_of t) k < t.names
unfolding names_of
known_below t k h =
    let held = held_below (names_of t) k (go (holds (names_of t) k) h) in
    omega (arith, length-take t.names (spellings t.lengths t.bytes))
  where
    go : (b : Bool) → ¬ (b ≡ false) → b ≡ true
    go true h = refl
    go false h = absurd (h refl)

pub ask_keeps : AskKeeps
ask_keeps s s' l l' t n r asks sound =
    served SoundAfter asks (λ m. sound) (λ none.
    let few : ¬ (63 < t.0) = λ many. none 10 (terminal_above_63 many) in
    ask_step_keeps s l (entry_for s t n) (long_list none) sound (omega arith)
    (λ runs. none 12 (ask_by_the_running t.0 n refl runs))
    (λ waits. none 13 (ask_by_a_waiting t.0 n refl waits))
    (known_below s.table (key n) (λ new. none 11 (no_such_operation t.0 n refl new))))

pub finish_keeps : FinishKeeps
finish_keeps s s' l l' t r finishes sound =
    served SoundAfter finishes (λ m. sound) (λ none. finish_step_keeps s l (long_list none) sound)

pub withdraw_keeps : WithdrawKeeps
withdraw_keeps s s' l l' t r withdraws sound =
    served SoundAfter withdraws (λ m. sound) (λ none. withdraw_step_keeps s l t.0 (long_list none) sound)
