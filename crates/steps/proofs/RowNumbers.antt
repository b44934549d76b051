-- The rows of the table of refusals, by their numbers: which rows are left after those that do not apply.
use mathlib.Core.Path.{◌≡◌, sym, ◌∙◌}
use mathlib.Core.Bool.{true, false≢true}
use mathlib.Core.List.{List}
use Prim.Native.Nat.{ℕ, ◌≤◌, ◌<◌}
use native.Mathlib.Omega.{arith}
use lib.ListN.{length}
use Rattle.meaning.specs.Names.{Name, key}
use Rattle.meaning.specs.Operations.{holds}
use Rattle.meaning.specs.Calls.{Call}
use Rattle.meaning.specs.Calls.Call.{ask, finish, withdraw}
use Rattle.table.specs.Cells.{names_of}
use Rattle.standing.specs.declared.entries.Entry.{Entry}
use Rattle.standing.specs.declared.records.Session.{Session}
use Rattle.steps.specs.Refusals.{Row, terminal_of, Runs, Waits}
use Rattle.steps.specs.Refusals.Row.{short_list, unsound, terminal_above_63, no_such_operation, ask_by_the_running, ask_by_a_waiting, finish_by_another, withdraw_by_another}
use Rattle.standing.specs.Soundness.{Sound}

module _ (s : Session) (l : List Entry) where
  -- the rows that every call has: 8, 9 and 10, and what is left where they do not apply
  pub rows_left : {c : Call} {k : ℕ} → Row s l c k
      → (8 ≤ k) × (64 ≤ length l → 9 ≤ k) × (64 ≤ length l → Sound s l → 10 ≤ k)
      × (64 ≤ length l → Sound s l → terminal_of c < 64 → 11 ≤ k)
  rows_left (short_list h) =
      (omega arith, λ long. absurd (omega arith), λ long d. absurd (omega arith), λ long d b. absurd (omega arith))
  rows_left (unsound h) = (omega arith, λ long. omega arith, λ long d. absurd (h d), λ long d b. absurd (h d))
  rows_left (terminal_above_63 h) = (omega arith, λ long. omega arith, λ long d. omega arith, λ long d b. absurd (omega arith))
  rows_left (no_such_operation t n e h) = (omega arith, λ long. omega arith, λ long d. omega arith, λ long d b. omega arith)
  rows_left (ask_by_the_running t n e h) = (omega arith, λ long. omega arith, λ long d. omega arith, λ long d b. omega arith)
  rows_left (ask_by_a_waiting t n e h) = (omega arith, λ long. omega arith, λ long d. omega arith, λ long d b. omega arith)
  rows_left (finish_by_another t e h) = (omega arith, λ long. omega arith, λ long d. omega arith, λ long d b. omega arith)
  rows_left (withdraw_by_another t e h) = (omega arith, λ long. omega arith, λ long d. omega arith, λ long d b. omega arith)

  -- those that an ask has besides
  pub ask_rows_left : (t : ℕ) (n : Name) {k : ℕ} → Row s l (ask t n) k → 11 ≤ k
      → (holds (names_of s.table) (key n) ≡ true → 12 ≤ k)
      × (holds (names_of s.table) (key n) ≡ true → ¬ Runs s t → 13 ≤ k)
      × (holds (names_of s.table) (key n) ≡ true → ¬ Runs s t → ¬ Waits s l t → ⊥)
  ask_rows_left t n (short_list h) from = absurd (omega arith)
  ask_rows_left t n (unsound h) from = absurd (omega arith)
  ask_rows_left t n (terminal_above_63 h) from = absurd (omega arith)
  ask_rows_left t n (no_such_operation u m e h) from =
      let q : n ≡ m = cc in
      let unknown : ¬ (holds (names_of s.table) (key n) ≡ true) = λ known. false≢true (sym h ∙ rw q at known) in
      (λ known. absurd (unknown known), λ known r. absurd (unknown known), λ known r w. unknown known)
  ask_rows_left t n (ask_by_the_running u m e h) from =
      let q : t ≡ u = cc in
      (λ known. omega arith, λ known r. absurd (r (rw q h)), λ known r w. r (rw q h))
  ask_rows_left t n (ask_by_a_waiting u m e h) from =
      let q : t ≡ u = cc in
      (λ known. omega arith, λ known r. omega arith, λ known r w. w (rw q h))
  ask_rows_left t n (finish_by_another u e h) from = let z : ◌≡◌ {A = ℕ} 0 1 = cc in absurd (omega arith)
  ask_rows_left t n (withdraw_by_another u e h) from = let z : ◌≡◌ {A = ℕ} 0 1 = cc in absurd (omega arith)

  -- that a finish has besides
  pub finish_rows_left : (t : ℕ) {k : ℕ} → Row s l (finish t) k → 11 ≤ k → (14 ≤ k) × (Runs s t → ⊥)
  finish_rows_left t (short_list h) from = absurd (omega arith)
  finish_rows_left t (unsound h) from = absurd (omega arith)
  finish_rows_left t (terminal_above_63 h) from = absurd (omega arith)
  finish_rows_left t (no_such_operation u m e h) from = let z : ◌≡◌ {A = ℕ} 0 1 = cc in absurd (omega arith)
  finish_rows_left t (ask_by_the_running u m e h) from = let z : ◌≡◌ {A = ℕ} 0 1 = cc in absurd (omega arith)
  finish_rows_left t (ask_by_a_waiting u m e h) from = let z : ◌≡◌ {A = ℕ} 0 1 = cc in absurd (omega arith)
  finish_rows_left t (finish_by_another u e h) from = let q : t ≡ u = cc in (omega arith, λ r. h (rw q at r))
  finish_rows_left t (withdraw_by_another u e h) from = let z : ◌≡◌ {A = ℕ} 0 1 = cc in absurd (omega arith)

  -- and that a withdrawal has
  pub withdraw_rows_left : (t : ℕ) {k : ℕ} → Row s l (withdraw t) k → 11 ≤ k → (15 ≤ k) × (Waits s l t → ⊥)
  withdraw_rows_left t (short_list h) from = absurd (omega arith)
  withdraw_rows_left t (unsound h) from = absurd (omega arith)
  withdraw_rows_left t (terminal_above_63 h) from = absurd (omega arith)
  withdraw_rows_left t (no_such_operation u m e h) from = let z : ◌≡◌ {A = ℕ} 0 1 = cc in absurd (omega arith)
  withdraw_rows_left t (ask_by_the_running u m e h) from = let z : ◌≡◌ {A = ℕ} 0 1 = cc in absurd (omega arith)
  withdraw_rows_left t (ask_by_a_waiting u m e h) from = let z : ◌≡◌ {A = ℕ} 0 1 = cc in absurd (omega arith)
  withdraw_rows_left t (finish_by_another u e h) from = let z : ◌≡◌ {A = ℕ} 0 1 = cc in absurd (omega arith)
  withdraw_rows_left t (withdraw_by_another u e h) from = let q : t ≡ u = cc in (omega arith, λ w. h (rw q at w))
