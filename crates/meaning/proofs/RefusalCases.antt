-- What holds of each way that the tests of a call can come out holds of the refusal that they come to: by splitting each test once, in
-- number order.
use mathlib.Core.Path.{◌≡◌, refl}
use mathlib.Core.Bool.{Bool, true, false, cond, not}
use mathlib.Core.List.{List}
use mathlib.Core.Option.{Option, some, none}
use Prim.Native.Nat.{ℕ, ◌<◌, ◌≤◌}
use lib.Dec.{ltb}
use borrow.Author.Tests.{ltb-true, ltb-false}
use Rattle.meaning.specs.Names.{Name, key}
use Rattle.meaning.specs.Waiting.{entry_of}
use Rattle.meaning.specs.Calls.{Call}
use Rattle.meaning.specs.Calls.Call.{ask, finish, withdraw}
use Rattle.meaning.specs.Line.{Line, runs, waits, refusal}

-- Verdict holds of each call and what its tests came to: the first that fails decides, and where none does the call goes on
pub record Cases (known : Name → Bool) (l : Line) (Verdict : Call → Option ℕ → Type 0) : Type 0 where
  pub asks_above : (t : ℕ) (n : Name) → 63 < t → Verdict (ask t n) (some 10)
  pub asks_unknown : (t : ℕ) (n : Name) → t ≤ 63 → known (key n) ≡ false → Verdict (ask t n) (some 11)
  pub asks_running : (t : ℕ) (n : Name) → t ≤ 63 → known (key n) ≡ true → runs l.running t ≡ true → Verdict (ask t n) (some 12)
  pub asks_waiting : (t : ℕ) (n : Name) → t ≤ 63 → known (key n) ≡ true → runs l.running t ≡ false
      → waits (entry_of t l.waiting) ≡ true → Verdict (ask t n) (some 13)
  pub asks_on : (t : ℕ) (n : Name) → t ≤ 63 → known (key n) ≡ true → runs l.running t ≡ false
      → waits (entry_of t l.waiting) ≡ false → Verdict (ask t n) none
  pub finishes_above : (t : ℕ) → 63 < t → Verdict (finish t) (some 10)
  pub finishes_idle : (t : ℕ) → t ≤ 63 → runs l.running t ≡ false → Verdict (finish t) (some 14)
  pub finishes_on : (t : ℕ) → t ≤ 63 → runs l.running t ≡ true → Verdict (finish t) none
  pub withdraws_above : (t : ℕ) → 63 < t → Verdict (withdraw t) (some 10)
  pub withdraws_absent : (t : ℕ) → t ≤ 63 → waits (entry_of t l.waiting) ≡ false → Verdict (withdraw t) (some 15)
  pub withdraws_on : (t : ℕ) → t ≤ 63 → waits (entry_of t l.waiting) ≡ true → Verdict (withdraw t) none

module _ (permitted : List Name → Bool) (known : Name → Bool) (l : Line) (Verdict : Call → Option ℕ → Type 0) (cases : Cases known l Verdict) where
  ask_cases : (t : ℕ) (n : Name) (high knows own listed : Bool) → ltb 63 t ≡ high → known (key n) ≡ knows
      → runs l.running t ≡ own → waits (entry_of t l.waiting) ≡ listed
      → Verdict (ask t n) (cond high (some 10) (cond (not knows) (some 11) (cond own (some 12) (cond listed (some 13) none))))
  ask_cases t n true k o w h e r q = cases.asks_above t n (ltb-true 63 t h)
  ask_cases t n false false o w h e r q = cases.asks_unknown t n (ltb-false 63 t h) e
  ask_cases t n false true true w h e r q = cases.asks_running t n (ltb-false 63 t h) e r
  ask_cases t n false true false true h e r q = cases.asks_waiting t n (ltb-false 63 t h) e r q
  ask_cases t n false true false false h e r q = cases.asks_on t n (ltb-false 63 t h) e r q

  finish_cases : (t : ℕ) (high own : Bool) → ltb 63 t ≡ high → runs l.running t ≡ own
      → Verdict (finish t) (cond high (some 10) (cond (not own) (some 14) none))
  finish_cases t true o h r = cases.finishes_above t (ltb-true 63 t h)
  finish_cases t false false h r = cases.finishes_idle t (ltb-false 63 t h) r
  finish_cases t false true h r = cases.finishes_on t (ltb-false 63 t h) r

  withdraw_cases : (t : ℕ) (high listed : Bool) → ltb 63 t ≡ high → waits (entry_of t l.waiting) ≡ listed
      → Verdict (withdraw t) (cond high (some 10) (cond (not listed) (some 15) none))
  withdraw_cases t true w h q = cases.withdraws_above t (ltb-true 63 t h)
  withdraw_cases t false false h q = cases.withdraws_absent t (ltb-false 63 t h) q
  withdraw_cases t false true h q = cases.withdraws_on t (ltb-false 63 t h) q

  pub refusal_cases : (c : Call) → Verdict c (refusal permitted known l c)
  unfolding refusal
  refusal_cases (ask t n) = ask_cases t n _ _ _ _ refl refl refl refl
  refusal_cases (finish t) = finish_cases t _ _ refl refl
  refusal_cases (withdraw t) = withdraw_cases t _ _ refl refl
