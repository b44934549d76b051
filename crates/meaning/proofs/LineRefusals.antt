-- Refusals are given exactly when they are due: each test of a call says what was heard of its terminal, so the cases of the tests are the
-- cases of `Due`.
use mathlib.Core.Path.{◌≡◌, refl, sym, subst}
use mathlib.Core.Bool.{Bool, true, false, false≢true}
use mathlib.Core.List.Memᴰ
use mathlib.Core.List.{List, [], ◌∷◌, Memᴰ}
use mathlib.Core.Logic.Iff
use mathlib.Core.Logic.{◌↔◌}
use mathlib.Core.Option.{Option, some, none}
use Prim.Native.Nat.{ℕ, ◌≤◌}
use native.Mathlib.Omega.{arith}
use lib.ListN.{length}
use borrow.Author.Tests.{lt-ltb, le-ltb, eqb-true, eq-eqb}
use Rattle.meaning.specs.Names.{Name}
use Rattle.meaning.specs.Waiting.{entry_of}
use Rattle.meaning.specs.Calls.{Call}
use Rattle.meaning.specs.Calls.Call.{ask, finish, withdraw}
use Rattle.meaning.specs.Line.{runs, waits, refusal}
use Rattle.meaning.specs.Heard.{Account}
use Rattle.meaning.specs.LinePromises.{unfinished_in, line_of, Says}
use Rattle.meaning.specs.Demand.{Runs, Waits, Due}
use Rattle.meaning.specs.Demand.Due.{above_63_asks, above_63_finishes, above_63_withdraws, no_such_operation}
use Rattle.meaning.specs.Demand.Due.{asks_while_running, asks_while_waiting, finishes_not_running, withdraws_not_waiting}
use Rattle.meaning.proofs.WaitingLaws.{not_true, waits_reads}
use Rattle.meaning.proofs.RefusalCases.{refusal_cases}

-- a test that reads A is false exactly if A is not
false_not : {b : Bool} {A : Type 0} → (b ≡ true) ↔ A → b ≡ false → ¬ A
false_not r e x = not_true e (r.1 x)

not_false : (b : Bool) {A : Type 0} → (b ≡ true) ↔ A → ¬ A → b ≡ false
not_false true r h = absurd (h (r.0 refl))
not_false false r h = refl

runs_reads : (t : ℕ) (us : List ℕ) → length us ≤ 1 → (runs (unfinished_in us) t ≡ true) ↔ Memᴰ t us
runs_reads t [] o = (λ e. absurd (false≢true e), λ m. absurd (Memᴰ.not-nil m))
runs_reads t (u ∷ []) o = (λ e. Memᴰ.head (sym (eqb-true u t e)), λ m. eq-eqb u t (sym (Memᴰ.eq_of_singleton m)))
runs_reads t (u ∷ v ∷ us) o = absurd (omega arith)

-- of what a call that is not refused has passed, what is needed below
abbrev Passes : Account → Call → Type 0
Passes a (ask t n) = ¬ Waits a t
Passes a (finish t) = Runs a t
Passes a (withdraw t) = Waits a t

abbrev pub Tested : (Name → Bool) → Account → Call → Option ℕ → Type 0
Tested known a c none = Passes a c
Tested known a c (some m) = Due (Says known) a c m

module _ (permitted : List Name → Bool) (known : Name → Bool) (a : Account) (one : length a.unfinished ≤ 1) where
  running : (t : ℕ) → (runs (unfinished_in a.unfinished) t ≡ true) ↔ Runs a t
  running t = runs_reads t a.unfinished one

  waiting : (t : ℕ) → (waits (entry_of t a.waiters) ≡ true) ↔ Waits a t
  waiting t = waits_reads t a.waiters

  pub call_tested : (c : Call) → Tested known a c (refusal permitted known (line_of a) c)
  call_tested =
      refusal_cases permitted known (line_of a) (Tested known a)
      (record {
        asks_above = above_63_asks;
        asks_unknown = λ t n h e. no_such_operation t n h (not_true e);
        asks_running = λ t n h e r. asks_while_running t n h e ((running t).0 r);
        asks_waiting = λ t n h e r q. asks_while_waiting t n h e (false_not (running t) r) ((waiting t).0 q);
        asks_on = λ t n h e r q. false_not (waiting t) q;
        finishes_above = above_63_finishes;
        finishes_idle = λ t h r. finishes_not_running t h (false_not (running t) r);
        finishes_on = λ t h r. (running t).0 r;
        withdraws_above = above_63_withdraws;
        withdraws_absent = λ t h q. withdraws_not_waiting t h (false_not (waiting t) q);
        withdraws_on = λ t h q. (waiting t).0 q;
      })

  due_refused : {c : Call} {m : ℕ} → Due (Says known) a c m → refusal permitted known (line_of a) c ≡ some m
  unfolding refusal
  due_refused (above_63_asks t n h) = rw (lt-ltb 63 t h)
  due_refused (above_63_finishes t h) = rw (lt-ltb 63 t h)
  due_refused (above_63_withdraws t h) = rw (lt-ltb 63 t h)
  due_refused (no_such_operation t n h u) = rw (le-ltb 63 t h, not_false _ Iff.rfl u)
  due_refused (asks_while_running t n h k r) = rw (le-ltb 63 t h, k, (running t).1 r)
  due_refused (asks_while_waiting t n h k r w) =
      rw (le-ltb 63 t h, k, not_false _ (running t) r, (waiting t).1 w)
  due_refused (finishes_not_running t h r) = rw (le-ltb 63 t h, not_false _ (running t) r)
  due_refused (withdraws_not_waiting t h w) = rw (le-ltb 63 t h, not_false _ (waiting t) w)

  pub refused_if_due : (c : Call) (m : ℕ) → (refusal permitted known (line_of a) c ≡ some m) ↔ Due (Says known) a c m
  refused_if_due c m = (λ e. subst (Tested known a c) e (call_tested c), due_refused)
