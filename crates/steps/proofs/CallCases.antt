-- What holds of the outcome of a call, by its two cases: a refusal leaves record and list as they were, and where no row of the
-- refusals applies the call does its step. In the second case the list is long enough, and what soundness says of numbers
-- holds: record and list are not unsound, and numbers can be compared.
use mathlib.Core.Path.{◌≡◌, sym, ap, subst}
use mathlib.Core.HLevel.{dec→stable}
use mathlib.Core.List.{List}
use Prim.Native.Nat.{ℕ, ◌<◌, ◌≤◌}
use native.Mathlib.Decide.{dec_le}
use native.Mathlib.Omega.{arith}
use lib.ListN.{length}
use Rattle.meaning.specs.Calls.{Call}
use Rattle.standing.specs.declared.entries.Entry.{Entry}
use Rattle.standing.specs.declared.records.Session.{Session}
use Rattle.steps.specs.Answers.Answer.{opened, refused}
use Rattle.steps.specs.Calling.{Serves, refusing}
use Rattle.steps.specs.Calling.Serves.{refuses, does}
use Rattle.steps.specs.Refusals.{Row, NoRow}
use Rattle.steps.specs.Refusals.Row.{short_list, unsound}
use Rattle.standing.specs.Soundness.{Sound}
use Rattle.steps.specs.Steps.{Outcome}

module _ {R : ℕ → Type 0} {s : Session} {l : List Entry} {step o : Outcome} (P : Outcome → Type 0) where
  -- what holds of a refusal, and of the step where no row applies, holds of the outcome
  pub served : Serves R s l step o → ((m : ℕ) → P (refusing s l m)) → (NoRow R → P step) → P o
  served (refuses m first e) stays goes = subst P (sym e) (stays m)
  served (does none e) stays goes = subst P (sym e) (goes none)

  -- the answer of an opening that is not refused
  pub opened_served : Serves R s l step o → o.answer ≡ opened → (NoRow R → P step) → P o
  opened_served (refuses m first e) is-opened goes =
      let is-refused : o.answer ≡ refused m = ap (λ (o : Outcome). o.answer) e in
      let never : ◌≡◌ {A = ℕ} 0 1 = cc in
      absurd (omega arith)
  opened_served (does none e) is-opened goes = subst P (sym e) (goes none)

module _ {s : Session} {l : List Entry} {c : Call} (none : NoRow (Row s l c)) where
  pub long_list : 64 ≤ length l
  long_list = let long : ¬ (length l < 64) = λ short. none 8 (short_list short) in omega arith

  pub by_soundness : (m n : ℕ) → (Sound s l → m ≤ n) → m ≤ n
  by_soundness m n says = dec→stable (dec_le m n) (λ more. none 9 (unsound (λ sound. more (says sound))))
