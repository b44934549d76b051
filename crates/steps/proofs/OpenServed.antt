-- An opening by value does what the contract of `open` says: 8, 9, then the step of document 01.
use mathlib.Core.Path.{◌≡◌, refl}
use mathlib.Core.Bool.{Bool, true, false, false≢true}
use mathlib.Core.List.{List}
use mathlib.Core.Logic.{◌↔◌, ⊎_elim}
use Prim.Native.Nat.{ℕ, ◌≤◌}
use native.Mathlib.Omega.{arith}
use borrow.Author.Tests.{lt-ltb, le-ltb}
use lib.ListN.{length}
use Rattle.meaning.proofs.SetLaws.{below_or_not}
use Rattle.table.specs.Soundness.{Sound as TableSound}
use Rattle.table.specs.declared.cells.Table.{Table}
use Rattle.standing.specs.declared.entries.Entry.{Entry}
use Rattle.standing.specs.declared.records.Session.{Session}
use Rattle.std.specs.Prelude.{Result}
use Rattle.steps.specs.declared.replies.CallRefusal.{CallRefusal}
use Rattle.steps.specs.Steps.{open_step}
use Rattle.steps.specs.Refusals.{OpenRow}
use Rattle.steps.specs.Refusals.OpenRow.{short_list, unsound_table}
use Rattle.steps.specs.Calling.{Serves}
use Rattle.steps.specs.Calling.Serves.{refuses, does}
use Rattle.steps.specs.Values.{open_value, open_outcome, outcome_of, OpenedBy}

-- the rows that are left where 8 does not apply, and none where 9 does not either
pub open_rows_left : (t : Table) (l : List Entry) {k : ℕ} → OpenRow t l k → (8 ≤ k) × (64 ≤ length l → 9 ≤ k) × (64 ≤ length l → TableSound t → ⊥)
open_rows_left t l (short_list h) = (omega arith, λ long. absurd (omega arith), λ long d. absurd (omega arith))
open_rows_left t l (unsound_table h) = (omega arith, λ long. omega arith, λ long d. h d)

module _ (s : Session) (l : List Entry) (t : Table) where
  -- a call with this value serves
  abbrev pub Good : Result Session CallRefusal → Type 0
  Good v = Serves (OpenRow t l) s l (open_step t l) (outcome_of s l (open_outcome l) v)

  long_served : (long : 64 ≤ length l) (b : Bool) → (b ≡ true) ↔ TableSound t → Good (open_value b (length l) t)
  unfolding open_value open_step
  long_served long false says =
      rw (le-ltb (length l) 64 long)
      (refuses 9
      (record {
        applies = unsound_table (λ d. false≢true (says.1 d));
        none_before = λ k before row. absurd (omega (arith, before, (open_rows_left t l row).1 long));
      })
      refl)
  long_served long true says = rw (le-ltb (length l) 64 long) (does (λ m row. (open_rows_left t l row).2 long (says.0 refl)) refl)

  open_served : (b : Bool) → (b ≡ true) ↔ TableSound t → Good (open_value b (length l) t)
  unfolding open_value
  open_served b says =
      ⊎_elim
      (λ short.
      rw (lt-ltb (length l) 64 short)
      (refuses 8
      (record { applies = short_list short; none_before = λ k before row. absurd (omega (arith, before, (open_rows_left t l row).0)) }) refl))
      (λ long. long_served long b says)
      (below_or_not (length l) 64)

pub open_opens : (s : Session) (l : List Entry) (t : Table) (v : Result Session CallRefusal) → OpenedBy (length l) t v → Good s l t v
open_opens s l t v by = rw by.is (open_served s l t by.sound by.says)
