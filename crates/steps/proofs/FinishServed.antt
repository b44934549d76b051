-- A finish by value does what the contract of `finish` says: the tests in number order, then the step of document 01. What the search found
-- first is the entry that the step picks, since a listed operation is among those of the set exactly if it meets the set.
use mathlib.Core.Path.{◌≡◌, refl, sym, ap, ◌∙◌}
use mathlib.Core.Bool.{Bool, true, false, false≢true, cond}
use mathlib.Core.List.{List, [], ◌∷◌}
use mathlib.Core.Logic.{◌↔◌}
use Prim.Native.Nat.{ℕ, suc, ◌≤◌, ◌<◌}
use native.Mathlib.Omega.{arith}
use lib.ListN.{length, get_or, length-take}
use lib.Seq.{get_or-take}
use Rattle.meaning.specs.Sets.{mem, union_of}
use Rattle.meaning.specs.Calls.Call.{finish}
use Rattle.standing.specs.declared.searches.Waiter.{Waiter}
use Rattle.standing.specs.declared.numbers.Terminal.{Terminal}
use Rattle.standing.specs.declared.entries.Entry.{Entry}
use Rattle.standing.specs.declared.records.Session.{Session}
use Rattle.standing.specs.declared.searches.Search.{Search}
use Rattle.std.specs.Prelude.{Result, Ok, Err, Option, Some, None}
use Rattle.steps.specs.declared.replies.CallRefusal.{CallRefusal}
use Rattle.steps.specs.declared.replies.CallRefusal.TheVariants.{NotRunning}
use Rattle.steps.specs.declared.outcomes.Handed.{Handed}
use Rattle.steps.specs.Answers.{number_of}
use Rattle.standing.specs.Lists.{blank_entry, in_use, seek, taken_out}
use Rattle.standing.specs.Searching.{operations_by, searching, looking_next, looked}
use Rattle.standing.specs.Soundness.{RecordSound, Sound, meets_set}
use Rattle.steps.specs.Steps.{freed, picked, hand_on, finish_step}
use Rattle.steps.specs.Refusals.{Row, First}
use Rattle.steps.specs.Refusals.Row.{finish_by_another}
use Rattle.steps.specs.Calling.{Serves}
use Rattle.steps.specs.Calling.Serves.{refuses, does}
use Rattle.steps.specs.Promises.{FinishCoreIsStep, LookingFindsPicked}
use Rattle.steps.specs.Values.{outcome_of, finish_outcome, runs_in, hand_core, finish_core, finish_value, FinishedBy}
use Rattle.steps.proofs.AskServed.{one_more_fits}
use Rattle.standing.proofs.Looking.{looked_first}
use Rattle.standing.proofs.Meeting.{operation_meets}
use Rattle.steps.proofs.RowNumbers.{rows_left, finish_rows_left}
use Rattle.standing.proofs.Seeking.{Finds, seek_finds}
use Rattle.standing.proofs.SoundLists.{length_in_use}
use Rattle.steps.proofs.Verdicts.{runs_says, found, Passed, Common, common}
use Rattle.steps.proofs.Verdicts.Common.{stops, goes}

-- tests that agree on the entries find the same
seek_alike : (test test' : Entry → Bool) (es : List Entry)
    → ((i : ℕ) → i < length es → test (get_or es i blank_entry) ≡ test' (get_or es i blank_entry)) → seek test es ≡ seek test' es
unfolding seek
seek_alike test test' [] same = refl
seek_alike test test' (e ∷ es) same =
    rw (same 0 (omega arith), seek_alike test test' es (λ i l. same (suc i) (omega (arith, l))))

-- the line is handed on as the step says, to an entry at a place below 64
handed_on : (s : Session) (l : List Entry) (test : Entry → Bool) (f : Option Waiter) → Finds test (in_use s l) f → length (in_use s l) ≤ 64
    → finish_outcome l (hand_core s f) ≡ hand_on s l f
unfolding taken_out
handed_on s l test None finds few = refl
handed_on s l test (Some w) finds few = rw (one_more_fits w.place (omega (arith, finds.there, few)))

-- the core step is the step
pub finish_core_is_step : FinishCoreIsStep
unfolding finish_core finish_step picked
finish_core_is_step s l long d =
    handed_on (freed s) l (λ e. meets_set (freed s) e.operation.0) (picked (freed s) l) (seek_finds _ (in_use s l))
    (omega (arith, length-take s.waiting l, d.record_sound.count_most))

module _ (s : Session) (l : List Entry) (t : Terminal) where
  abbrev w : ℕ
  w = operations_by s (union_of s.table.rows s.set)

  abbrev f : Search
  f = found s l t w

  -- the first entry that the search finds is the one that the step picks
  first_picked : 64 ≤ length l → Sound s l → f.first ≡ picked (freed s) l
  unfolding searching picked
  first_picked long d =
      let r = d.record_sound in
      looked_first (searching s t w) (in_use s l) refl
      ∙ seek_alike (λ e. mem e.operation.0 w) (λ e. meets_set (freed s) e.operation.0) (in_use s l)
      (λ i l'.
      let there : i < s.waiting = omega (arith, l', length_in_use s l t w long r) in
      let same = get_or-take s.waiting l i blank_entry there in
      operation_meets s (union_of s.table.rows s.set) _
      (omega (arith, ap (λ (e : Entry). e.operation.0) same, d.operations_exist i there, r.table_sound.names_most)))

  module _ (sound : Bool) (says : (sound ≡ true) ↔ RecordSound s) where
    abbrev rows : ℕ → Type 0
    rows = Row s l (finish t.0)

    -- a call with this value serves
    abbrev Good : Result Handed CallRefusal → Type 0
    Good v = Serves rows s l (finish_step s l) (outcome_of s l (finish_outcome l) v)

    refused_by : (r : CallRefusal) → First rows (number_of r) → Good (Err r)
    refused_by r first = refuses (number_of r) first refl

    -- past the tests of every call: 14, or the step
    past : (p : Passed s l t w) → (b : Bool) → runs_in s.running t ≡ b → Good (cond b (Ok (finish_core s f.first)) (Err NotRunning))
    past p false idle =
        refused_by NotRunning
        (record {
          applies = finish_by_another t.0 refl (λ r. false≢true (sym idle ∙ (runs_says s.running t).1 r));
          none_before = λ k before row.
              absurd
              (omega (arith, before, (finish_rows_left s l t.0 row ((rows_left s l row).3 p.long p.is_sound p.below)).0));
        })
    past p true runs =
        does
        (λ m row.
        (finish_rows_left s l t.0 row ((rows_left s l row).3 p.long p.is_sound p.below)).1 ((runs_says s.running t).0 runs))
        (ap (λ (first : Option Waiter). finish_outcome l (finish_core s first)) (first_picked p.long p.is_sound)
        ∙ finish_core_is_step s l p.long p.is_sound)

    pub finish_served : Good (finish_value sound s (length l) f t)
    unfolding finish_value
    finish_served = by_verdict (common s l t w sound says (finish t.0) refl)
      where
        by_verdict : Common s l t w sound says (finish t.0) → Good (finish_value sound s (length l) f t)
        by_verdict (stops r e first) = rw e (refused_by r first)
        by_verdict (goes e p) = rw e (past p (runs_in s.running t) refl)

pub finish_finishes : (s : Session) (l : List Entry) (t : Terminal) (f : Search) (v : Result Handed CallRefusal)
    → f ≡ looked 0 (looking_next s t) (in_use s l) → FinishedBy s (length l) f t v
    → Serves (Row s l (finish t.0)) s l (finish_step s l) (outcome_of s l (finish_outcome l) v)
finish_finishes s l t f v e by = rw (by.is, e) (finish_served s l t by.sound by.says)

pub looking_finds_picked : LookingFindsPicked
looking_finds_picked s l t = first_picked s l t
