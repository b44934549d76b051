-- A withdrawal by value does what the contract of `withdraw` says: the tests in number order, then the step of document 01.
use mathlib.Core.Path.{◌≡◌, refl, sym, ap, ◌∙◌}
use mathlib.Core.Bool.{Bool, true, false≢true}
use mathlib.Core.List.{List}
use mathlib.Core.Logic.{◌↔◌}
use Prim.Native.Nat.{ℕ}
use native.Mathlib.Omega.{arith}
use lib.ListN.{length}
use Rattle.meaning.specs.Calls.Call.{withdraw}
use Rattle.standing.specs.declared.searches.Waiter.{Waiter}
use Rattle.standing.specs.declared.numbers.Terminal.{Terminal}
use Rattle.standing.specs.declared.entries.Entry.{Entry}
use Rattle.standing.specs.declared.records.Session.{Session}
use Rattle.standing.specs.declared.searches.Search.{Search}
use Rattle.std.specs.Prelude.{Result, Err, Option, Some, None, is_some}
use Rattle.steps.specs.declared.replies.CallRefusal.{CallRefusal}
use Rattle.steps.specs.declared.replies.CallRefusal.TheVariants.{NotWaiting}
use Rattle.steps.specs.declared.outcomes.Withdrawn.{Withdrawn}
use Rattle.steps.specs.Answers.{number_of}
use Rattle.standing.specs.Lists.{in_use}
use Rattle.standing.specs.Searching.{looking, looked}
use Rattle.standing.specs.Soundness.{RecordSound}
use Rattle.steps.specs.Steps.{entry_of, take_back, withdraw_step}
use Rattle.steps.specs.Refusals.{Row, First}
use Rattle.steps.specs.Refusals.Row.{withdraw_by_another}
use Rattle.steps.specs.Calling.{Serves}
use Rattle.steps.specs.Calling.Serves.{refuses, does}
use Rattle.steps.specs.Promises.{WithdrawCoreIsStep, LookingFindsOwn}
use Rattle.steps.specs.Values.{outcome_of, withdraw_outcome, withdraw_core, withdraw_found, withdraw_value, WithdrawnBy}
use Rattle.steps.proofs.RowNumbers.{rows_left, withdraw_rows_left}
use Rattle.steps.proofs.Verdicts.{found, own_found, waits_says, Passed, Common, common}
use Rattle.steps.proofs.Verdicts.Common.{stops, goes}

-- the core step is the step
pub withdraw_core_is_step : WithdrawCoreIsStep
unfolding withdraw_step withdraw_core
withdraw_core_is_step s l t w there = ap (take_back s l) (sym there)

module _ (s : Session) (l : List Entry) (t : Terminal) where
  abbrev f : Search
  f = found s l t 0

  own_entry : f.own ≡ entry_of s l t.0
  unfolding entry_of
  own_entry = own_found s l t 0

  module _ (sound : Bool) (says : (sound ≡ true) ↔ RecordSound s) where
    abbrev rows : ℕ → Type 0
    rows = Row s l (withdraw t.0)

    -- a call with this value serves
    abbrev Good : Result Withdrawn CallRefusal → Type 0
    Good v = Serves rows s l (withdraw_step s l t.0) (outcome_of s l (withdraw_outcome l) v)

    refused_by : (r : CallRefusal) → First rows (number_of r) → Good (Err r)
    refused_by r first = refuses (number_of r) first refl

    -- past the tests of every call: 15, or the step
    past : (p : Passed s l t 0) → (own : Option Waiter) → f.own ≡ own → Good (withdraw_found s own)
    past p None nobody =
        refused_by NotWaiting
        (record {
          applies = withdraw_by_another t.0 refl
              (λ w. false≢true (ap is_some (sym nobody) ∙ (waits_says s l t 0 p.long p.is_sound.record_sound).1 w));
          none_before = λ k before row.
              absurd
              (omega (arith, before, (withdraw_rows_left s l t.0 row ((rows_left s l row).3 p.long p.is_sound p.below)).0));
        })
    past p (Some w) there =
        does
        (λ m row.
        (withdraw_rows_left s l t.0 row ((rows_left s l row).3 p.long p.is_sound p.below)).1
        ((waits_says s l t 0 p.long p.is_sound.record_sound).0 (ap is_some there)))
        (withdraw_core_is_step s l t.0 w (sym own_entry ∙ there))

    pub withdraw_served : Good (withdraw_value sound s (length l) f t)
    unfolding withdraw_value
    withdraw_served = by_verdict (common s l t 0 sound says (withdraw t.0) refl)
      where
        by_verdict : Common s l t 0 sound says (withdraw t.0) → Good (withdraw_value sound s (length l) f t)
        by_verdict (stops r e first) = rw e (refused_by r first)
        by_verdict (goes e p) = rw e (past p f.own refl)

pub withdraw_withdraws : (s : Session) (l : List Entry) (t : Terminal) (f : Search) (v : Result Withdrawn CallRefusal)
    → f ≡ looked 0 (looking s t) (in_use s l) → WithdrawnBy s (length l) f t v
    → Serves (Row s l (withdraw t.0)) s l (withdraw_step s l t.0) (outcome_of s l (withdraw_outcome l) v)
withdraw_withdraws s l t f v e by = rw (by.is, e) (withdraw_served s l t by.sound by.says)

pub looking_finds_own : LookingFindsOwn
looking_finds_own s l t = own_entry s l t
