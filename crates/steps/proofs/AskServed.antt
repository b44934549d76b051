-- An ask by value does what the contract of `ask` says: the tests in number order, then the step of document 01.
use mathlib.Core.Path.{◌≡◌, refl, sym, ◌∙◌}
use mathlib.Core.Bool.{Bool, true, false, false≢true, cond, ◌&&◌}
use mathlib.Core.List.{List}
use mathlib.Core.Logic.{◌↔◌}
use Prim.Native.Nat.{ℕ, suc, ◌≤◌, ◌<◌}
use native.Mathlib.Omega.{arith}
use borrow.Author.Tests.{lt-ltb}
use lib.ListN.{length, set}
use Rattle.meaning.specs.Names.{Name, key}
use Rattle.meaning.specs.Operations.{holds, number_of}
use Rattle.meaning.specs.Calls.Call.{ask}
use Rattle.table.specs.Cells.{names_of}
use Rattle.table.specs.Following.{found_in}
use Rattle.standing.specs.declared.numbers.Terminal.{Terminal}
use Rattle.standing.specs.declared.entries.Entry.{Entry}
use Rattle.standing.specs.declared.records.Session.{Session}
use Rattle.standing.specs.declared.searches.Search.{Search}
use Rattle.std.specs.Prelude.{Some, None, Result, Ok, Err, is_none, is_some}
use Rattle.steps.specs.declared.replies.CallRefusal.{CallRefusal}
use Rattle.steps.specs.declared.replies.CallRefusal.TheVariants.{NoOperation, Running, Waiting}
use Rattle.steps.specs.declared.replies.Ask.TheVariants.{Granted, Delayed}
use Rattle.steps.specs.declared.outcomes.Asked.{Asked}
use Rattle.steps.specs.Answers.{number_of as number_told}
use Rattle.steps.specs.Answers.Answer.{granted, delayed}
use Rattle.standing.specs.Lists.{in_use}
use Rattle.standing.specs.Searching.{looking, looked}
use Rattle.standing.specs.Soundness.{RecordSound, meets_set}
use Rattle.steps.specs.Steps.{granting, counting, ask_step}
use Rattle.steps.specs.Refusals.{Row, First, Runs, Waits}
use Rattle.steps.specs.Refusals.Row.{no_such_operation, ask_by_the_running, ask_by_a_waiting}
use Rattle.steps.specs.Calling.{Serves, entry_for}
use Rattle.steps.specs.Calling.Serves.{refuses, does}
use Rattle.steps.specs.Promises.{AskCoreIsStep}
use Rattle.steps.specs.Values.{outcome_of, ask_outcome, one_more, runs_in, ask_core, ask_known, ask_named, ask_value, AskedBy}
use Rattle.steps.proofs.Pigeonhole.{room_for_one}
use Rattle.steps.proofs.RowNumbers.{rows_left, ask_rows_left}
use Rattle.standing.proofs.SoundLists.{length_in_use}
use Rattle.steps.proofs.Verdicts.{runs_says, found, waits_says, Passed, Common, common}
use Rattle.steps.proofs.Verdicts.Common.{stops, goes}

pub one_more_fits : (n : ℕ) → n < 64 → one_more n ≡ suc n
unfolding one_more
one_more_fits n h = rw (lt-ltb n 64 h)

-- the core step is the step, where there is room for one more
module _ (s : Session) (l : List Entry) (e : Entry) (count : length (in_use s l) ≡ s.waiting) (room : s.waiting < 64) where
  abbrev grants : Asked
  grants = record { reply = Granted; session = granting s e s.waiting; waiter = None }

  abbrev delays : Asked
  delays =
      record {
        reply = Delayed s.waiting;
        session = counting s (one_more s.waiting);
        waiter = Some (record { place = s.waiting; entry = e });
      }

  by_test : (b : Bool) → ask_outcome l (cond b grants delays)
      ≡ cond b
      (record { answer = granted; session = granting s e s.waiting; list = l })
      (record {
        answer = delayed (length (in_use s l));
        session = counting s (suc s.waiting);
        list = set l (length (in_use s l)) e;
      })
  by_test true = refl
  by_test false = rw (count, one_more_fits s.waiting room)

  ask_core_told : ask_outcome l (ask_core s e) ≡ ask_step s l e
  unfolding ask_core ask_step
  ask_core_told = by_test (is_none s.running && meets_set s e.operation.0)

pub ask_core_is_step : AskCoreIsStep
ask_core_is_step s l e long d below absent =
    ask_core_told s l e (length_in_use s l e.terminal 0 long d.record_sound) (room_for_one s l e.terminal.0 d below absent)

module _ (s : Session) (l : List Entry) (t : Terminal) (n : Name) (sound : Bool) (says : (sound ≡ true) ↔ RecordSound s) where
  abbrev f : Search
  f = found s l t 0

  abbrev rows : ℕ → Type 0
  rows = Row s l (ask t.0 n)

  abbrev known : Bool
  known = holds (names_of s.table) (key n)

  abbrev e : Entry
  e = entry_for s t n

  -- a call with this value serves
  abbrev Good : Result Asked CallRefusal → Type 0
  Good v = Serves rows s l (ask_step s l e) (outcome_of s l (ask_outcome l) v)

  refused_by : (r : CallRefusal) → First rows (number_told r) → Good (Err r)
  refused_by r first = refuses (number_told r) first refl

  -- past the tests of every call
  module _ (p : Passed s l t 0) where
    last : {k : ℕ} → rows k → 11 ≤ k
    last row = (rows_left s l row).3 p.long p.is_sound p.below

    abbrev left : {k : ℕ} → rows k
        → (known ≡ true → 12 ≤ k) × (known ≡ true → ¬ Runs s t.0 → 13 ≤ k) × (known ≡ true → ¬ Runs s t.0 → ¬ Waits s l t.0 → ⊥)
    left row = ask_rows_left s l t.0 n row (last row)

    -- 13, or the step
    past_running : known ≡ true → ¬ Runs s t.0 → (b : Bool) → is_some f.own ≡ b
        → Good (cond b (Err Waiting) (Ok (ask_core s e)))
    past_running there idle true waits =
        refused_by Waiting
        (record {
          applies = ask_by_a_waiting t.0 n refl ((waits_says s l t 0 p.long p.is_sound.record_sound).0 waits);
          none_before = λ k before row. absurd (omega (arith, before, (left row).1 there idle));
        })
    past_running there idle false absent =
        let nobody : ¬ Waits s l t.0 =
        λ w. false≢true (sym absent ∙ (waits_says s l t 0 p.long p.is_sound.record_sound).1 w) in
        does (λ m row. (left row).2 there idle nobody)
        (ask_core_is_step s l e p.long p.is_sound p.below nobody)

    -- 12, or on
    past_name : known ≡ true → (b : Bool) → runs_in s.running t ≡ b
        → Good (cond b (Err Running) (cond (is_some f.own) (Err Waiting) (Ok (ask_core s e))))
    past_name there true runs =
        refused_by Running
        (record {
          applies = ask_by_the_running t.0 n refl ((runs_says s.running t).0 runs);
          none_before = λ k before row. absurd (omega (arith, before, (left row).0 there));
        })
    past_name there false idle =
        past_running there (λ r. false≢true (sym idle ∙ (runs_says s.running t).1 r)) (is_some f.own) refl

    -- 11, or on
    named : (b : Bool) → known ≡ b
        → Good (ask_named s f t (cond b (Some (record { 0 = number_of (names_of s.table) (key n) })) None))
    unfolding ask_known
    named false absent =
        refused_by NoOperation
        (record {
          applies = no_such_operation t.0 n refl absent;
          none_before = λ k before row. absurd (omega (arith, before, last row));
        })
    named true there = past_name there (runs_in s.running t) refl

  pub ask_served : Good (ask_value sound s (length l) f t n)
  unfolding ask_value found_in
  ask_served = by_verdict (common s l t 0 sound says (ask t.0 n) refl)
    where
      by_verdict : Common s l t 0 sound says (ask t.0 n) → Good (ask_value sound s (length l) f t n)
      by_verdict (stops r e first) = rw e (refused_by r first)
      by_verdict (goes e p) = rw e (named p known refl)

pub ask_asks : (s : Session) (l : List Entry) (t : Terminal) (n : Name) (f : Search) (v : Result Asked CallRefusal)
    → f ≡ looked 0 (looking s t) (in_use s l) → AskedBy s (length l) f t n v
    → Serves (Row s l (ask t.0 n)) s l (ask_step s l (entry_for s t n)) (outcome_of s l (ask_outcome l) v)
ask_asks s l t n f v e by = rw (by.is, e) (ask_served s l t n by.sound by.says)
