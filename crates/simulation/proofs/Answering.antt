-- A call of lines that are alike: what it means that it is answered alike, and that this is so where it is refused. The tests of a call
-- come out the same for both lines: who runs, who waits and which names there are is the same. So a refusal of the ideal line is the
-- first row that applies to the built one, and where the ideal line refuses nothing no row applies.
use mathlib.Core.Path.{◌≡◌, refl, sym, subst, ◌∙◌}
use mathlib.Core.Bool.{true, false, false≢true}
use mathlib.Core.List.{List}
use mathlib.Core.Logic.{◌↔◌}
use mathlib.Core.Option.{Option, some, none}
use Prim.Native.Nat.{ℕ, ◌<◌, ◌≤◌}
use native.Mathlib.Omega.{arith}
use lib.Dec.{eqb}
use Rattle.meaning.specs.Names.{key}
use Rattle.meaning.specs.Waiting.{entry_of}
use Rattle.meaning.specs.Calls.{Call}
use Rattle.meaning.specs.Calls.Call.{ask, finish, withdraw}
use Rattle.meaning.specs.Line.{Line, runs, waits, refusal, step}
use Rattle.meaning.proofs.RefusalCases.{Cases, refusal_cases}
use Rattle.table.specs.Following.{table_permits}
use Rattle.table.specs.declared.cells.Table.{Table}
use Rattle.standing.specs.declared.numbers.Terminal.{Terminal}
use Rattle.standing.specs.declared.searches.Waiter.{Waiter}
use Rattle.standing.specs.declared.entries.Entry.{Entry}
use Rattle.standing.specs.declared.records.Session.{Session}
use Rattle.standing.specs.Lists.{in_use, seek}
use Rattle.std.specs.Prelude.{Err, Option as RustOption, Some, None, is_some}
use Rattle.steps.specs.Calling.Serves.{refuses}
use Rattle.steps.specs.Refusals.{Row, First, NoRow, terminal_of, Runs, Waits}
use Rattle.steps.specs.Refusals.Row.{terminal_above_63, no_such_operation, ask_by_the_running, ask_by_a_waiting}
use Rattle.steps.specs.Refusals.Row.{finish_by_another, withdraw_by_another}
use Rattle.steps.specs.Values.{runs_in}
use Rattle.steps.proofs.RefusalNumbers.{refusal_by, row_has_refusal}
use Rattle.steps.proofs.RowNumbers.{rows_left, ask_rows_left, finish_rows_left, withdraw_rows_left}
use Rattle.steps.proofs.Verdicts.{runs_says, entry_waits}
use Rattle.simulation.specs.Runs.{ReplyTo, Leaves}
use Rattle.simulation.specs.Hearing.{entry_heard, exchanged}
use Rattle.simulation.specs.Likeness.{known_in, runner_in, Alike}
use Rattle.simulation.proofs.EntriesHeard.{found_heard, seek_heard}

-- call c of record s and list l can be answered as by the ideal line i, and then leaves lines that are alike
pub record Answered (t : Table) (s : Session) (l : List Entry) (i : Line) (c : Call) : Type 0 where
  pub reply : ReplyTo c
  pub session : Session
  pub list : List Entry
  pub leaves : Leaves s l c reply session list
  pub same_reply : exchanged t c reply ≡ (step (table_permits t) (known_in t) i c).0
  pub still_alike : Alike t session list (step (table_permits t) (known_in t) i c).1

runs_same : (st : RustOption Terminal) (u : ℕ) → runs (runner_in st) u ≡ runs_in st (record { 0 = u })
runs_same None u = refl
runs_same (Some v) u = refl

waits_same : (t : Table) (f : RustOption Waiter) → waits (found_heard (entry_heard t) f) ≡ is_some f
waits_same t None = refl
waits_same t (Some w) = refl

module _ (s : Session) (l : List Entry) (i : Line) (a : Alike s.table s l i) where
  abbrev t : Table
  t = s.table

  runs_alike : (u : ℕ) → (runs i.running u ≡ true) ↔ Runs s u
  runs_alike u = rw (← a.same_runner, runs_same s.running u) (runs_says s.running (record { 0 = u }))

  -- the terminal's entry is found at the same place
  pub entry_alike : (u : ℕ) → entry_of u i.waiting ≡ found_heard (entry_heard t) (seek (λ e. eqb e.terminal.0 u) (in_use s l))
  entry_alike u =
      rw (← a.same_entries)
      (seek_heard (entry_heard t) (λ e. eqb e.terminal.0 u) (λ e. eqb e.terminal u) (in_use s l) (λ j h. refl))

  waits_alike : (u : ℕ) → (waits (entry_of u i.waiting) ≡ true) ↔ Waits s l u
  waits_alike u = rw (entry_alike u, waits_same) (entry_waits s l u a.long_list a.is_sound.record_sound)

  -- what the step of a call needs
  abbrev Needs : Call → Type 0
  Needs (ask u n) = known_in t (key n) ≡ true
  Needs (finish u) = runs i.running u ≡ true
  Needs (withdraw u) = Unit

  -- what the tests of a call came to: the row that applies first; or none does, and what the step needs holds
  abbrev pub Verdict : Call → Option ℕ → Type 0
  Verdict c none = NoRow (Row s l c) × Needs c
  Verdict c (some m) = First (Row s l c) m

  past_all : {c : Call} {k : ℕ} → terminal_of c ≤ 63 → Row s l c k → 11 ≤ k
  past_all below row = (rows_left s l row).3 a.long_list a.is_sound (omega arith)

  -- a row that applies and of which no row before it does
  first_row : {c : Call} {m : ℕ} → Row s l c m → ((k : ℕ) → Row s l c k → m ≤ k) → First (Row s l c) m
  first_row row least = record { applies = row; none_before = λ k before other. absurd (omega (arith, before, least k other)) }

  idle_says : {u : ℕ} → runs i.running u ≡ false → ¬ Runs s u
  idle_says {u} r runs-now = false≢true (sym r ∙ (runs_alike u).1 runs-now)

  absent_says : {u : ℕ} → waits (entry_of u i.waiting) ≡ false → ¬ Waits s l u
  absent_says {u} q waits-now = false≢true (sym q ∙ (waits_alike u).1 waits-now)

  above_63 : {c : Call} → 63 < terminal_of c → First (Row s l c) 10
  above_63 high = first_row (terminal_above_63 high) (λ k row. (rows_left s l row).2 a.long_list a.is_sound)

  tests : Cases (known_in t) i Verdict
  tests =
      record {
        asks_above = λ u n high. above_63 high;
        asks_unknown = λ u n low new. first_row (no_such_operation u n refl new) (λ k row. past_all low row);
        asks_running = λ u n low known own.
            first_row (ask_by_the_running u n refl ((runs_alike u).0 own))
            (λ k row. (ask_rows_left s l u n row (past_all low row)).0 known);
        asks_waiting = λ u n low known idle listed.
            first_row (ask_by_a_waiting u n refl ((waits_alike u).0 listed))
            (λ k row. (ask_rows_left s l u n row (past_all low row)).1 known (idle_says idle));
        asks_on = λ u n low known idle absent.
            (λ m row. (ask_rows_left s l u n row (past_all low row)).2 known (idle_says idle) (absent_says absent), known);
        finishes_above = λ u high. above_63 high;
        finishes_idle = λ u low idle.
            first_row (finish_by_another u refl (idle_says idle)) (λ k row. (finish_rows_left s l u row (past_all low row)).0);
        finishes_on = λ u low own. (λ m row. (finish_rows_left s l u row (past_all low row)).1 ((runs_alike u).0 own), own);
        withdraws_above = λ u high. above_63 high;
        withdraws_absent = λ u low absent.
            first_row (withdraw_by_another u refl (absent_says absent)) (λ k row. (withdraw_rows_left s l u row (past_all low row)).0);
        withdraws_on = λ u low listed. (λ m row. (withdraw_rows_left s l u row (past_all low row)).1 ((waits_alike u).0 listed), tt);
      }

  pub tested_alike : (c : Call) → Verdict c (refusal (table_permits t) (known_in t) i c)
  tested_alike = refusal_cases (table_permits t) (known_in t) i Verdict tests

  -- 8 and 9 are not among the rows that apply
  pub refused_from_ten : (c : Call) (m : ℕ) → refusal (table_permits t) (known_in t) i c ≡ some m → 10 ≤ m
  refused_from_ten c m e =
      let first = subst (Verdict c) e (tested_alike c) in
      (rows_left s l first.applies).2 a.long_list a.is_sound

  -- a refused call
  pub refused_alike : (c : Call) (m : ℕ) → refusal (table_permits t) (known_in t) i c ≡ some m → First (Row s l c) m → Answered t s l i c
  unfolding step
  refused_alike (ask u n) m e first =
      record {
        reply = Err (refusal_by m);
        session = s;
        list = l;
        leaves = refuses m first (rw (row_has_refusal first.applies));
        same_reply = rw (e, row_has_refusal first.applies);
        still_alike = rw e a;
      }
  refused_alike (finish u) m e first =
      record {
        reply = Err (refusal_by m);
        session = s;
        list = l;
        leaves = refuses m first (rw (row_has_refusal first.applies));
        same_reply = rw (e, row_has_refusal first.applies);
        still_alike = rw e a;
      }
  refused_alike (withdraw u) m e first =
      record {
        reply = Err (refusal_by m);
        session = s;
        list = l;
        leaves = refuses m first (rw (row_has_refusal first.applies));
        same_reply = rw (e, row_has_refusal first.applies);
        still_alike = rw e a;
      }
