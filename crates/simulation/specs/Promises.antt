-- What is promised of calls from an opening. Each promise is a type here; proofs/ has a proof of each, under the same name in small
-- letters.
use Rattle.std.specs.Prelude.{◌≡◌, ◌↔◌, ℕ, ◌≤◌, length}
use mathlib.Core.List.{List, ◌++◌, map, Memᴰ}
use Rattle.std.proofs.Math.Option.{some}
use Rattle.meaning.specs.Waiting.{Entry as Named}
use Rattle.meaning.specs.Calls.{Call, Exchange, refusal_in}
use Rattle.meaning.specs.Line.{opening, talk, after}
use Rattle.meaning.specs.Heard.{granted_names, account}
use Rattle.meaning.specs.Demand.{Demand3}
use Rattle.meaning.specs.LinePromises.{Says, IdealSeen}
use Rattle.table.specs.Following.{table_permits}
use Rattle.table.specs.Soundness.{Sound as TableSound}
use Rattle.table.specs.declared.cells.Table.{Table}
use Rattle.standing.specs.declared.entries.Entry.{Entry}
use Rattle.standing.specs.declared.records.Session.{Session}
use Rattle.steps.specs.Promises.{Untouched, BlankBehind}
use Rattle.simulation.specs.Runs.{Made, calls_of, Run, FromOpening}
use Rattle.simulation.specs.Hearing.{heard, Seen}
use Rattle.simulation.specs.Likeness.{known_in, runner_in, SetStands, Alike}

-- a run of calls is a run of the first of them, and then of the others: so there are a record and a list after each
abbrev pub RunGoesOn : Type 0
RunGoesOn =
    (s s'' : Session) (l l'' : List Entry) (ms ns : List Made)
    → Run s l (ms ++ ns) s'' l'' ↔ ((s' : Session) × (l' : List Entry) × Run s l ms s' l' × Run s' l' ns s'' l'')

-- over a sound table, on any record and any list of at least 64 entries, any calls can be made from an opening
pub record CanBeMade (t : Table) (s : Session) (l : List Entry) (cs : List Call) : Type 0 where
  pub made : List Made
  pub session : Session
  pub list : List Entry
  pub run : FromOpening t made session list
  pub on_that_record : run.lent ≡ s
  pub on_that_list : run.list ≡ l
  pub those_calls : calls_of made ≡ cs

abbrev pub CallsCanBeMade : Type 0
CallsCanBeMade =
    (t : Table) → TableSound t → (s : Session) (l : List Entry) → 64 ≤ length l → (cs : List Call) → CanBeMade t s l cs

-- and equal calls on equal lists get equal replies, and leave an equal record and list
abbrev pub RunsDetermined : Type 0
RunsDetermined =
    (t : Table) (ms₁ ms₂ : List Made) (s₁ s₂ : Session) (l₁ l₂ : List Entry)
    → (run₁ : FromOpening t ms₁ s₁ l₁) (run₂ : FromOpening t ms₂ s₂ l₂) → run₁.list ≡ run₂.list → calls_of ms₁ ≡ calls_of ms₂
    → (ms₁ ≡ ms₂) × (s₁ ≡ s₂) × (l₁ ≡ l₂)

-- the simulation: after any calls from an opening
pub record Simulated (t : Table) (ms : List Made) (s : Session) (l : List Entry) (run : FromOpening t ms s l) : Type 0 where
  -- the replies, operations read by name, are those of the ideal line to the same calls
  pub same_replies : map (heard t) ms ≡ talk (table_permits t) (known_in t) opening (calls_of ms)
  -- record and list are sound, and the entries in use, operations read by name, are those of the ideal line
  pub alike : Alike t s l (after (table_permits t) (known_in t) opening (calls_of ms))
  -- the set is the set after the history of grants, as calls and replies show it
  pub its_set : SetStands t (runner_in s.running) (granted_names (account (map (heard t) ms))) s.set
  -- the list behind the entries in use: blank up to 64, and then as it was lent
  pub blank_behind : BlankBehind s l
  pub rest_as_lent : Untouched run.list l
  -- 8 and 9 are never given
  pub not_by_8_or_9 : (m : Made) (k : ℕ) → Memᴰ m ms → refusal_in (heard t m) ≡ some k → 10 ≤ k

abbrev pub RunSimulates : Type 0
RunSimulates = (t : Table) (ms : List Made) (s : Session) (l : List Entry) (run : FromOpening t ms s l) → Simulated t ms s l run

-- built line and ideal line cannot be told apart: what can be seen of one can be seen of the other
abbrev pub BuiltAsIdeal : Type 0
BuiltAsIdeal =
    (t : Table) → TableSound t → (xs : List Exchange) (es : List Named) → Seen t xs es ↔ IdealSeen (table_permits t) (known_in t) xs es

-- demand 3, for every sound table
abbrev pub TablesKeepDemand3 : Type 0
TablesKeepDemand3 = (t : Table) → TableSound t → Demand3 (Seen t) (Says (table_permits t)) (Says (known_in t))
