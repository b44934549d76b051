-- The built line beside the ideal line: what holds of both after the same calls.
use Rattle.std.specs.Prelude.{◌≡◌, Bool, true, List, [], ◌∷◌, ◌++◌, map, ℕ, ◌≤◌, length, Option as RustOption, Some, None}
use Rattle.std.proofs.Math.Option.{Option, some, none}
use Rattle.std.specs.Int.Bits.{bit_and}
use Rattle.meaning.specs.Names.{Name}
use Rattle.meaning.specs.Operations.{holds}
use Rattle.meaning.specs.Following.{set_after}
use Rattle.meaning.specs.Line.{Line}
use Rattle.table.specs.Cells.{names_of}
use Rattle.table.specs.Following.{permission_of, table_permits}
use Rattle.table.specs.declared.cells.Table.{Table}
use Rattle.standing.specs.declared.numbers.Terminal.{Terminal}
use Rattle.standing.specs.declared.entries.Entry.{Entry}
use Rattle.standing.specs.declared.records.Session.{Session}
use Rattle.standing.specs.Lists.{in_use}
use Rattle.standing.specs.Soundness.{Sound}
use Rattle.simulation.specs.Hearing.{entry_heard}

-- the operations that there are: the names of the table
abbrev pub known_in : Table → Name → Bool
known_in t k = holds (names_of t) k

-- the running terminal, or none where the record is free
abbrev pub runner_in : RustOption Terminal → Option ℕ
runner_in None = none
runner_in (Some u) = some u.0

-- the set of table t after the history h, all of it finished
abbrev pub set_at : Table → List Name → ℕ
set_at t h = set_after t.rows (permission_of t) t.start h

-- s is the set after the grants h: of a free line all are finished; of one that runs the last is not, and the set is what it shared
abbrev pub SetStands : Table → Option ℕ → List Name → ℕ → Type 0
SetStands t none h s = s ≡ set_at t h
SetStands t (some u) h s = (g : List Name) × (k : Name) × (h ≡ g ++ k ∷ []) × (s ≡ bit_and (set_at t g) (permission_of t k))

-- the simulation relation: record s and list l of table t, and the ideal line i
pub record Alike (t : Table) (s : Session) (l : List Entry) (i : Line) : Type 0 where
  pub its_table : s.table ≡ t
  pub is_sound : Sound s l
  pub long_list : 64 ≤ length l
  -- the grants in order are permitted, and the set is the set after them
  pub grants_permitted : table_permits t i.history ≡ true
  pub its_set : SetStands t i.running i.history s.set
  -- the same terminal runs, or none; the same entries wait, operations read by name
  pub same_runner : runner_in s.running ≡ i.running
  pub same_entries : map (entry_heard t) (in_use s l) ≡ i.waiting
