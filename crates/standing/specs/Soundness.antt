-- "A record and list are sound if .."
use Rattle.std.specs.Prelude.{◌≡◌, Bool, false, List, ◌≢◌, ℕ, ◌≤◌, ◌<◌, get_or, Some, None}
use Rattle.meaning.specs.Sets.{In, meeting}
use Rattle.table.specs.Cells.{operation_at}
use Rattle.table.specs.Following.{permission_set}
use Rattle.table.specs.Soundness.{Fit, Sound as TableSound}
use Rattle.standing.specs.declared.numbers.Terminal.{Terminal}
use Rattle.standing.specs.declared.entries.Entry.{Entry}
use Rattle.standing.specs.declared.records.Session.{Session}
use Rattle.standing.specs.Lists.{blank_entry}

-- the entry at place i, and its numbers
abbrev pub entry_in : List Entry → ℕ → Entry
entry_in l i = get_or l i blank_entry

abbrev pub terminal_in : List Entry → ℕ → ℕ
terminal_in l i = (entry_in l i).terminal.0

abbrev pub operation_in : List Entry → ℕ → ℕ
operation_in l i = (entry_in l i).operation.0

-- an operation "meets the set": it shares a position with its permission set
abbrev pub meets_set : Session → ℕ → Bool
meets_set s o = meeting s.set (permission_set s.table o)

-- the clauses on the record alone
pub record RecordSound (s : Session) : Type 0 where
  -- "if the table is"
  pub table_sound : TableSound s.table
  -- "the set is not empty and within the positions"
  pub set_fits : Fit s.table s.set
  -- "while running, the terminal is below 64 and the set holds one operation's positions only"
  pub running_below : (t : Terminal) → s.running ≡ Some t → t.0 < 64
  pub running_one : (t : Terminal) → s.running ≡ Some t
      → (o : ℕ) × ((p : ℕ) → In p s.set → operation_at s.table p ≡ o)
  -- "the count is at most 64"
  pub count_most : s.waiting ≤ 64

-- and those on the list, as far as it is in use
pub record Sound (s : Session) (l : List Entry) : Type 0 where
  pub record_sound : RecordSound s
  -- "listed terminals are below 64, all different, none the running one"
  pub terminals_below : (i : ℕ) → i < s.waiting → terminal_in l i < 64
  pub terminals_differ : (i j : ℕ) → i < s.waiting → j < s.waiting → terminal_in l i ≡ terminal_in l j → i ≡ j
  pub none_runs : (t : Terminal) → s.running ≡ Some t → (i : ℕ) → i < s.waiting → terminal_in l i ≢ t.0
  -- "listed operations exist"
  pub operations_exist : (i : ℕ) → i < s.waiting → operation_in l i < s.table.names
  -- "and, while free, no listed operation meets the set"
  pub nobody_permitted : s.running ≡ None → (i : ℕ) → i < s.waiting → meets_set s (operation_in l i) ≡ false
