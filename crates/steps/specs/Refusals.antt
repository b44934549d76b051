-- "Numbers of refusal", 8 to 15: when each is given.
use Rattle.std.specs.Prelude.{◌≡◌, false, List, ℕ, ◌<◌, length, Some}
use Rattle.meaning.specs.Names.{Name, key}
use Rattle.meaning.specs.Operations.{holds}
use Rattle.meaning.specs.Calls.{Call}
use Rattle.meaning.specs.Calls.Call.{ask, finish, withdraw}
use Rattle.table.specs.Cells.{names_of}
use Rattle.table.specs.Soundness.{Sound as TableSound}
use Rattle.table.specs.declared.cells.Table.{Table}
use Rattle.standing.specs.declared.entries.Entry.{Entry}
use Rattle.standing.specs.declared.records.Session.{Session}
use Rattle.standing.specs.Soundness.{Sound, terminal_in}

-- whose call it is
abbrev pub terminal_of : Call → ℕ
terminal_of (ask t n) = t
terminal_of (finish t) = t
terminal_of (withdraw t) = t

-- "the running terminal" is t
abbrev pub Runs : Session → ℕ → Type 0
Runs s t = s.running ≡ Some (record { 0 = t })

-- t is "a waiting terminal": it stands among the entries in use
abbrev pub Waits : Session → List Entry → ℕ → Type 0
Waits s l t = (i : ℕ) × (i < s.waiting) × (terminal_in l i ≡ t)

-- the rows of the table, for a call on a record and a list: number m can be given
pub data Row (s : Session) (l : List Entry) (c : Call) : ℕ → Type 0 where
  short_list : length l < 64 → Row s l c 8
  unsound : ¬ Sound s l → Row s l c 9
  terminal_above_63 : 63 < terminal_of c → Row s l c 10
  no_such_operation : (t : ℕ) (n : Name) → c ≡ ask t n → holds (names_of s.table) (key n) ≡ false → Row s l c 11
  ask_by_the_running : (t : ℕ) (n : Name) → c ≡ ask t n → Runs s t → Row s l c 12
  ask_by_a_waiting : (t : ℕ) (n : Name) → c ≡ ask t n → Waits s l t → Row s l c 13
  finish_by_another : (t : ℕ) → c ≡ finish t → ¬ Runs s t → Row s l c 14
  withdraw_by_another : (t : ℕ) → c ≡ withdraw t → ¬ Waits s l t → Row s l c 15

-- the same for an opening
pub data OpenRow (t : Table) (l : List Entry) : ℕ → Type 0 where
  short_list : length l < 64 → OpenRow t l 8
  unsound_table : ¬ TableSound t → OpenRow t l 9

-- "Session calls test in number order": m is given where its row applies and no row before it
pub record First (R : ℕ → Type 0) (m : ℕ) : Type 0 where
  pub applies : R m
  pub none_before : (k : ℕ) → k < m → ¬ R k

-- no row applies
abbrev pub NoRow : (ℕ → Type 0) → Type 0
NoRow R = (m : ℕ) → ¬ R m
