-- What each call does to the record and the list where it is not refused: the bullets of document 01, "Sessions".
use Rattle.std.specs.Prelude.{cond, ◌&&◌, List, ℕ, suc, ◌-◌, eqb, Option, Some, None, is_none}
use Rattle.std.specs.Int.Bits.{bit_and}
use Rattle.meaning.specs.Sets.{union_of}
use Rattle.table.specs.Following.{permission_set}
use Rattle.table.specs.declared.cells.Table.{Table}
use Rattle.standing.specs.declared.searches.Waiter.{Waiter}
use Rattle.standing.specs.declared.entries.Entry.{Entry}
use Rattle.standing.specs.declared.records.Session.{Session}
use Rattle.steps.specs.Answers.{Answer}
use Rattle.steps.specs.Answers.Answer.{opened, granted, delayed, finished, handed, withdrawn}
use Rattle.standing.specs.Lists.{in_use, blanked, place_of, put_at, taken_out, seek}
use Rattle.standing.specs.Soundness.{meets_set}

-- what a call leaves: its reply, the record and the list
pub record Outcome : Type 0 where
  pub answer : Answer
  pub session : Session
  pub list : List Entry

-- "free, the set is the start set, count 0"
abbrev pub opening : Table → Session
opening t = record { table = t; set = t.start; running = None; waiting = 0 }

-- "the set becomes what both share, the terminal runs"; n entries are then in use
abbrev pub granting : Session → Entry → ℕ → Session
granting s e n =
    record {
      table = s.table;
      set = bit_and s.set (permission_set s.table e.operation.0);
      running = Some e.terminal;
      waiting = n;
    }

-- n entries are in use, and nothing else changes
abbrev pub counting : Session → ℕ → Session
counting s n = record { table = s.table; set = s.set; running = s.running; waiting = n }

-- "the set becomes the union of the rows of its positions"; "the record is free", if nobody is granted then
abbrev pub freed : Session → Session
freed s = record { table = s.table; set = union_of s.table.rows s.set; running = None; waiting = s.waiting }

-- "Open: .. the first 64 entries blank"
unfoldable pub open_step : Table → List Entry → Outcome
open_step t l = record { answer = opened; session = opening t; list = blanked 64 l }

-- "Ask: if free and the set meets the operation's permission set, .. granted. Otherwise the entry goes to the end of the list,
-- reply delayed with the number of entries ahead"
unfoldable pub ask_step : Session → List Entry → Entry → Outcome
ask_step s l e =
    cond (is_none s.running && meets_set s e.operation.0)
    (record { answer = granted; session = granting s e s.waiting; list = l })
    (record {
      answer = delayed (place_of (in_use s l) e);
      session = counting s (suc s.waiting);
      list = put_at (place_of (in_use s l) e) e l;
    })

-- which entry a finish picks: "the list is examined from the front; the first entry whose operation meets the set"
unfoldable pub picked : Session → List Entry → Option Waiter
picked s l = seek (λ e. meets_set s e.operation.0) (in_use s l)

-- "the number of entries examined: the place of the granted entry plus 1, or the whole count"
abbrev pub examined_to : Session → List Entry → Option Waiter → ℕ
examined_to s l None = s.waiting
examined_to s l (Some w) = suc w.place

-- "is taken out, the set becomes what both share, and that terminal runs. If there is none, the record is free"
abbrev pub hand_on : Session → List Entry → Option Waiter → Outcome
hand_on s l None = record { answer = finished (examined_to s l None); session = s; list = l }
hand_on s l (Some w) =
    record {
      answer = handed (examined_to s l (Some w)) w.entry.terminal.0 w.entry.operation.0;
      session = granting s w.entry (s.waiting - 1);
      list = taken_out s.waiting w.place l;
    }

-- "Finish: the set becomes the union of the rows ..", and the line is handed on
unfoldable pub finish_step : Session → List Entry → Outcome
finish_step s l = hand_on (freed s) l (picked (freed s) l)

-- the entry of terminal t
unfoldable pub entry_of : Session → List Entry → ℕ → Option Waiter
entry_of s l t = seek (λ e. eqb e.terminal.0 t) (in_use s l)

-- "Withdraw: its entry is taken out; the reply has the place it had"; without an entry the call is refused before
abbrev pub take_back : Session → List Entry → Option Waiter → Outcome
take_back s l None = record { answer = withdrawn 0; session = s; list = l }
take_back s l (Some w) =
    record {
      answer = withdrawn w.place;
      session = counting s (s.waiting - 1);
      list = taken_out s.waiting w.place l;
    }

unfoldable pub withdraw_step : Session → List Entry → ℕ → Outcome
withdraw_step s l t = take_back s l (entry_of s l t)
