-- The contracts of the calls: reply, record and list after each, for every record and list that can be lent.
use Rattle.std.specs.Prelude.{◌≡◌, List, ℕ}
use Rattle.meaning.specs.Names.{Name, key}
use Rattle.meaning.specs.Operations.{number_of}
use Rattle.meaning.specs.Calls.Call.{ask, finish, withdraw}
use Rattle.table.specs.Cells.{names_of}
use Rattle.table.specs.declared.cells.Table.{Table}
use Rattle.standing.specs.declared.numbers.Terminal.{Terminal}
use Rattle.standing.specs.declared.entries.Entry.{Entry}
use Rattle.standing.specs.declared.records.Session.{Session}
use Rattle.steps.specs.Answers.{OpenReply, AskReply, FinishReply, WithdrawReply}
use Rattle.steps.specs.Answers.{open_answer, ask_answer, finish_answer, withdraw_answer}
use Rattle.steps.specs.Answers.Answer.{refused}
use Rattle.steps.specs.Refusals.{Row, OpenRow, First, NoRow}
use Rattle.steps.specs.Steps.{Outcome, open_step, ask_step, finish_step, withdraw_step}

-- "a refusal leaves record and list with every cell as before"
abbrev pub refusing : Session → List Entry → ℕ → Outcome
refusing s l m = record { answer = refused m; session = s; list = l }

-- a call on record s and list l has outcome o: it is refused by the first row of R that applies, or none applies and it does its step
pub data Serves (R : ℕ → Type 0) (s : Session) (l : List Entry) (step : Outcome) (o : Outcome) : Type 0 where
  refuses : (m : ℕ) → First R m → o ≡ refusing s l m → Serves R s l step o
  does : NoRow R → o ≡ step → Serves R s l step o

-- the entry of an ask by terminal t for the operation of name n
abbrev pub entry_for : Session → Terminal → Name → Entry
entry_for s t n = record { terminal = t; operation = record { 0 = number_of (names_of s.table) (key n) } }

abbrev pub Opens : Session → List Entry → Table → OpenReply → Session → List Entry → Type 0
Opens s l t r s' l' =
    Serves (OpenRow t l) s l (open_step t l) (record { answer = open_answer r; session = s'; list = l' })

abbrev pub Asks : Session → List Entry → Terminal → Name → AskReply → Session → List Entry → Type 0
Asks s l t n r s' l' =
    Serves (Row s l (ask t.0 n)) s l (ask_step s l (entry_for s t n)) (record { answer = ask_answer r; session = s'; list = l' })

abbrev pub Finishes : Session → List Entry → Terminal → FinishReply → Session → List Entry → Type 0
Finishes s l t r s' l' =
    Serves (Row s l (finish t.0)) s l (finish_step s l) (record { answer = finish_answer r; session = s'; list = l' })

abbrev pub Withdraws : Session → List Entry → Terminal → WithdrawReply → Session → List Entry → Type 0
Withdraws s l t r s' l' =
    Serves (Row s l (withdraw t.0)) s l (withdraw_step s l t.0) (record { answer = withdraw_answer r; session = s'; list = l' })
