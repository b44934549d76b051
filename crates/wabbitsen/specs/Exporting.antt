-- The contracts of the exported functions: those of `compile` and of the calls, over the record and the reply that C sees. The
-- transcript's is `Prints`, of `transcripts`.
use Rattle.std.specs.Prelude.{◌≡◌, cond, List, ℕ, eqb, Option, Some, None}
use Rattle.meaning.specs.Names.{Name}
use Rattle.table.specs.declared.cells.Table.{Table}
use Rattle.standing.specs.declared.numbers.Terminal.{Terminal}
use Rattle.standing.specs.declared.entries.Entry.{Entry}
use Rattle.standing.specs.declared.records.Session.{Session}
use Rattle.steps.specs.Answers.{OpenReply, AskReply, FinishReply, WithdrawReply, Answer, open_answer, ask_answer, finish_answer, withdraw_answer}
use Rattle.steps.specs.Answers.Answer.{opened, granted, delayed, finished, handed, withdrawn, refused}
use Rattle.steps.specs.Calling.{Opens, Asks, Finishes, Withdraws}
use Rattle.compiler.specs.Compiling.{Reply as CompileReply}
use Rattle.compiler.specs.Compiling.{Answer as CompileAnswer, answer, Compiles}
use Rattle.compiler.specs.Compiling.Answer.{accepted, refused as refused_at}
use Rattle.wabbitsen.specs.declared.records.Record.{Record}
use Rattle.wabbitsen.specs.declared.replies.Reply.{Reply}

-- "either "free" or the running terminal": free where the cell `running` is 0
abbrev pub running_in : Record → Option Terminal
running_in b = cond (eqb b.running 0) None (Some b.terminal)

-- "The session record": the session that a record of C's stands for
abbrev pub session_in : Record → Session
session_in b = record { table = b.table; set = b.set; running = running_in b; waiting = b.waiting }

-- the two cells of who runs, in a record that was b: a cell that says nothing stays as it was, and so does one that says running already
abbrev pub terminal_cell : Record → Option Terminal → Terminal
terminal_cell b None = b.terminal
terminal_cell b (Some t) = t

abbrev pub running_cell : Record → Option Terminal → ℕ
running_cell b None = 0
running_cell b (Some t) = cond (eqb b.running 0) 1 b.running

-- "lent and updated by each call": the record, which was b, with session s in it
abbrev pub holding : Record → Session → Record
holding b s = record {
  table = s.table;
  set = s.set;
  waiting = s.waiting;
  terminal = terminal_cell b s.running;
  running = running_cell b s.running;
}

-- a reply that names nobody
abbrev pub told : (value number granted : ℕ) → Reply
told v m g = record { value = v; terminal = record { 0 = 0 }; operation = record { 0 = 0 }; number = m; granted = g }

-- the cells of a call's reply, for each case of it
abbrev pub reply_of : Answer → Reply
reply_of opened = told 0 0 0
reply_of granted = told 0 0 1
reply_of (delayed ahead) = told ahead 0 0
reply_of (finished examined) = told examined 0 0
reply_of (handed examined t o) =
    record { value = examined; terminal = record { 0 = t }; operation = record { 0 = o }; number = 0; granted = 1 }
reply_of (withdrawn place) = told place 0 0
reply_of (refused m) = told 0 m 0

-- and of a compiling: "Numbers of refusal", 1 to 7, with what is "Returned with it"
abbrev pub compile_reply_of : CompileAnswer → Reply
compile_reply_of accepted = told 0 0 0
compile_reply_of (refused_at m place) = told place m 0

-- a text was compiled: the table that C lent is the one beside the compiler's reply, and C's reply is that one's
pub record CompilesFor (text : List ℕ) (r : Reply) (table : Table) : Type 0 where
  pub reply : CompileReply
  pub compiles : Compiles text (record { reply = reply; table = table })
  pub is_reply : r ≡ compile_reply_of (answer reply)

-- a call was made on the session that a record stood for: C's reply is the call's, and C's record holds the session that it left
pub record Exported (R : Type 0) (answer : R → Answer) (Leaves : R → Session → List Entry → Type 0) (before : Record) (r : Reply)
    (after : Record) (list : List Entry) : Type 0 where
  pub reply : R
  pub session : Session
  pub leaves : Leaves reply session list
  pub is_reply : r ≡ reply_of (answer reply)
  pub is_record : after ≡ holding before session

-- the four calls: the record and list before, what is asked, and C's reply, the record and the list after
abbrev pub OpensFor : Record → List Entry → Table → Reply → Record → List Entry → Type 0
OpensFor b l t r b' l' = Exported OpenReply open_answer (Opens (session_in b) l t) b r b' l'

abbrev pub AsksFor : Record → List Entry → Terminal → Name → Reply → Record → List Entry → Type 0
AsksFor b l t n r b' l' = Exported AskReply ask_answer (Asks (session_in b) l t n) b r b' l'

abbrev pub FinishesFor : Record → List Entry → Terminal → Reply → Record → List Entry → Type 0
FinishesFor b l t r b' l' = Exported FinishReply finish_answer (Finishes (session_in b) l t) b r b' l'

abbrev pub WithdrawsFor : Record → List Entry → Terminal → Reply → Record → List Entry → Type 0
WithdrawsFor b l t r b' l' = Exported WithdrawReply withdraw_answer (Withdraws (session_in b) l t) b r b' l'
