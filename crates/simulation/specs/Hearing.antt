-- What is heard of the built line's calls and seen of its list, operations read by name.
use Rattle.std.specs.Prelude.{◌≡◌, List, map, ℕ, Ok, Err}
use Rattle.std.proofs.Math.Option.{Option, some, none}
use Rattle.meaning.specs.Waiting.{Entry as Named}
use Rattle.meaning.specs.Calls.{Call, Reply, Grant, AskReply as AskHeard, FinishReply as FinishHeard, Exchange}
use Rattle.meaning.specs.Calls.Call.{ask, finish, withdraw}
use Rattle.meaning.specs.Calls.Reply.{done, refused}
use Rattle.meaning.specs.Calls.AskReply.{granted, delayed}
use Rattle.meaning.specs.Calls.Exchange.{asked, finished, withdrew}
use Rattle.table.specs.Following.{name_in}
use Rattle.table.specs.declared.cells.Table.{Table}
use Rattle.standing.specs.declared.entries.Entry.{Entry}
use Rattle.standing.specs.declared.records.Session.{Session}
use Rattle.standing.specs.Lists.{in_use}
use Rattle.steps.specs.declared.replies.Ask.TheVariants.{Granted, Delayed}
use Rattle.steps.specs.declared.replies.Next.{Next}
use Rattle.steps.specs.declared.replies.Next.TheVariants.{Granted as Grants, Nobody}
use Rattle.steps.specs.Answers.{AskReply, FinishReply, WithdrawReply, number_of}
use Rattle.simulation.specs.Runs.{ReplyTo, Made, FromOpening}

-- an entry of the list
abbrev pub entry_heard : Table → Entry → Named
entry_heard t e = record { terminal = e.terminal.0; name = name_in t e.operation.0 }

-- the replies
abbrev pub ask_heard : AskReply → Reply AskHeard
ask_heard (Ok Granted) = done granted
ask_heard (Ok (Delayed n)) = done (delayed n)
ask_heard (Err r) = refused (number_of r)

abbrev pub next_heard : Table → Next → Option Grant
next_heard t (Grants g) = some (record { terminal = g.terminal.0; name = name_in t g.operation.0 })
next_heard t Nobody = none

abbrev pub finish_heard : Table → FinishReply → Reply FinishHeard
finish_heard t (Ok f) = done (record { examined = f.examined; grants = next_heard t f.next })
finish_heard t (Err r) = refused (number_of r)

abbrev pub withdraw_heard : WithdrawReply → Reply ℕ
withdraw_heard (Ok p) = done p
withdraw_heard (Err r) = refused (number_of r)

-- a call with its reply
abbrev pub exchanged : Table → (c : Call) → ReplyTo c → Exchange
exchanged t (ask u n) r = asked u n (ask_heard r)
exchanged t (finish u) r = finished u (finish_heard t r)
exchanged t (withdraw u) r = withdrew u (withdraw_heard r)

abbrev pub heard : Table → Made → Exchange
heard t m = exchanged t m.call m.reply

-- what can be seen of a line over table t: calls from an opening get these replies, and leave these entries in use
pub record Seen (t : Table) (xs : List Exchange) (es : List Named) : Type 0 where
  pub made : List Made
  pub session : Session
  pub list : List Entry
  pub run : FromOpening t made session list
  pub replies : map (heard t) made ≡ xs
  pub entries : map (entry_heard t) (in_use session list) ≡ es
