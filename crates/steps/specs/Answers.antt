-- Document 01's number and values for each case of the replies.
use Rattle.std.specs.Prelude.{ℕ, Result, Ok, Err}
use Rattle.steps.specs.declared.replies.CallRefusal.{CallRefusal}
use Rattle.steps.specs.declared.replies.CallRefusal.TheVariants.{ShortList, Unsound, NoTerminal, NoOperation}
use Rattle.steps.specs.declared.replies.CallRefusal.TheVariants.{Running, Waiting, NotRunning, NotWaiting}
use Rattle.steps.specs.declared.replies.Ask.{Ask}
use Rattle.steps.specs.declared.replies.Ask.TheVariants.{Granted, Delayed}
use Rattle.steps.specs.declared.replies.Next.{Next}
use Rattle.steps.specs.declared.replies.Next.TheVariants.{Granted as Grants, Nobody}
use Rattle.steps.specs.declared.replies.Finished.{Finished}

-- what each call replies: what is said of it where it is served, or the refusal ("Numbers of refusal", 8 to 15)
abbrev pub OpenReply : Type 0
OpenReply = Result (Unit {0}) CallRefusal

abbrev pub AskReply : Type 0
AskReply = Result Ask CallRefusal

abbrev pub FinishReply : Type 0
FinishReply = Result Finished CallRefusal

abbrev pub WithdrawReply : Type 0
WithdrawReply = Result ℕ CallRefusal

pub data Answer : Type 0 where
  opened : Answer
  -- "reply granted", "reply delayed with the number of entries ahead"
  granted : Answer
  delayed : (ahead : ℕ) → Answer
  -- "the reply has the number of entries examined", and "names the granted terminal and operation, if any"
  finished : (examined : ℕ) → Answer
  handed : (examined terminal operation : ℕ) → Answer
  -- "the reply has the place it had, from 0"
  withdrawn : (place : ℕ) → Answer
  -- "Numbers of refusal", 8 to 15
  refused : (number : ℕ) → Answer

-- "Numbers of refusal", 8 to 15: the number of each
abbrev pub number_of : CallRefusal → ℕ
number_of ShortList = 8
number_of Unsound = 9
number_of NoTerminal = 10
number_of NoOperation = 11
number_of Running = 12
number_of Waiting = 13
number_of NotRunning = 14
number_of NotWaiting = 15

-- the cases of each call's reply
abbrev pub open_answer : OpenReply → Answer
open_answer (Ok u) = opened
open_answer (Err r) = refused (number_of r)

abbrev pub ask_answer : AskReply → Answer
ask_answer (Ok Granted) = granted
ask_answer (Ok (Delayed n)) = delayed n
ask_answer (Err r) = refused (number_of r)

abbrev pub next_answer : ℕ → Next → Answer
next_answer n (Grants g) = handed n g.terminal.0 g.operation.0
next_answer n Nobody = finished n

abbrev pub finish_answer : FinishReply → Answer
finish_answer (Ok f) = next_answer f.examined f.next
finish_answer (Err r) = refused (number_of r)

abbrev pub withdraw_answer : WithdrawReply → Answer
withdraw_answer (Ok p) = withdrawn p
withdraw_answer (Err r) = refused (number_of r)
