-- What terminals call, and what they are told.
use Rattle.std.proofs.Math.Option.{Option, some, none}
use Rattle.std.specs.Prelude.{ℕ}
use Rattle.meaning.specs.Names.{Name}

-- "Ask (terminal, name)", "Finish (terminal)", "Withdraw (terminal)"
pub data Call : Type 0 where
  ask : ℕ → Name → Call
  finish : ℕ → Call
  withdraw : ℕ → Call

-- "the granted terminal and operation"
pub record Grant : Type 0 where
  pub terminal : ℕ
  pub name : Name

-- what was asked for is done, with a value, or the call is refused, with a number
pub data Reply (A : Type 0) : Type 0 where
  done : A → Reply A
  refused : ℕ → Reply A

-- "reply granted", "reply delayed with the number of entries ahead"
pub data AskReply : Type 0 where
  granted : AskReply
  delayed : ℕ → AskReply

-- "the reply has the number of entries examined", and "names the granted terminal and operation, if any"
pub record FinishReply : Type 0 where
  pub examined : ℕ
  pub grants : Option Grant

-- a call with its reply; a withdrawal's "has the place it had, from 0"
pub data Exchange : Type 0 where
  asked : ℕ → Name → Reply AskReply → Exchange
  finished : ℕ → Reply FinishReply → Exchange
  withdrew : ℕ → Reply ℕ → Exchange

-- the call that was made
abbrev pub call_in : Exchange → Call
call_in (asked t n r) = ask t n
call_in (finished t r) = finish t
call_in (withdrew t r) = withdraw t

-- the number by which a call was refused, if it was
abbrev pub refusal_of : {A : Type 0} → Reply A → Option ℕ
refusal_of (done a) = none
refusal_of (refused m) = some m

abbrev pub refusal_in : Exchange → Option ℕ
refusal_in (asked t n r) = refusal_of r
refusal_in (finished t r) = refusal_of r
refusal_in (withdrew t r) = refusal_of r
