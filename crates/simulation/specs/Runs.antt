-- Calls of the built line one after the other, as the contracts of `open`, `ask`, `finish` and `withdraw` give them.
use Rattle.std.specs.Prelude.{◌≡◌, List, [], ◌∷◌, map, Ok}
use Rattle.meaning.specs.Calls.{Call}
use Rattle.meaning.specs.Calls.Call.{ask, finish, withdraw}
use Rattle.table.specs.declared.cells.Table.{Table}
use Rattle.standing.specs.declared.entries.Entry.{Entry}
use Rattle.standing.specs.declared.records.Session.{Session}
use Rattle.steps.specs.Answers.{AskReply, FinishReply, WithdrawReply}
use Rattle.steps.specs.Calling.{Opens, Asks, Finishes, Withdraws}

-- what the function of a call returns
abbrev pub ReplyTo : Call → Type 0
ReplyTo (ask u n) = AskReply
ReplyTo (finish u) = FinishReply
ReplyTo (withdraw u) = WithdrawReply

-- and its contract: the record and list before the call, the reply, and the record and list after it
abbrev pub Leaves : Session → List Entry → (c : Call) → ReplyTo c → Session → List Entry → Type 0
Leaves s l (ask u n) r s' l' = Asks s l (record { 0 = u }) n r s' l'
Leaves s l (finish u) r s' l' = Finishes s l (record { 0 = u }) r s' l'
Leaves s l (withdraw u) r s' l' = Withdraws s l (record { 0 = u }) r s' l'

-- a call that was made, with the reply that it got
pub record Made : Type 0 where
  pub call : Call
  pub reply : ReplyTo call

abbrev pub calls_of : List Made → List Call
calls_of ms = map (λ m. m.call) ms

-- "The session record is lent and updated by each call": each call is made on the record and list that the one before it left
unfoldable pub Run : Session → List Entry → List Made → Session → List Entry → Type 0
Run s l [] s' l' = (s' ≡ s) × (l' ≡ l)
Run s l (m ∷ ms) s' l' = (s₁ : Session) × (l₁ : List Entry) × Leaves s l m.call m.reply s₁ l₁ × Run s₁ l₁ ms s' l'

-- from an opening over table t that was not refused, whatever record and list were lent
pub record FromOpening (t : Table) (ms : List Made) (s' : Session) (l' : List Entry) : Type 0 where
  pub lent : Session
  pub list : List Entry
  -- the record and list that the opening left
  pub opened : Session
  pub blanked : List Entry
  pub opens : Opens lent list t (Ok tt) opened blanked
  pub runs : Run opened blanked ms s' l'
