-- What each call on a line answers and leaves is determined: the contracts of the calls leave one reply, record and list.
use mathlib.Core.Path.{◌≡◌}
use mathlib.Core.List.{List}
use Prim.Native.Nat.{ℕ}
use Rattle.table.specs.declared.cells.Table.{Table}
use Rattle.standing.specs.declared.numbers.Terminal.{Terminal}
use Rattle.standing.specs.declared.entries.Entry.{Entry}
use Rattle.standing.specs.declared.records.Session.{Session}
use Rattle.steps.specs.Answers.{OpenReply, AskReply, FinishReply, WithdrawReply}
use Rattle.steps.specs.Calling.{Opens, Asks, Finishes, Withdraws}
use Rattle.steps.proofs.CallsDetermined.{open_determined, ask_determined, finish_determined, withdraw_determined}
use Rattle.text.proofs.Determined.{both_equal}
use Rattle.lines.specs.declared.held.Line.{Line}
use Rattle.lines.specs.Held.{unopened}

-- a line, put together: equal parts make equal wholes
abbrev packed : Session → List Entry → Line
packed s l = record { session = s; list = l }

parts_equal : {R : Type 0} (r r' : R) (s s' : Session) (l l' : List Entry) → (r ≡ r') × (s ≡ s') × (l ≡ l')
    → (r ≡ r') × (packed s l ≡ packed s' l')
parts_equal r r' s s' l l' e = (e.0, rw (e.1, e.2))

pub open_line_determined : (n m m' : Line) (t : Table) (r r' : OpenReply)
    → Opens n.session n.list t r m.session m.list → Opens n.session n.list t r' m'.session m'.list → (r ≡ r') × (m ≡ m')
open_line_determined n m m' t r r' o o' = parts_equal _ _ _ _ _ _ (open_determined _ _ _ _ _ _ t _ _ o o')

pub ask_line_determined : (n m m' : Line) (t : Terminal) (name : List ℕ) (r r' : AskReply)
    → Asks n.session n.list t name r m.session m.list → Asks n.session n.list t name r' m'.session m'.list → (r ≡ r') × (m ≡ m')
ask_line_determined n m m' t name r r' o o' = parts_equal _ _ _ _ _ _ (ask_determined _ _ _ _ _ _ t name _ _ o o')

pub finish_line_determined : (n m m' : Line) (t : Terminal) (r r' : FinishReply)
    → Finishes n.session n.list t r m.session m.list → Finishes n.session n.list t r' m'.session m'.list → (r ≡ r') × (m ≡ m')
finish_line_determined n m m' t r r' o o' = parts_equal _ _ _ _ _ _ (finish_determined _ _ _ _ _ _ t _ _ o o')

pub withdraw_line_determined : (n m m' : Line) (t : Terminal) (r r' : WithdrawReply)
    → Withdraws n.session n.list t r m.session m.list → Withdraws n.session n.list t r' m'.session m'.list → (r ≡ r') × (m ≡ m')
withdraw_line_determined n m m' t r r' o o' = parts_equal _ _ _ _ _ _ (withdraw_determined _ _ _ _ _ _ t _ _ o o')

pub unopened_determined : (r r' : Line) → r ≡ unopened → r' ≡ unopened → r ≡ r'
unopened_determined r r' = both_equal
