-- The laws of a record and the session in it, by cases of who runs and of the cell `running`.
use mathlib.Core.Path.{◌≡◌, refl}
use mathlib.Core.Bool.{cond}
use Prim.Native.Nat.{ℕ, zero, suc}
use lib.Dec.{eqb, eqb-suc-zero}
use Rattle.table.specs.declared.cells.Table.{Table}
use Rattle.std.specs.Prelude.{Option, Some, None}
use Rattle.standing.specs.declared.numbers.Terminal.{Terminal}
use Rattle.wabbitsen.specs.declared.records.Record.{Record}
use Rattle.wabbitsen.specs.Exporting.{session_in, holding, terminal_cell, running_cell}
use Rattle.wabbitsen.specs.Promises.{SessionInHolding, HoldingSessionIn}

-- a cell that says running is not 0, whatever it was
marked : (t : Terminal) (r : ℕ) → cond (eqb (cond (eqb r 0) 1 r) 0) None (Some t) ≡ Some t
marked t zero = refl
marked t (suc r) = simp (eqb-suc-zero r)

running_in_cells : (b : Record) (x : Option Terminal) → cond (eqb (running_cell b x) 0) None (Some (terminal_cell b x)) ≡ x
running_in_cells b None = refl
running_in_cells b (Some t) = marked t b.running

pub session_in_holding : SessionInHolding
session_in_holding b s = λ i. record { table = s.table; set = s.set; running = running_in_cells b s.running i; waiting = s.waiting }

cells_stay : (t : Table) (set waiting : ℕ) (x : Terminal) (r : ℕ)
    → let b : Record = record { table = t; set = set; waiting = waiting; terminal = x; running = r } in
    holding b (session_in b) ≡ b
cells_stay t set waiting x zero = refl
cells_stay t set waiting x (suc r) = simp (eqb-suc-zero r)

pub holding_session_in : HoldingSessionIn
holding_session_in b = cells_stay b.table b.set b.waiting b.terminal b.running
