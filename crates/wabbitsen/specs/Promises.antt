-- What is promised of records and calls beside the contracts (Exporting.antt). Each promise is a type here; proofs/ has a proof of
-- each, under the same name in small letters.
use Rattle.std.specs.Prelude.{◌≡◌, List, ◌≢◌, ℕ}
use Rattle.meaning.specs.Names.{Name}
use Rattle.table.specs.Cells.{zeros}
use Rattle.table.specs.declared.cells.Table.{Table}
use Rattle.standing.specs.declared.numbers.Terminal.{Terminal}
use Rattle.standing.specs.declared.entries.Entry.{Entry}
use Rattle.standing.specs.declared.records.Session.{Session}
use Rattle.wabbitsen.specs.declared.records.Record.{Record}
use Rattle.wabbitsen.specs.declared.replies.Reply.{Reply}
use Rattle.wabbitsen.specs.Exporting.{session_in, holding, CompilesFor, OpensFor, AsksFor, FinishesFor, WithdrawsFor}

-- the session that was put into a record is the one that it stands for
abbrev pub SessionInHolding : Type 0
SessionInHolding = (b : Record) (s : Session) → session_in (holding b s) ≡ s

-- and putting in the session that it stands for changes no cell
abbrev pub HoldingSessionIn : Type 0
HoldingSessionIn = (b : Record) → holding b (session_in b) ≡ b

-- "a refusal leaves record and list with every cell as before": where the reply has a number, neither has changed
abbrev pub AsBefore : Record → List Entry → Reply → Record → List Entry → Type 0
AsBefore b l r b' l' = r.number ≢ 0 → (b' ≡ b) × (l' ≡ l)

abbrev pub RefusedOpenChangesNothing : Type 0
RefusedOpenChangesNothing =
    (b b' : Record) (l l' : List Entry) (t : Table) (r : Reply) → OpensFor b l t r b' l' → AsBefore b l r b' l'

abbrev pub RefusedAskChangesNothing : Type 0
RefusedAskChangesNothing =
    (b b' : Record) (l l' : List Entry) (t : Terminal) (n : Name) (r : Reply) → AsksFor b l t n r b' l' → AsBefore b l r b' l'

abbrev pub RefusedFinishChangesNothing : Type 0
RefusedFinishChangesNothing =
    (b b' : Record) (l l' : List Entry) (t : Terminal) (r : Reply) → FinishesFor b l t r b' l' → AsBefore b l r b' l'

abbrev pub RefusedWithdrawChangesNothing : Type 0
RefusedWithdrawChangesNothing =
    (b b' : Record) (l l' : List Entry) (t : Terminal) (r : Reply) → WithdrawsFor b l t r b' l' → AsBefore b l r b' l'

-- "A refused compile returns the table of zeros"
abbrev pub RefusedCompileZeros : Type 0
RefusedCompileZeros = (text : List ℕ) (t : Table) (r : Reply) → CompilesFor text r t → r.number ≢ 0 → t ≡ zeros

-- exactly one outcome of each function: C's reply, and the table, or the record and the list
abbrev pub CompilesForDetermined : Type 0
CompilesForDetermined =
    (text : List ℕ) (t₁ t₂ : Table) (r₁ r₂ : Reply) → CompilesFor text r₁ t₁ → CompilesFor text r₂ t₂ → (r₁ ≡ r₂) × (t₁ ≡ t₂)

abbrev pub OpensForDetermined : Type 0
OpensForDetermined =
    (b b₁ b₂ : Record) (l l₁ l₂ : List Entry) (t : Table) (r₁ r₂ : Reply) → OpensFor b l t r₁ b₁ l₁ → OpensFor b l t r₂ b₂ l₂
    → (r₁ ≡ r₂) × (b₁ ≡ b₂) × (l₁ ≡ l₂)

abbrev pub AsksForDetermined : Type 0
AsksForDetermined =
    (b b₁ b₂ : Record) (l l₁ l₂ : List Entry) (t : Terminal) (n : Name) (r₁ r₂ : Reply) → AsksFor b l t n r₁ b₁ l₁
    → AsksFor b l t n r₂ b₂ l₂ → (r₁ ≡ r₂) × (b₁ ≡ b₂) × (l₁ ≡ l₂)

abbrev pub FinishesForDetermined : Type 0
FinishesForDetermined =
    (b b₁ b₂ : Record) (l l₁ l₂ : List Entry) (t : Terminal) (r₁ r₂ : Reply) → FinishesFor b l t r₁ b₁ l₁
    → FinishesFor b l t r₂ b₂ l₂ → (r₁ ≡ r₂) × (b₁ ≡ b₂) × (l₁ ≡ l₂)

abbrev pub WithdrawsForDetermined : Type 0
WithdrawsForDetermined =
    (b b₁ b₂ : Record) (l l₁ l₂ : List Entry) (t : Terminal) (r₁ r₂ : Reply) → WithdrawsFor b l t r₁ b₁ l₁
    → WithdrawsFor b l t r₂ b₂ l₂ → (r₁ ≡ r₂) × (b₁ ≡ b₂) × (l₁ ≡ l₂)
