-- The contract of `compile`.
use Rattle.std.specs.Prelude.{◌≡◌, true, List, ◌↔◌, ℕ, Result, Ok, Err}
use Rattle.meaning.specs.Names.{Name}
use Rattle.meaning.specs.Words.{Expr, Begins}
use Rattle.grammar.specs.Refusals.{Accepted, Refused}
use Rattle.table.specs.Cells.{zeros}
use Rattle.table.specs.Following.{table_permits}
use Rattle.table.specs.Soundness.{Sound}
use Rattle.table.specs.Rules.{table_of}
use Rattle.table.specs.declared.cells.Table.{Table}
use Rattle.text.specs.Faults.{number_of}
use Rattle.compiler.specs.declared.replies.Refusal.{Refusal}
use Rattle.compiler.specs.declared.replies.Compiled.{Compiled}

-- document 01's number and values for each case of the reply
pub data Answer : Type 0 where
  accepted : Answer
  refused : (number place : ℕ) → Answer

abbrev pub Reply : Type 0
Reply = Result (Unit {0}) Refusal

abbrev pub answer : Reply → Answer
answer (Ok u) = accepted
answer (Err r) = refused (number_of r.fault) r.place

-- what is promised of the table of an accepted text, whose expression is e
pub record TableOfText (e : Expr) (t : Table) : Type 0 where
  -- it is the table of document 01's position rules
  pub by_the_rules : t ≡ table_of e
  -- "A table is sound if .."
  pub is_sound : Sound t
  -- demand 2: it permits a history, of the names' keys, exactly if the history begins some repetition of the path
  pub permits_exactly : (h : List Name) → (table_permits t h ≡ true) ↔ Begins e h

-- what `compile` promises of every text, refused ones too: the reply, and the table beside it
pub record Compiles (text : List ℕ) (r : Compiled) : Type 0 where
  -- a text is accepted exactly if it fits the grammar and the limits
  pub accepts : (answer r.reply ≡ accepted) ↔ ((e : Expr) × Accepted text e)
  -- and refused exactly by the number and with the place of the table of refusals
  pub refuses : (n k : ℕ) → (answer r.reply ≡ refused n k) ↔ Refused text n k
  -- an accepted text has the table of its expression
  pub its_table : (e : Expr) → Accepted text e → TableOfText e r.table
  -- "A refused compile returns the table of zeros"
  pub no_table : (n k : ℕ) → Refused text n k → r.table ≡ zeros
