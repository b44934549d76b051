-- What the cells of the table of an expression read: behind what the rules put there, they read as nothing, which is zero. Only where
-- names are read from their bytes do the limits count.
use mathlib.Core.Path.{◌≡◌, sym, ap, ◌∙◌}
use mathlib.Core.List.{List, [], map}
use Prim.Native.Nat.{ℕ, ◌+◌, ◌*◌, ◌<◌}
use lib.ListN.{length, get_or, take, get_or-map}
use lib.Seq.{get_or-take}
use Rattle.meaning.specs.Names.{Name}
use Rattle.meaning.specs.Words.{Expr, names}
use Rattle.meaning.specs.Operations.{distinct}
use Rattle.meaning.specs.Positions.{rows}
use Rattle.meaning.proofs.Numbering.{size_names}
use Rattle.table.specs.declared.numbers.Operation.{Operation}
use Rattle.table.specs.Cells.{operation_at, row_at, length_at, byte_at, spellings, names_of}
use Rattle.table.specs.Soundness.{spelling}
use Rattle.table.specs.Rules.{bytes_of, operations_of, table_of}
use Rattle.table.specs.Promises.{Limited}
use Rattle.table.proofs.Padding.{padded_at, take_padded}
use Rattle.table.proofs.Spelled.{spelled_back, byte_spelled}
use Rattle.table.proofs.NameNumbers.{length_operations}
use Rattle.table.proofs.Limits.{distinct_short}

module _ (e : Expr) where
  pub row_cell : (p : ℕ) → row_at (table_of e) p ≡ get_or (rows e) p 0
  unfolding table_of
  row_cell p = padded_at 64 0 (rows e) p

  pub operations_in_use : take (table_of e).positions (table_of e).operations ≡ operations_of (distinct (names e)) (names e)
  unfolding table_of
  operations_in_use =
      let os = operations_of (distinct (names e)) (names e) in
      rw (size_names e, ← (length_operations (distinct (names e)) (names e))) (take_padded 64 (record { 0 = 0 }) os)

  pub operation_cell : (p : ℕ) → operation_at (table_of e) p ≡ (get_or (operations_of (distinct (names e)) (names e)) p (record { 0 = 0 })).0
  unfolding table_of
  operation_cell p = ap (λ (o : Operation). o.0) (padded_at 64 (record { 0 = 0 }) (operations_of (distinct (names e)) (names e)) p)

  pub length_cell : (i : ℕ) → length_at (table_of e) i ≡ length (get_or (distinct (names e)) i [])
  unfolding table_of
  length_cell i = padded_at 32 0 (map length (distinct (names e))) i ∙ get_or-map length (distinct (names e)) i []

module _ (e : Expr) (limits : Limited e) where
  pub byte_cell : (i k : ℕ) → k < 16 → byte_at (table_of e) (16 * i + k) ≡ get_or (get_or (distinct (names e)) i []) k 0
  unfolding table_of
  byte_cell i k l =
      padded_at 512 0 (bytes_of (distinct (names e))) (16 * i + k)
      ∙ byte_spelled (distinct (names e)) i k (distinct_short e limits) l

  pub names_of_table : names_of (table_of e) ≡ distinct (names e)
  unfolding names_of table_of
  names_of_table = spelled_back (distinct (names e)) (distinct_short e limits)

  pub spelling_cell : (i : ℕ) → i < length (distinct (names e)) → spelling (table_of e) i ≡ get_or (distinct (names e)) i []
  unfolding names_of table_of
  spelling_cell i l =
      let t = table_of e in
      sym (get_or-take (length (distinct (names e))) (spellings t.lengths t.bytes) i [] l)
      ∙ ap (λ (ns : List Name). get_or ns i []) names_of_table
