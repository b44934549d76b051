-- The position rules' table of an expression.
use Rattle.std.specs.Prelude.{List, [], ◌∷◌, ◌++◌, map, ℕ, ◌-◌, length, replicate}
use Rattle.meaning.specs.Names.{Name, key}
use Rattle.meaning.specs.Words.{Expr, names}
use Rattle.meaning.specs.Operations.{distinct, number_of}
use Rattle.meaning.specs.Positions.{size, rows, start}
use Rattle.table.specs.declared.numbers.Operation.{Operation}
use Rattle.table.specs.declared.cells.Table.{Table}
use Rattle.table.specs.Marks.{mark_of}

-- "with zeros in every unused cell": n cells, of which the first are xs
unfoldable pub padded : {A : Type 0} → ℕ → A → List A → List A
padded n z xs = xs ++ replicate (n - length xs) z

-- 16 bytes for each name
unfoldable pub bytes_of : List Name → List ℕ
bytes_of [] = []
bytes_of (n ∷ ns) = padded 16 0 n ++ bytes_of ns

-- the number of each name as written among the distinct ones
unfoldable pub operations_of : List Name → List Name → List Operation
operations_of ds [] = []
operations_of ds (n ∷ ns) = record { 0 = number_of ds (key n) } ∷ operations_of ds ns

-- t, with the mark of its rule
abbrev pub marked : Table → Table
marked t =
    record {
      positions = t.positions;
      names = t.names;
      start = t.start;
      operations = t.operations;
      rows = t.rows;
      lengths = t.lengths;
      bytes = t.bytes;
      mark = mark_of t;
    }

-- "The table holds the counts, the start set, each position's operation and row, each name and its length, with zeros in every unused
-- cell, and a mark."
unfoldable pub table_of : Expr → Table
table_of e =
    marked
    (record {
      positions = size e;
      names = length (distinct (names e));
      start = start e;
      operations = padded 64 (record { 0 = 0 }) (operations_of (distinct (names e)) (names e));
      rows = padded 64 0 (rows e);
      lengths = padded 32 0 (map length (distinct (names e)));
      bytes = padded 512 0 (bytes_of (distinct (names e)));
      mark = 0;
    })
