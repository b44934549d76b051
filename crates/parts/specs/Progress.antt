-- What the parts of an expression come to, as the readers tell each other. Nothing here needs to be believed: it serves the private
-- contracts of the compiler's readers.
use mathlib.Core.List.{List, ◌++◌, map, Memᴰ}
use Rattle.std.specs.Prelude.{ℕ, zero, suc, ◌+◌, ◌≤◌, length}
use Rattle.meaning.specs.Names.{Name}
use Rattle.meaning.specs.Words.{Expr, names}
use Rattle.meaning.specs.Words.Expr.{name, seq, choice, star}
use Rattle.meaning.specs.Operations.{distinct}
use Rattle.meaning.specs.Positions.{size, can_be_empty, first, last}
use Rattle.table.specs.declared.cells.Table.{Table}
use Rattle.table.specs.Linking.{linked}
use Rattle.table.specs.Rules.{padded, bytes_of, operations_of}
use Rattle.parts.specs.declared.joining.Part.{Part}

-- the table so far: the names ns were read, and rs are the rows
unfoldable pub noted : List Name → List ℕ → Table
noted ns rs =
    record {
      positions = length ns;
      names = length (distinct ns);
      start = 0;
      operations = padded 64 (record { 0 = 0 }) (operations_of (distinct ns) ns);
      rows = rs;
      lengths = padded 32 0 (map length (distinct ns));
      bytes = padded 512 0 (bytes_of (distinct ns));
      mark = 0;
    }

-- the names fit a table
pub record Fine (ns : List Name) : Type 0 where
  pub positions : length ns ≤ 64
  pub names_few : length (distinct ns) ≤ 32
  pub short : (n : Name) → Memᴰ n ns → length n ≤ 16

-- the rows, after an expression that stands behind lo positions was read
unfoldable pub rows_after : Expr → ℕ → List ℕ → List ℕ
rows_after (name n) lo rs = rs
rows_after (seq a b) lo rs = linked (rows_after b (lo + size a) (rows_after a lo rs)) (last a lo) (first b (lo + size a))
rows_after (choice a b) lo rs = rows_after b (lo + size a) (rows_after a lo rs)
rows_after (star a) lo rs = linked (rows_after a lo rs) (last a lo) (first a lo)

-- the part of an expression, read behind the names ns with the rows rs
unfoldable pub part_of : Expr → List Name → List ℕ → Part
part_of e ns rs =
    record {
      empty = can_be_empty e;
      first = first e (length ns);
      last = last e (length ns);
      table = noted (ns ++ names e) (rows_after e (length ns) rs);
    }

-- e starred n times
unfoldable pub star_times : ℕ → Expr → Expr
star_times zero e = e
star_times (suc n) e = star (star_times n e)
