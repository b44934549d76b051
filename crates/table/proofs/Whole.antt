-- The lengths of a table's arrays: what a function is told of a table that it is handed says how many cells of each kind there are.
use mathlib.Core.Path.{◌≡◌}
use mathlib.Core.List.{List}
use mir.Val.{Val}
use denote.Laws.{Is}
use denote.Struct.Declared.{row}
use lib.ListN.{length}
use Rattle.table.specs.declared.cells.Table.{Table}
use Rattle.table.specs.contracts.cells.Table.{the_type}

pub record Whole (t : Table) : Type 0 where
  pub operations : length t.operations ≡ 64
  pub rows : length t.rows ≡ 64
  pub lengths : length t.lengths ≡ 32
  pub bytes : length t.bytes ≡ 512

pub told_whole : (t : Table) (vs : List Val) → Is (row the_type) t vs → Whole t
told_whole t vs is =
    let cells = is.1.1.1.1.1 in
    record {
      operations = cells.0.1.0.1;
      rows = cells.1.0.1.0.1;
      lengths = cells.1.1.0.1.0.1;
      bytes = cells.1.1.1.0.1.0.1;
    }
