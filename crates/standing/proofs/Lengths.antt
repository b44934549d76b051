-- How many operations the table of a record has: what a function is told of a record that it is handed says so.
use mathlib.Core.Path.{◌≡◌}
use mathlib.Core.List.{List}
use mir.Val.{Val}
use denote.Laws.{Is}
use denote.Struct.Declared.{row}
use lib.ListN.{length}
use Rattle.table.proofs.Whole.{told_whole}
use Rattle.standing.specs.declared.records.Session.{Session}
use Rattle.standing.specs.contracts.records.Session.{the_type}

pub operations_length : (s : Session) (vs : List Val) → Is (row the_type) s vs → length s.table.operations ≡ 64
operations_length s vs is = (told_whole s.table _ is.1.1.0).operations
