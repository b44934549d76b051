-- The completed part of a whole expression is the rules' table of it: its counts, names and operations are those of the names read, its
-- rows are those of the rules, and a mark looks at counts and operations only.
use mathlib.Core.Path.{◌≡◌}
use mathlib.Core.List.{[]}
use Prim.Native.Nat.{◌≤◌}
use lib.ListN.{replicate}
use Rattle.meaning.specs.Words.{Expr}
use Rattle.meaning.specs.Positions.{size, start}
use Rattle.meaning.proofs.Numbering.{size_names}
use Rattle.table.specs.Marks.{mark_of}
use Rattle.table.specs.Rules.{table_of}
use Rattle.parts.specs.Parts.{completed}
use Rattle.parts.specs.Progress.{noted, part_of}
use Rattle.parts.proofs.RowsAfter.{rows_completed}

pub completed_part : (e : Expr) → size e ≤ 64 → completed (part_of e [] (replicate 64 0)) ≡ table_of e
unfolding completed part_of noted table_of start mark_of
completed_part e h = rw (rows_completed e 64 h, size_names e)
