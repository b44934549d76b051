-- `Unfound`: none of the first i names is the one.
use Rattle.std.proofs.Common.{take}
use Rattle.meaning.specs.Names.{key}
use Rattle.table.specs.Cells.{spellings}
use Rattle.table.proofs.Finding.{Unfound}
use Rattle.table.proofs.cells.Table.find_among.Given as goal

abbrev pub invariant-loop-i : goal.invariant-loop-i
invariant-loop-i l = Unfound (take l.n (spellings l.self.lengths l.self.bytes)) (key l.name) l.i
