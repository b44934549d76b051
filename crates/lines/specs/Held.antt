-- A line before any opening. Nothing here needs to be believed: an opening leaves nothing of it.
use Rattle.std.specs.Prelude.{replicate, None}
use Rattle.table.specs.Cells.{zeros}
use Rattle.standing.specs.Lists.{blank_entry}
use Rattle.lines.specs.declared.held.Line.{Line}

-- the table of zeros, free, and no entry
abbrev pub unopened : Line
unopened =
    record {
      session = record { table = zeros; set = 0; running = None; waiting = 0 };
      list = replicate 64 blank_entry;
    }
