-- `transcript::opened` meets its contract: a sound table is not refused (`opened_blank`).
use Rattle.transcripts.proofs.Openings.{opened_blank}
use Rattle.transcripts.proofs.transcript.opened.Goals as goal

pub returns : goal.returns
returns c =
    opened_blank _ _ _ _ c.«open».result c.requires
    (rw c.unopened-line.ensures at c.«open».ensures)
