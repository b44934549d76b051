-- `replies::put_grant` meets its contract: the fields are put one after the other.
use Rattle.wording.proofs.Putting.{writes_more}
use Rattle.table.specs.Cells.{names_of}
use Rattle.transcripts.specs.Replies.{line_of}
use Rattle.transcripts.proofs.replies.put_grant.Goals as goal

pub returns : goal.returns
unfolding names_of line_of
returns c =
    writes_more c.put_bytes.ensures
    (writes_more c.put_number.ensures (writes_more c.put.ensures (writes_more c.put_name.ensures c.put-2.ensures)))
