-- `replies::put_last` meets its contract: the bytes are put one after the other.
use Rattle.wording.proofs.Putting.{writes_more}
use Rattle.transcripts.proofs.replies.put_last.Goals as goal

pub returns : goal.returns
returns c =
    writes_more c.put_bytes.ensures
    (writes_more c.put_number.ensures c.put.ensures)
