-- `replies::put_path` meets its contract: the fields are put one after the other.
use Rattle.wording.proofs.Putting.{writes_more}
use Rattle.transcripts.specs.Replies.{line_of, path_line}
use Rattle.transcripts.proofs.replies.put_path.Goals as goal

pub returns : goal.returns
unfolding line_of path_line
returns c =
    writes_more c.put_bytes.ensures
    (writes_more c.put_number.ensures (writes_more c.put.ensures (writes_more c.put_number-2.ensures c.put_last.ensures)))
