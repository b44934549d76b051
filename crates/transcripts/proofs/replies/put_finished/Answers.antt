-- `replies::put_finished` meets its contract: the fields are put one after the other, case by case.
use Rattle.wording.proofs.Putting.{writes_more}
use Rattle.transcripts.specs.Replies.{line_of, finished_line}
use Rattle.transcripts.proofs.replies.put_finished.Goals as goal

pub returns-in-Granted : goal.returns-in-Granted
unfolding line_of finished_line
returns-in-Granted c =
    rw c.in-Granted.is
    (writes_more c.put_bytes.ensures
    (writes_more c.put_number.ensures
    c.put_grant.ensures))

pub returns-in-Nobody : goal.returns-in-Nobody
unfolding line_of finished_line
returns-in-Nobody c =
    rw c.in-Nobody.is
    (writes_more c.put_bytes.ensures
    (writes_more c.put_number.ensures c.put.ensures))
