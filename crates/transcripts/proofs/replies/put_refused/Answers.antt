-- `replies::put_refused` meets its contract: the line, in other words.
use Rattle.transcripts.specs.Replies.{line_of, refused_line}
use Rattle.transcripts.proofs.replies.put_refused.Goals as goal

pub returns : goal.returns
unfolding line_of refused_line
returns c = c.put_last.ensures
