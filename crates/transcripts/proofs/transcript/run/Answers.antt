-- `transcript::run` meets its contract: the path line, and the talk behind it.
use Rattle.wording.proofs.Putting.{writes_more, writes_within}
use Rattle.transcripts.proofs.transcript.run.Goals as goal

pub talk-requires : goal.talk-requires
talk-requires c = writes_within c.put_path.ensures

pub returns : goal.returns
returns c =
    let talked = rw (c.opened.ensures.0, c.opened.ensures.1) at
    c.talk.ensures in
    record {
      said = talked.said;
      talk = talked.talk;
      writes = writes_more c.put_path.ensures talked.writes;
    }
