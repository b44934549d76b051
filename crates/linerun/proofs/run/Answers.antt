use Rattle.std.proofs.Common.{rules}
use Rattle.transcripts.proofs.Fitting.{whole_transcript}
use Rattle.linerun.proofs.Whole.{whole_input, written}
use Rattle.linerun.proofs.run.Goals as goal

pub returns : goal.returns
returns g c =
    written c.write_all.result _ _ _ _
    (whole_input _ _ c.read_full.new.buffer _ c.in_ok-n.n (search rules) c.in_ok-n.ensures.within c.in_ok-n.ensures.bytes c.in_ok-n.ensures.end
    (whole_transcript _ _ _ _ c.transcript-said.ensures (search rules)))
    c.write_all.ensures.bytes
