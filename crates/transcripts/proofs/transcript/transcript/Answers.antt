-- `transcript::transcript` meets its contract: it prints from the front of the lent output on, and that is still the same.
use Rattle.std.proofs.Common.{rules, refl}
use Rattle.transcripts.proofs.Wholes.{prints}
use Rattle.transcripts.proofs.transcript.transcript.Goals as goal

pub returns : goal.returns
returns c =
    let printed = prints refl c.put_transcript.ensures in
    let same_lent = c.put_transcript.ensures.writes.same_lent in
    search rules
