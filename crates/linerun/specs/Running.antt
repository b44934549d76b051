-- Document 01, "Program": what is written of an input.
use Rattle.std.specs.Prelude.{List, ℕ}
use Rattle.std.specs.declared.option.Option.{Option}
use Rattle.std.specs.Io.KnownBytes.{Appends}
use Rattle.transcripts.specs.Transcript.{Transcript}

-- the input's transcript, behind what the writer held before
pub record WritesTranscript (input : List ℕ) (old new : Option (List ℕ)) : Type 0 where
  pub said : List ℕ
  pub is_transcript : Transcript input said
  pub appends : Appends old new said
