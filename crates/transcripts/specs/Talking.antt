-- What the inner functions say: the parts of a transcript, as they are put into the output. The contract of `transcript`
-- (Transcript.antt) does not speak of it.
use Rattle.std.specs.Prelude.{List, ◌++◌, ℕ, replicate}
use Rattle.table.specs.declared.cells.Table.{Table}
use Rattle.standing.specs.declared.entries.Entry.{Entry}
use Rattle.standing.specs.declared.records.Session.{Session}
use Rattle.standing.specs.Lists.{blank_entry}
use Rattle.steps.specs.Steps.{opening}
use Rattle.lines.specs.declared.held.Line.{Line}
use Rattle.wording.specs.Orders.{call_of}
use Rattle.wording.specs.Writing.{Writes}
use Rattle.wording.specs.declared.writing.Output.{Output}
use Rattle.transcripts.specs.Replies.{path_line}
use Rattle.transcripts.specs.Transcript.{Says, Talk, Transcript}

-- a call: its reply, what it leaves, and its reply line in the output
pub record Replied {R : Type 0} (shown : R → List ℕ) (leaves : R → Session → List Entry → Type 0) (before : Output) (line : Line)
    (after : Output) : Type 0 where
  pub reply : R
  pub left : leaves reply line.session line.list
  pub writes : Writes before (shown reply) after

-- a line of the input
pub record Turned (s : Session) (l : List Entry) (text : List ℕ) (before : Output) (line : Line) (after : Output) : Type 0 where
  pub said : List ℕ
  pub says : Says (call_of text) s l said line.session line.list
  pub writes : Writes before said after

-- some lines of the input
pub record Talked (s : Session) (l : List Entry) (lines : List (List ℕ)) (before after : Output) : Type 0 where
  pub said : List ℕ
  pub talk : Talk s l lines said
  pub writes : Writes before said after

-- a line that is opened over table t, and some lines of the input
pub record Ran (t : Table) (lines : List (List ℕ)) (before after : Output) : Type 0 where
  pub said : List ℕ
  pub talk : Talk (opening t) (replicate 64 blank_entry) lines said
  pub writes : Writes before (path_line t ++ said) after

-- an input
pub record Printed (input : List ℕ) (before after : Output) : Type 0 where
  pub said : List ℕ
  pub is_transcript : Transcript input said
  pub writes : Writes before said after
