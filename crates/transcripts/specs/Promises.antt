-- What is promised of transcripts beside the contract of `transcript` (Transcript.antt). Each promise is a type here; proofs/ has a proof
-- of each, under the same name in small letters.
use Rattle.std.specs.Prelude.{◌≡◌, List, [], ◌∷◌, ◌++◌, ◌↔◌, ℕ, ◌≤◌, length, take}
use Rattle.std.proofs.Math.Option.{Option, some, none}
use Rattle.meaning.specs.Names.{Name}
use Rattle.meaning.specs.Words.{Expr, Begins}
use Rattle.meaning.specs.Calls.{Call}
use Rattle.grammar.specs.Refusals.{Accepted}
use Rattle.table.specs.Rules.{table_of}
use Rattle.table.specs.declared.cells.Table.{Table}
use Rattle.standing.specs.declared.entries.Entry.{Entry}
use Rattle.standing.specs.declared.records.Session.{Session}
use Rattle.simulation.specs.Runs.{Made, calls_of, FromOpening}
use Rattle.wording.specs.Lines.{text_of, later_lines}
use Rattle.wording.specs.Orders.{call_of}
use Rattle.transcripts.specs.Replies.{refused_line, path_line, reply_line}
use Rattle.transcripts.specs.Transcript.{Transcript, Prints}

-- each input has an output, and exactly one
abbrev pub TranscriptExists : Type 0
TranscriptExists = (input : List ℕ) → (said : List ℕ) × Transcript input said

abbrev pub TranscriptDetermined : Type 0
TranscriptDetermined = (input said said' : List ℕ) → Transcript input said → Transcript input said' → said ≡ said'

abbrev pub PrintsDetermined : Type 0
PrintsDetermined =
    (input out after after' : List ℕ) (n n' : ℕ) → Prints input out n after → Prints input out n' after' → (n ≡ n') × (after ≡ after')

-- no transcript is longer: 18 bytes for the path, and 11 for each byte of the input, since an empty line gives `refused 16`
abbrev pub TranscriptFits : Type 0
TranscriptFits = (input said : List ℕ) → Transcript input said → length said ≤ 720914

-- so in an output of that many bytes all of it stands in front
abbrev pub WholeTranscript : Type 0
WholeTranscript =
    (input out after : List ℕ) (n : ℕ) → Prints input out n after → 720914 ≤ length out → Transcript input (take n after)

-- the calls that some lines are, in order
abbrev pub or_call : Option Call → List Call → List Call
or_call none calls = calls
or_call (some c) calls = c ∷ calls

unfoldable pub calls_in : List (List ℕ) → List Call
calls_in [] = []
calls_in (line ∷ lines) = or_call (call_of line) (calls_in lines)

-- what is printed of some lines, their calls over table t having got these replies
abbrev pub shown_by : Table → Option Call → List Made → (List Made → List ℕ) → List ℕ
shown_by t none made rest = refused_line 16 ++ rest made
shown_by t (some c) [] rest = []
shown_by t (some c) (m ∷ made) rest = reply_line t m.call m.reply ++ rest made

unfoldable pub shown : Table → List (List ℕ) → List Made → List ℕ
shown t [] made = []
shown t (line ∷ lines) made = shown_by t (call_of line) made (λ rest. shown t lines rest)

-- the output for an accepted path is the path's line, and what the calls in the later lines get, one after the other from an opening
-- over the path's table: so what is promised of calls from an opening holds of what is printed
pub record RunShown (t : Table) (lines : List (List ℕ)) (replies : List ℕ) : Type 0 where
  pub made : List Made
  pub session : Session
  pub list : List Entry
  pub run : FromOpening t made session list
  pub those_calls : calls_of made ≡ calls_in lines
  pub printed : replies ≡ shown t lines made

abbrev pub TranscriptIsARun : Type 0
TranscriptIsARun =
    (input said : List ℕ) (e : Expr) → length input ≤ 65536 → Accepted (text_of input) e → Transcript input said
    → (replies : List ℕ) × (said ≡ path_line (table_of e) ++ replies) × RunShown (table_of e) (later_lines input) replies

-- demand 3, at the program: two inputs that differ only in their paths, which permit the same histories, get the same lines behind the
-- path's
abbrev pub SameHistoriesSameReplies : Type 0
SameHistoriesSameReplies =
    (input input' replies replies' : List ℕ) (x y : Expr) → length input ≤ 65536 → length input' ≤ 65536
    → Accepted (text_of input) x → Accepted (text_of input') y → ((h : List Name) → Begins x h ↔ Begins y h)
    → later_lines input ≡ later_lines input' → Transcript input (path_line (table_of x) ++ replies)
    → Transcript input' (path_line (table_of y) ++ replies') → replies ≡ replies'
