-- Each input has a transcript: a text is accepted or refused, and each call from an opening on has an outcome.
use mathlib.Core.Path.{◌≡◌, refl}
use mathlib.Core.List.{List, [], ◌∷◌, ◌++◌}
use mathlib.Core.Logic.{⊎_elim}
use mathlib.Core.Option.{Option, some, none}
use Prim.Native.Nat.{ℕ, ◌≤◌}
use lib.ListN.{length}
use Rattle.meaning.specs.Calls.{Call}
use Rattle.meaning.specs.Line.{Line}
use Rattle.meaning.proofs.SetLaws.{below_or_not}
use Rattle.table.specs.Rules.{table_of}
use Rattle.table.specs.declared.cells.Table.{Table}
use Rattle.std.specs.Prelude.{Ok, Err}
use Rattle.text.specs.Faults.{number_of as fault_number}
use Rattle.compiler.specs.Compiling.{Reply}
use Rattle.compiler.specs.Computed.{compiled}
use Rattle.compiler.proofs.CompiledTexts.{compiled_compiles}
use Rattle.standing.specs.declared.entries.Entry.{Entry}
use Rattle.standing.specs.declared.records.Session.{Session}
use Rattle.steps.specs.Steps.{opening}
use Rattle.simulation.specs.Likeness.{Alike}
use Rattle.simulation.proofs.CallsAlike.{call_alike}
use Rattle.simulation.proofs.RunsAlike.{opening_alike}
use Rattle.wording.specs.Lines.{text_of, later_lines}
use Rattle.wording.specs.Orders.{call_of}
use Rattle.transcripts.specs.Replies.{refused_line, refused_path_line, path_line, reply_line}
use Rattle.transcripts.specs.Transcript.{Says, Talk, Transcript}
use Rattle.transcripts.specs.Transcript.Transcript.{too_long, path_refused, path_accepted}
use Rattle.transcripts.specs.Promises.{TranscriptExists}
use Rattle.transcripts.proofs.OneTranscript.{sound_table}
use Rattle.transcripts.proofs.Openings.{blanks, opening_opens}

-- a line has its turn, and what it leaves is still like some ideal line
record Turned (t : Table) (s : Session) (l : List Entry) (c : Option Call) : Type 0 where
  said : List ℕ
  session : Session
  list : List Entry
  says : Says c s l said session list
  ideal : Line
  alike : Alike t session list ideal

turned : (t : Table) (s : Session) (l : List Entry) (i : Line) → Alike t s l i → (c : Option Call) → Turned t s l c
turned t s l i a none =
    record { said = refused_line 16; session = s; list = l; says = (refl, refl, refl); ideal = i; alike = a }
turned t s l i a (some c) =
    let one = call_alike t s l i a c in
    record {
      said = reply_line s.table c one.reply;
      session = one.session;
      list = one.list;
      says = (one.reply, one.leaves, refl);
      ideal = _;
      alike = one.still_alike;
    }

talk_exists : (t : Table) (s : Session) (l : List Entry) (i : Line) → Alike t s l i → (lines : List (List ℕ))
    → (said : List ℕ) × Talk s l lines said
unfolding Talk
talk_exists t s l i a [] = ([], refl)
talk_exists t s l i a (line ∷ lines) =
    let one = turned t s l i a (call_of line) in
    let (rest, talk) = talk_exists t one.session one.list one.ideal one.alike lines in
    (one.said ++ rest, (one.session, one.list, one.said, rest, one.says, talk, refl))

short_exists : (input : List ℕ) → length input ≤ 65536 → (r : Reply) → (compiled (text_of input)).reply ≡ r
    → (said : List ℕ) × Transcript input said
short_exists input short (Ok u) e =
    let (x, fits) = (compiled_compiles (text_of input)).accepts.0 (rw e refl) in
    let opens = opening_opens (table_of x) (sound_table (text_of input) x fits) in
    let start = opening_alike (table_of x) (opening (table_of x)) (opening (table_of x)) blanks blanks opens in
    let (replies, talk) = talk_exists (table_of x) (opening (table_of x)) blanks _ start (later_lines input) in
    (path_line (table_of x) ++ replies, path_accepted short x fits replies talk refl)
short_exists input short (Err why) e = (
  refused_path_line (fault_number why.fault) why.place,
  path_refused short (fault_number why.fault) why.place (((compiled_compiles (text_of input)).refuses (fault_number why.fault) why.place).0 (rw e refl)) refl,
)

pub transcript_exists : TranscriptExists
transcript_exists input = ⊎_elim
    (λ long. (refused_line 17, too_long long refl))
    (λ short. short_exists input short (compiled (text_of input)).reply refl)
    (below_or_not 65536 (length input))
