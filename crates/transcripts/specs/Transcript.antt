-- Document 01, "Program": the output of `linerun` for every input.
use Rattle.std.specs.Prelude.{◌≡◌, List, [], ◌∷◌, ◌++◌, ℕ, ◌≤◌, ◌<◌, min, length, replicate}
use Rattle.std.proofs.Math.Option.{Option, some, none}
use Rattle.meaning.specs.Words.{Expr}
use Rattle.meaning.specs.Calls.{Call}
use Rattle.grammar.specs.Refusals.{Accepted, Refused}
use Rattle.table.specs.Rules.{table_of}
use Rattle.standing.specs.declared.entries.Entry.{Entry}
use Rattle.standing.specs.declared.records.Session.{Session}
use Rattle.standing.specs.Lists.{blank_entry}
use Rattle.steps.specs.Steps.{opening}
use Rattle.simulation.specs.Runs.{ReplyTo, Leaves}
use Rattle.wording.specs.Lines.{text_of, later_lines}
use Rattle.wording.specs.Orders.{call_of}
use Rattle.wording.specs.Writing.{put_over}
use Rattle.transcripts.specs.Replies.{refused_line, refused_path_line, path_line, reply_line}

-- what a line is as a call, the record and list before it, what is printed, and the record and list after it: "Any other line gives
-- `refused 16`", and changes nothing; a call gives its reply line, and leaves what its contract says
abbrev pub Says : Option Call → Session → List Entry → List ℕ → Session → List Entry → Type 0
Says none s l said s' l' = (s' ≡ s) × (l' ≡ l) × (said ≡ refused_line 16)
Says (some c) s l said s' l' = (r : ReplyTo c) × Leaves s l c r s' l' × (said ≡ reply_line s.table c r)

-- what is printed of some lines, one after the other
unfoldable pub Talk : Session → List Entry → List (List ℕ) → List ℕ → Type 0
Talk s l [] said = said ≡ []
Talk s l (line ∷ lines) said =
    (s' : Session) × (l' : List Entry) × (first rest : List ℕ) × Says (call_of line) s l first s' l' × Talk s' l' lines rest
    × (said ≡ first ++ rest)

-- the whole output
pub data Transcript (input : List ℕ) (said : List ℕ) : Type 0 where
  -- "reads at most 65,536 bytes .. A longer input gives only `refused 17`"
  too_long : 65536 < length input → said ≡ refused_line 17 → Transcript input said
  -- "Line one .. is the path. If refused: `refused N at P` and nothing more"
  path_refused : length input ≤ 65536 → (n place : ℕ) → Refused (text_of input) n place → said ≡ refused_path_line n place
      → Transcript input said
  -- "Otherwise `path` with positions, names and mark", and a session that is opened over the path's table
  path_accepted : length input ≤ 65536 → (e : Expr) → Accepted (text_of input) e → (replies : List ℕ)
      → Talk (opening (table_of e)) (replicate 64 blank_entry) (later_lines input) replies
      → said ≡ path_line (table_of e) ++ replies → Transcript input said

-- the contract of `transcript`: what is printed stands at the front of the output, as far as that goes, and is so long
pub record Prints (input out : List ℕ) (n : ℕ) (after : List ℕ) : Type 0 where
  pub said : List ℕ
  pub is_transcript : Transcript input said
  pub output : after ≡ put_over out 0 said
  pub printed : n ≡ min (length said) (length out)
