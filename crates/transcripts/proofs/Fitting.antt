-- No transcript is longer than 720,914 bytes: a line of the input that is no call gives 11 bytes, one that is a call 88 at most, and then it
-- has 7 bytes itself, besides its LF.
use mathlib.Core.Path.{◌≡◌, refl, sym, subst, ◌∙◌}
use mathlib.Core.List.{List, [], ◌∷◌}
use mathlib.Core.Option.{Option, some, none}
use Prim.Native.Nat.{ℕ, suc, ◌*◌, ◌≤◌}
use native.Mathlib.Omega.{arith}
use lib.ListN.{length, length-append, length-replicate}
use Rattle.meaning.specs.Calls.{Call}
use Rattle.table.specs.Rules.{table_of}
use Rattle.standing.specs.declared.entries.Entry.{Entry}
use Rattle.standing.specs.declared.records.Session.{Session}
use Rattle.standing.specs.Lists.{blank_entry}
use Rattle.standing.specs.Soundness.{Sound}
use Rattle.steps.specs.Steps.{opening}
use Rattle.simulation.proofs.Leaving.{leaves_sound, leaves_rest}
use Rattle.wording.specs.Lines.{text_of}
use Rattle.wording.specs.Orders.{call_of}
use Rattle.wording.proofs.Putting.{put_in_front}
use Rattle.wording.proofs.Sizes.{sized, call_long, later_sized}
use Rattle.transcripts.specs.Replies.{path_line}
use Rattle.transcripts.specs.Transcript.{Says, Talk, Transcript}
use Rattle.transcripts.specs.Transcript.Transcript.{too_long, path_refused, path_accepted}
use Rattle.transcripts.specs.Promises.{TranscriptFits, WholeTranscript}
use Rattle.transcripts.proofs.Lengths.{refused_long, refused_path_long, path_long}
use Rattle.transcripts.proofs.OneTranscript.{sound_table}
use Rattle.transcripts.proofs.Openings.{blanks, opening_sound}
use Rattle.transcripts.proofs.Places.{refused_small}
use Rattle.transcripts.proofs.ReplyLengths.{reply_long}

-- a record and list as they are from an opening on
record Standing (s : Session) (l : List Entry) : Type 0 where
  long : length l ≡ 64
  is_sound : Sound s l

fits_list : (s : Session) (l : List Entry) → Standing s l → s.waiting ≤ length l
fits_list s l h = let most = h.is_sound.record_sound.count_most in let long = h.long in omega (arith, most, long)

module _ (s s' : Session) (l l' : List Entry) (line said : List ℕ) where
  -- what is printed of a line is at most 11 bytes for each of its own, LF included
  says_long : (c : Option Call) → call_of line ≡ c → Standing s l → Says c s l said s' l' → length said ≤ 11 * suc (length line)
  says_long none e h (a, b, is) = let short = refused_long 16 (omega arith) in rw is (omega (arith, short))
  says_long (some c) e h (r, by, is) =
      let short = reply_long s s' l l' (fits_list s l h) h.is_sound c r by in
      let long = call_long line c e in
      rw is (omega (arith, short, long))

  says_standing : (c : Option Call) → Standing s l → Says c s l said s' l' → Standing s' l'
  says_standing none h (a, b, is) = rw (a, b) h
  says_standing (some c) h (r, by, is) =
      record { long = (leaves_rest s s' l l' c r by).0 ∙ h.long; is_sound = leaves_sound s s' l l' c r by h.is_sound }

talk_long : (s : Session) (l : List Entry) (lines : List (List ℕ)) (said : List ℕ) → Standing s l → Talk s l lines said
    → length said ≤ 11 * sized lines
unfolding Talk sized
talk_long s l [] said h e = rw e (omega arith)
talk_long s l (line ∷ lines) said h (s', l', first, rest, says, talk, e) =
    let here = says_long s s' l l' line first (call_of line) refl h says in
    let there = talk_long s' l' lines rest (says_standing s s' l l' line first (call_of line) h says) talk in
    let both = length-append first rest in
    rw e (omega (arith, here, there, both))

pub transcript_fits : TranscriptFits
transcript_fits input said (too_long h e) = let short = refused_long 17 (omega arith) in rw e (omega (arith, short))
transcript_fits input said (path_refused h n k r e) =
    let (few, near) = refused_small (text_of input) n k r in
    let short = refused_path_long n k few near in
    rw e (omega (arith, short))
transcript_fits input said (path_accepted h x fits replies talk e) =
    let sound = sound_table (text_of input) x fits in
    let start : Standing (opening (table_of x)) blanks = record { long = length-replicate 64 blank_entry; is_sound = opening_sound (table_of x) sound }
    in
    let path = path_long (table_of x) sound in
    let rest = talk_long (opening (table_of x)) blanks _ replies start talk in
    let lines = later_sized input in
    let both = length-append (path_line (table_of x)) replies in
    rw e (omega (arith, path, rest, lines, both, h))

pub whole_transcript : WholeTranscript
whole_transcript input out after n h room =
    let short = transcript_fits input h.said h.is_transcript in
    let all : n ≡ length h.said = let printed = h.printed in omega (arith, printed, short, room) in
    subst (Transcript input) (sym (rw (all, h.output) (put_in_front out h.said (omega (arith, short, room))))) h.is_transcript
