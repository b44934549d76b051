-- What is printed of some lines is what their calls get in a run.
use mathlib.Core.Path.{◌≡◌, refl, sym, ap, subst, ◌∙◌}
use mathlib.Core.List.{List, [], ◌∷◌, ◌++◌}
use mathlib.Core.Option.{Option, some, none}
use Prim.Native.Nat.{ℕ}
use native.Mathlib.Omega.{arith}
use Rattle.meaning.specs.Calls.{Call}
use Rattle.table.specs.Rules.{table_of}
use Rattle.table.specs.Soundness.{Sound}
use Rattle.table.specs.declared.cells.Table.{Table}
use Rattle.standing.specs.declared.entries.Entry.{Entry}
use Rattle.standing.specs.declared.records.Session.{Session}
use Rattle.steps.specs.Steps.{opening}
use Rattle.simulation.specs.Runs.{Made, calls_of, Run}
use Rattle.wording.specs.Lines.{text_of, later_lines}
use Rattle.wording.specs.Orders.{call_of}
use Rattle.transcripts.specs.Replies.{path_line}
use Rattle.transcripts.specs.Transcript.{Says, Talk}
use Rattle.transcripts.specs.Transcript.Transcript.{too_long, path_refused, path_accepted}
use Rattle.transcripts.specs.Promises.{calls_in, shown, RunShown, TranscriptIsARun}
use Rattle.transcripts.proofs.OneTranscript.{one_table, not_both, sound_table}
use Rattle.transcripts.proofs.Openings.{blanks, opening_opens}
use Rattle.transcripts.proofs.Tables.{leaves_table}

-- a run that is shown, from a record and list on
record Ran (t : Table) (s : Session) (l : List Entry) (lines : List (List ℕ)) (said : List ℕ) : Type 0 where
  made : List Made
  session : Session
  list : List Entry
  run : Run s l made session list
  those_calls : calls_of made ≡ calls_in lines
  printed : said ≡ shown t lines made

module _ (t : Table) (s s' : Session) (l l' : List Entry) (line : List ℕ) (lines : List (List ℕ)) (first rest : List ℕ)
    (over : s.table ≡ t) where
  -- a line more in front
  ran_more : (c : Option Call) → call_of line ≡ c → Says c s l first s' l' → Ran t s' l' lines rest
      → Ran t s l (line ∷ lines) (first ++ rest)
  unfolding Run calls_in shown
  ran_more none e (same-record, same-list, is) r =
      record {
        made = r.made;
        session = r.session;
        list = r.list;
        run = rw (← same-record, ← same-list) r.run;
        those_calls = rw e r.those_calls;
        printed = rw (e, is, r.printed) refl;
      }
  ran_more (some c) e (reply, by, is) r =
      record {
        made = record { call = c; reply = reply } ∷ r.made;
        session = r.session;
        list = r.list;
        run = (s', l', by, r.run);
        those_calls = rw e (ap (λ cs. c ∷ cs) r.those_calls);
        printed = rw (e, is, over, r.printed) refl;
      }

  says_table : (c : Option Call) → Says c s l first s' l' → s'.table ≡ t
  says_table none (same-record, same-list, is) = ap (λ x. x.table) same-record ∙ over
  says_table (some c) (reply, by, is) = leaves_table s s' l l' c reply by ∙ over

talk_ran : (t : Table) (s : Session) (l : List Entry) (lines : List (List ℕ)) (said : List ℕ) → s.table ≡ t → Talk s l lines said
    → Ran t s l lines said
unfolding Talk Run calls_in shown
talk_ran t s l [] said over e =
    record { made = []; session = s; list = l; run = (refl, refl); those_calls = refl; printed = e }
talk_ran t s l (line ∷ lines) said over (s', l', first, rest, says, talk, e) =
    let further = talk_ran t s' l' lines rest (says_table t s s' l l' line lines first rest over (call_of line) says) talk in
    subst (Ran t s l (line ∷ lines)) (sym e) (ran_more t s s' l l' line lines first rest over (call_of line) refl says further)

-- from the opening on
pub run_shown : (t : Table) → Sound t → (lines : List (List ℕ)) (said : List ℕ) → Talk (opening t) blanks lines said
    → RunShown t lines said
run_shown t sound lines said talk =
    let r = talk_ran t (opening t) blanks lines said refl talk in
    record {
      made = r.made;
      session = r.session;
      list = r.list;
      run =
          record {
            lent = opening t;
            list = blanks;
            opened = opening t;
            blanked = blanks;
            opens = opening_opens t sound;
            runs = r.run;
          };
      those_calls = r.those_calls;
      printed = r.printed;
    }

pub transcript_is_a_run : TranscriptIsARun
transcript_is_a_run input said e short fits (too_long h is) = absurd (omega (arith, h, short))
transcript_is_a_run input said e short fits (path_refused h n k r is) = absurd (not_both (text_of input) e n k fits r)
transcript_is_a_run input said e short fits (path_accepted h x fits' replies talk is) =
    let tables = one_table (text_of input) x e fits' fits in (
      replies,
      is ∙ ap (λ t. path_line t ++ replies) tables,
      run_shown (table_of e) (sound_table (text_of input) e fits) (later_lines input) replies
          (subst (λ t. Talk (opening t) blanks (later_lines input) replies) tables talk),
    )
