-- The whole output, by what the path's text compiles to.
use mathlib.Core.Path.{◌≡◌, refl, sym, ap, subst, ◌∙◌}
use mathlib.Core.List.{List}
use Prim.Native.Nat.{ℕ, ◌+◌, ◌≤◌, ◌<◌, min}
use native.Mathlib.Omega.{arith, min_cases}
use native.Mathlib.Nat.{le_refl}
use lib.ListN.{length, take, drop, drop_of_length-le}
use Rattle.text.proofs.Spans.{span_within}
use Rattle.table.specs.Soundness.{Sound}
use Rattle.table.specs.Rules.{table_of}
use Rattle.compiler.specs.Compiling.{Compiles}
use Rattle.compiler.specs.declared.replies.Refusal.{Refusal}
use Rattle.std.specs.Prelude.{Ok, Err}
use Rattle.text.specs.Faults.{number_of as fault_number}
use Rattle.compiler.specs.declared.replies.Compiled.{Compiled}
use Rattle.wording.specs.Lines.{lf, before, lines_of, text_of, later_lines}
use Rattle.wording.specs.Writing.{Writes}
use Rattle.wording.specs.declared.writing.Output.{Output}
use Rattle.wording.proofs.Pieces.{text_is, later_are}
use Rattle.transcripts.specs.Replies.{refused_line, refused_path_line}
use Rattle.transcripts.specs.Transcript.{Prints}
use Rattle.transcripts.specs.Transcript.Transcript.{too_long, path_refused, path_accepted}
use Rattle.transcripts.specs.Talking.{Ran, Printed}

-- what is printed from the front of an output on
pub prints : {input : List ℕ} {o p : Output} → o.at ≡ 0 → Printed input o p → Prints input o.bytes.now p.at p.bytes.now
prints front p =
    let puts = rw front at p.writes.puts in
    record {
      said = p.said;
      is_transcript = p.is_transcript;
      output = puts.output;
      printed = let at = puts.place in omega (arith, at);
    }

pub printed_too_long : {input : List ℕ} {before after : Output} → 65536 < length input → Writes before (refused_line 17) after
    → Printed input before after
printed_too_long h writes = record { said = _; is_transcript = too_long h refl; writes = writes }

-- the path ends in the input
pub end_within : (input : List ℕ) (end : ℕ) → end ≡ before lf input → end ≤ length input
end_within input end told = rw told (span_within _ input)

module _ (input : List ℕ) (end : ℕ) (told : end ≡ before lf input) (c : Compiled) (compiles : Compiles (take end input) c) where
  its_own : Compiles (text_of input) c
  its_own = subst (λ s. Compiles s c) (sym (text_is input ∙ ap (λ k. take k input) (sym told))) compiles

  pub table_sound : c.reply ≡ Ok tt → Sound c.table
  table_sound e = let (x, fits) = compiles.accepts.0 (rw e refl) in (compiles.its_table x fits).is_sound

  -- where the lines behind the path start
  later : (from : ℕ) → from ≡ min (end + 1) (length input) → lines_of (drop from input) ≡ later_lines input
  later from e =
      ap (λ k. lines_of (drop k input)) e
      ∙ ap lines_of (min_cases (end + 1) (length input) (drop (min (end + 1) (length input)) input ≡ drop (end + 1) input)
      (λ _ m. rw m refl)
      (λ past m. rw m (drop_of_length-le input (le_refl (length input)) ∙ sym (drop_of_length-le input past))))
      ∙ ap (λ k. lines_of (drop (k + 1) input)) told
      ∙ sym (later_are input)

  module _ {before after : Output} (short : length input ≤ 65536) where
    pub printed_accepted : c.reply ≡ Ok tt → (from : ℕ) → from ≡ min (end + 1) (length input)
        → Ran c.table (lines_of (drop from input)) before after → Printed input before after
    printed_accepted e from at ran =
        let (x, fits) = its_own.accepts.0 (rw e refl) in
        let ruled : c.table ≡ table_of x = (its_own.its_table x fits).by_the_rules in
        let ran' : Ran (table_of x) (later_lines input) before after = rw (← (later from at), ← ruled) ran in
        record { said = _; is_transcript = path_accepted short x fits ran'.said ran'.talk refl; writes = ran'.writes }

    pub printed_refused : (why : Refusal) → c.reply ≡ Err why → Writes before (refused_path_line (fault_number why.fault) why.place) after
        → Printed input before after
    printed_refused why e writes =
        let its_refusal = (its_own.refuses (fault_number why.fault) why.place).0 (rw e refl) in
        record { said = _; is_transcript = path_refused short (fault_number why.fault) why.place its_refusal refl; writes = writes }
