-- An input of which no more was read than fits into the buffer has the transcript of what was read.
use Rattle.std.proofs.Common.{◌≡◌, ℕ, ◌≤◌, ◌<◌, List, ◌++◌, None, Some, Result, Ok, Err, OnOk, IfSome, arith, length, take, sym, ap, subst, ◌∙◌, append-nil, length-append, length-take-le}
use Rattle.std.proofs.Math.Logic.{inl, inr}
use Rattle.std.proofs.Math.Nat.{eq-or-lt_of_le}
use Rattle.std.specs.declared.option.Option.{Option}
use Rattle.std.specs.Io.KnownBytes.{Appends, Consumes, IsAtEnd}
use Rattle.transcripts.specs.Transcript.{Transcript}
use Rattle.transcripts.specs.Transcript.Transcript.{too_long, path_refused, path_accepted}
use Rattle.linerun.specs.Running.{WritesTranscript}

-- what is longer than an input may be, and what goes on behind it, have one transcript
too_long_too : (input rest said : List ℕ) → 65536 < length input → Transcript input said → Transcript (input ++ rest) said
too_long_too input rest said long (too_long h e) = too_long (let both = length-append input rest in omega (arith, both, long)) e
too_long_too input rest said long (path_refused h n place refused e) = absurd (omega (arith, h, long))
too_long_too input rest said long (path_accepted h x fits replies talk e) = absurd (omega (arith, h, long))

pub whole_input : (a b : Option (List ℕ)) (buffer said : List ℕ) (n : ℕ) → 65537 ≡ length buffer → n ≤ length buffer
    → Consumes a b (take n buffer) → (n < length buffer → IsAtEnd b) → Transcript (take n buffer) said
    → IfSome a (λ input. Transcript input said)
whole_input None b buffer said n long within read end is = tt
whole_input (Some xs) None buffer said n long within read end is = absurd read
whole_input (Some xs) (Some ys) buffer said n long within read end is =
    elim (eq-or-lt_of_le within) [
      | inl h ↦
          let all = length-take-le n buffer within in
          subst (λ x. Transcript x said) (sym read) (too_long_too (take n buffer) ys said (omega (arith, all, h, long)) is)
      | inr h ↦ subst (λ x. Transcript x said) (sym (read ∙ ap (λ l. take n buffer ++ l) (end h) ∙ append-nil (take n buffer))) is
    ]

-- where the reader's bytes are known and the writing succeeded
pub written : {T E : Type 0} (r : Result T E) (a old new : Option (List ℕ)) (said : List ℕ)
    → IfSome a (λ input. Transcript input said) → OnOk r (Appends old new said)
    → OnOk r (IfSome a (λ input. WritesTranscript input old new))
written (Err e) a old new said is done = tt
written (Ok x) None old new said is done = tt
written (Ok x) (Some input) old new said is done = record { said = said; is_transcript = is; appends = done }
