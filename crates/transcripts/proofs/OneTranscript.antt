-- Each input has one transcript: a text compiles to one thing, and no call has two outcomes.
use mathlib.Core.Path.{◌≡◌, sym, ap, ap₂, subst, ◌∙◌}
use mathlib.Core.List.{List, [], ◌∷◌, ◌++◌}
use mathlib.Core.Option.{Option, some, none}
use Prim.Native.Nat.{ℕ}
use native.Mathlib.Omega.{arith}
use Rattle.meaning.specs.Words.{Expr}
use Rattle.meaning.specs.Calls.{Call}
use Rattle.grammar.specs.Refusals.{Accepted, Refused}
use Rattle.table.specs.Rules.{table_of}
use Rattle.table.specs.Soundness.{Sound}
use Rattle.compiler.specs.Compiling.{Answer}
use Rattle.compiler.specs.Compiling.Answer.{accepted, refused}
use Rattle.compiler.proofs.CompiledTexts.{compiled_compiles}
use Rattle.standing.specs.declared.entries.Entry.{Entry}
use Rattle.standing.specs.declared.records.Session.{Session}
use Rattle.simulation.proofs.Leaving.{leaves_one}
use Rattle.wording.specs.Lines.{text_of}
use Rattle.wording.specs.Orders.{call_of}
use Rattle.transcripts.specs.Replies.{refused_path_line, path_line, reply_line}
use Rattle.transcripts.specs.Transcript.{Says, Talk}
use Rattle.transcripts.specs.Transcript.Transcript.{too_long, path_refused, path_accepted}
use Rattle.transcripts.specs.Promises.{TranscriptDetermined, PrintsDetermined}

-- ---- a text has one table, or one refusal
pub one_table : (text : List ℕ) (x y : Expr) → Accepted text x → Accepted text y → table_of x ≡ table_of y
one_table text x y fits fits' =
    let c = compiled_compiles text in
    sym (c.its_table x fits).by_the_rules ∙ (c.its_table y fits').by_the_rules

-- and it is sound
pub sound_table : (text : List ℕ) (x : Expr) → Accepted text x → Sound (table_of x)
sound_table text x fits =
    let promised = (compiled_compiles text).its_table x fits in
    subst Sound promised.by_the_rules promised.is_sound

abbrev number_in : Answer → ℕ
number_in accepted = 0
number_in (refused n k) = n

abbrev place_in : Answer → ℕ
place_in accepted = 0
place_in (refused n k) = k

one_refusal : (text : List ℕ) (n n' k k' : ℕ) → Refused text n k → Refused text n' k' → (n ≡ n') × (k ≡ k')
one_refusal text n n' k k' r r' =
    let c = compiled_compiles text in
    let same = sym ((c.refuses n k).1 r) ∙ (c.refuses n' k').1 r' in
    (ap number_in same, ap place_in same)

abbrev is_refused : Answer → ℕ
is_refused accepted = 0
is_refused (refused n k) = 1

pub not_both : (text : List ℕ) (x : Expr) (n k : ℕ) → Accepted text x → Refused text n k → ⊥
not_both text x n k fits r =
    let c = compiled_compiles text in
    let same = ap is_refused (sym (c.accepts.1 (x, fits)) ∙ (c.refuses n k).1 r) in
    absurd (omega (arith, same))

-- ---- lines are told in one way
says_one : (c : Option Call) (s s₁ s₂ : Session) (l l₁ l₂ : List Entry) (u v : List ℕ) → Says c s l u s₁ l₁ → Says c s l v s₂ l₂
    → (u ≡ v) × (s₁ ≡ s₂) × (l₁ ≡ l₂)
says_one none s s₁ s₂ l l₁ l₂ u v (a, b, e) (a', b', e') = (e ∙ sym e', a ∙ sym a', b ∙ sym b')
says_one (some c) s s₁ s₂ l l₁ l₂ u v (r, by, e) (r', by', e') =
    let (same, records, lists) = leaves_one s s₁ s₂ l l₁ l₂ c r r' by by' in
    (e ∙ ap (reply_line s.table c) same ∙ sym e', records, lists)

pub talk_one : (s : Session) (l : List Entry) (lines : List (List ℕ)) (u v : List ℕ) → Talk s l lines u → Talk s l lines v → u ≡ v
unfolding Talk
talk_one s l [] u v e e' = e ∙ sym e'
talk_one s l (line ∷ lines) u v (s₁, l₁, a, b, says, talk, e) (s₂, l₂, a', b', says', talk', e') =
    let (same, records, lists) = says_one (call_of line) s s₁ s₂ l l₁ l₂ a a' says says' in
    let rest = talk_one s₁ l₁ lines b b' talk (rw (records, lists) talk') in
    e ∙ ap₂ ◌++◌ same rest ∙ sym e'

pub transcript_determined : TranscriptDetermined
transcript_determined input u v (too_long h e) (too_long h' e') = e ∙ sym e'
transcript_determined input u v (too_long h e) (path_refused h' n k r e') = absurd (omega (arith, h, h'))
transcript_determined input u v (too_long h e) (path_accepted h' x fits w talk e') = absurd (omega (arith, h, h'))
transcript_determined input u v (path_refused h n k r e) (too_long h' e') = absurd (omega (arith, h, h'))
transcript_determined input u v (path_refused h n k r e) (path_refused h' n' k' r' e') =
    let (numbers, places) = one_refusal (text_of input) n n' k k' r r' in e ∙ ap₂ refused_path_line numbers places ∙ sym e'
transcript_determined input u v (path_refused h n k r e) (path_accepted h' x fits w talk e') =
    absurd (not_both (text_of input) x n k fits r)
transcript_determined input u v (path_accepted h x fits w talk e) (too_long h' e') = absurd (omega (arith, h, h'))
transcript_determined input u v (path_accepted h x fits w talk e) (path_refused h' n k r e') =
    absurd (not_both (text_of input) x n k fits r)
transcript_determined input u v (path_accepted h x fits w talk e) (path_accepted h' y fits' w' talk' e') =
    let tables = one_table (text_of input) x y fits fits' in
    let replies = talk_one _ _ _ w w' talk (rw tables talk') in
    e ∙ ap₂ (λ t replies. path_line t ++ replies) tables replies ∙ sym e'

pub prints_determined : PrintsDetermined
prints_determined input out after after' n n' h h' =
    let same = transcript_determined input h.said h'.said h.is_transcript h'.is_transcript in (
      h.printed ∙ rw same (sym h'.printed),
      h.output ∙ rw same (sym h'.output),
    )
