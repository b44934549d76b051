-- When bytes are well formed, in the words of a direct test: they start with a letter, the run of bytes of a name there is all of them,
-- and as a word it is a name. And a name that `next_token` finds is well formed: its bytes alone are one name, since they start with a
-- letter, so with no blank, and all of them are bytes of a name, so the longest run of those is again all of them.
use mathlib.Core.Path.{◌≡◌, refl, sym, ap, ◌∙◌}
use mathlib.Core.Bool.{Bool, true, false, cond, and-true, and-false, false≢true}
use mathlib.Core.List.{List, [], ◌∷◌}
use Prim.Native.Nat.{ℕ, suc, ◌+◌, ◌<◌}
use native.Mathlib.Omega.{arith}
use borrow.Author.Tests.{eq-eqb, ne_eqb}
use lib.ListN.{length, take, drop, get_or}
use lib.Seq.{length-take-le, take-length}
use Rattle.text.specs.Classes.{class_of, starts_name}
use Rattle.text.specs.declared.classes.Class.{Class}
use Rattle.text.specs.declared.classes.Class.TheVariants.{Letter}
use Rattle.text.specs.Tokens.{span, blank_byte, name_byte, word_token, sign_token, word_read, token_from, next_token, is_name, well_formed}
use Rattle.text.specs.declared.tokens.Token.TheVariants.{Name}
use Rattle.text.proofs.Spans.{span_counts, span_ends, span_within}
use Rattle.text.proofs.Ways.{way_word, way_sign}
use Rattle.text.proofs.Reading.{sign_has, starts_letter, start_is_blanks, name_reaches}

-- a run is a run of its own bytes
span_of_run : (test : ℕ → Bool) (s : List ℕ) → span test (take (span test s) s) ≡ span test s
unfolding span
span_of_run test [] = refl
span_of_run test (b ∷ s) = go (test b) refl (span_of_run test s)
  where
    go : (t : Bool) → test b ≡ t → span test (take (span test s) s) ≡ span test s
        → span test (take (cond t (suc (span test s)) 0) (b ∷ s)) ≡ cond t (suc (span test s)) 0
    go true e rest = rw e (ap suc rest)
    go false e rest = refl

sign_no_name : (c : Class) → is_name (sign_token c) ≡ false
sign_no_name = sign_has (λ t. is_name t ≡ false) refl refl refl refl refl refl

-- bytes that start with a letter are read from there, as a word
letter_read : (b : ℕ) (r : List ℕ) → class_of b ≡ Letter → next_token (b ∷ r) ≡ word_read 0 (span name_byte (b ∷ r)) (b ∷ r)
letter_read b r starts =
    let w = b ∷ r in
    let m = span name_byte w in
    let no-blank : 0 ≡ span blank_byte w = sym (span_ends blank_byte b r (rw starts)) in
    sym (way_word w 0 no-blank w (class_of b) m (word_token (take m w)) refl (omega arith) refl starts refl refl)

-- so they are well formed if the word is all of them and a name
pub whole_word : (n : List ℕ) → 0 < length n → starts_name (class_of (get_or n 0 0)) ≡ true → span name_byte n ≡ length n
    → well_formed n ≡ is_name (word_token n)
unfolding well_formed
whole_word [] some starts all = absurd (omega arith)
whole_word (b ∷ r) some starts all =
    let w = b ∷ r in
    rw (letter_read b r (starts_letter (class_of b) starts), all, take-length w, eq-eqb (0 + length w) (length w) (omega arith))
    (simp and-true)

pub part_word : (n : List ℕ) → 0 < length n → starts_name (class_of (get_or n 0 0)) ≡ true → (span name_byte n ≡ length n → ⊥)
    → well_formed n ≡ false
unfolding well_formed
part_word [] some starts part = absurd (omega arith)
part_word (b ∷ r) some starts part =
    let used = 0 + span name_byte (b ∷ r) in
    rw (letter_read b r (starts_letter (class_of b) starts), ne_eqb used (length (b ∷ r)) (λ e. part (omega arith)), and-false)

-- where no letter stands first, there is a blank, or a token that is no name
pub no_letter_first : (n : List ℕ) → 0 < length n → starts_name (class_of (get_or n 0 0)) ≡ false → well_formed n ≡ false
unfolding well_formed
no_letter_first [] some other = absurd (omega arith)
no_letter_first (b ∷ r) some other = go (blank_byte b) refl
  where
    go : (t : Bool) → blank_byte b ≡ t → well_formed (b ∷ r) ≡ false
    go true e =
        let counted = span_counts blank_byte b r e in
        rw (ne_eqb (next_token (b ∷ r)).start 0 (λ z. omega (arith, start_is_blanks (b ∷ r))), and-false)
    go false e =
        let no-blank : 0 ≡ span blank_byte (b ∷ r) = sym (span_ends blank_byte b r e) in
        let sign = way_sign (b ∷ r) 0 no-blank (b ∷ r) (class_of b) (sign_token (class_of b)) refl (omega arith) refl
        other refl in
        rw (← sign, sign_no_name (class_of b))

pub nothing_there : (n : List ℕ) → length n ≡ 0 → well_formed n ≡ false
unfolding well_formed next_token token_from span
nothing_there [] none = refl
nothing_there (b ∷ r) none = absurd (omega arith)

-- a word that stands alone: a letter, and bytes of a name
word_alone : (b : ℕ) (r : List ℕ) (n : ℕ) → class_of b ≡ Letter → span name_byte r ≡ length r → word_token (b ∷ r) ≡ Name n
    → well_formed (b ∷ r) ≡ true
word_alone b r n starts all word =
    let counted : span name_byte (b ∷ r) ≡ length (b ∷ r) = rw (span_counts name_byte b r (rw starts), all) in
    whole_word (b ∷ r) (omega arith) (rw starts) counted ∙ ap is_name word

-- so is one that stands in front
word_in_front : (b : ℕ) (s : List ℕ) (n : ℕ) → class_of b ≡ Letter → word_token (take (span name_byte (b ∷ s)) (b ∷ s)) ≡ Name n
    → well_formed (take (span name_byte (b ∷ s)) (b ∷ s)) ≡ true
word_in_front b s n starts word =
    let m = span name_byte s in
    let counted : span name_byte (b ∷ s) ≡ suc m = span_counts name_byte b s (rw starts) in
    let all : span name_byte (take m s) ≡ length (take m s) = rw (span_of_run name_byte s, length-take-le m s (span_within name_byte s)) in
    rw counted (word_alone b (take m s) n starts all (rw counted at word))

-- a name behind k blanks is such a word
name_is_word : (k : ℕ) (left : List ℕ) (n : ℕ) → (token_from k left).token ≡ Name n
    → ((token_from k left).used ≡ k + span name_byte left) × (well_formed (take (span name_byte left) left) ≡ true)
unfolding token_from
name_is_word k [] n e = let z : ◌≡◌ {A = ℕ} 0 1 = cc in absurd (omega arith)
name_is_word k (b ∷ s) n e = go (starts_name (class_of b)) refl
  where
    go : (t : Bool) → starts_name (class_of b) ≡ t
        → ((token_from k (b ∷ s)).used ≡ k + span name_byte (b ∷ s)) × (well_formed (take (span name_byte (b ∷ s)) (b ∷ s)) ≡ true)
    go true q = (rw q, word_in_front b s n (starts_letter (class_of b) q) (rw q at e))
    go false q = absurd (false≢true (sym (sign_no_name (class_of b)) ∙ ap is_name (rw q at e)))

pub name_well_formed : (s : List ℕ) (n : ℕ) → (next_token s).token ≡ Name n → well_formed (take n (drop (next_token s).start s)) ≡ true
unfolding next_token
name_well_formed s n e =
    let k = span blank_byte s in
    let (reach, formed) = name_is_word k (drop k s) n e in
    let same : n ≡ span name_byte (drop k s) = omega (arith, reach, start_is_blanks s, (name_reaches s n e).reach) in
    rw (start_is_blanks s, same) formed
