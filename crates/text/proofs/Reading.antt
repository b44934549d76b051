-- What a caller needs to know of `next_token`: where its token starts, how far it reaches, and that it moves on unless the text
-- ends. The idea: behind the blanks stands nothing, or a token that takes one byte or more (`Moved`); each fact follows from that.
use mathlib.Core.Path.{◌≡◌, refl, ap, subst}
use mathlib.Core.Bool.{Bool, true, false, cond, false≢true}
use mathlib.Core.List.{List, [], ◌∷◌}
use Prim.Native.Nat.{ℕ, suc, ◌+◌, ◌≤◌, ◌<◌}
use native.Mathlib.Omega.{arith}
use borrow.Author.Tests.{ltb-false}
use lib.Dec.{ltb}
use lib.ListN.{length, take, drop, length-drop}
use lib.Seq.{length-take-le}
use Rattle.text.specs.Classes.{class_of, starts_name}
use Rattle.text.specs.declared.classes.Class.{Class}
use Rattle.text.specs.declared.classes.Class.TheVariants.{Bad as BadByte, Blank, Letter, Digit, Semicolon as SemicolonSign, Plus as PlusSign, Asterisk, Open as OpenSign, Close as CloseSign}
use Rattle.text.specs.Tokens.{span, blank_byte, name_byte, path_word, end_word, same_name, word_token, sign_token, token_from, next_token}
use Rattle.text.specs.declared.tokens.Token.{Token}
use Rattle.text.specs.declared.tokens.Token.TheVariants.{Semicolon, Plus, Star, Open, Close, Path, End, Name, TextEnd, Bad, Long}
use Rattle.text.specs.declared.tokens.Read.{Read}
use Rattle.text.proofs.Spans.{span_counts, span_within}

-- what a token that takes m bytes may be: no end of the text, and a name only of m bytes, at most 16
abbrev Takes : ℕ → Token → Type 0
Takes m Semicolon = Unit {0}
Takes m Plus = Unit {0}
Takes m Star = Unit {0}
Takes m Open = Unit {0}
Takes m Close = Unit {0}
Takes m Path = Unit {0}
Takes m End = Unit {0}
Takes m (Name n) = (n ≡ m) × (n ≤ 16)
Takes m TextEnd = ⊥
Takes m Bad = Unit {0}
Takes m Long = Unit {0}

-- a choice by a test has what both its sides have, each where the test says so
pub choice_has : {A : Type 0} (P : A → Type 0) (t : Bool) {x y : A} → (t ≡ true → P x) → (t ≡ false → P y) → P (cond t x y)
choice_has P true f g = f refl
choice_has P false f g = g refl

-- a sign is one of five, or none
pub sign_has : (P : Token → Type 0) → P Semicolon → P Plus → P Star → P Open → P Close → P Bad → (c : Class) → P (sign_token c)
sign_has P a b d e f g SemicolonSign = a
sign_has P a b d e f g PlusSign = b
sign_has P a b d e f g Asterisk = d
sign_has P a b d e f g OpenSign = e
sign_has P a b d e f g CloseSign = f
sign_has P a b d e f g BadByte = g
sign_has P a b d e f g Blank = g
sign_has P a b d e f g Letter = g
sign_has P a b d e f g Digit = g

-- what starts a name is a letter, and goes on with one
pub starts_letter : (c : Class) → starts_name c ≡ true → c ≡ Letter
starts_letter Letter e = refl
starts_letter BadByte e = absurd (false≢true e)
starts_letter Blank e = absurd (false≢true e)
starts_letter Digit e = absurd (false≢true e)
starts_letter SemicolonSign e = absurd (false≢true e)
starts_letter PlusSign e = absurd (false≢true e)
starts_letter Asterisk e = absurd (false≢true e)
starts_letter OpenSign e = absurd (false≢true e)
starts_letter CloseSign e = absurd (false≢true e)

word_takes : (w : List ℕ) → Takes (length w) (word_token w)
unfolding word_token
word_takes w =
    choice_has (Takes (length w)) (same_name w path_word) (λ _. tt) λ _.
    choice_has (Takes (length w)) (same_name w end_word) (λ _. tt) λ _.
    choice_has (Takes (length w)) (ltb 16 (length w)) (λ _. tt) (λ short. (refl, ltb-false 16 (length w) short))

-- a token behind k blanks that takes some of the bytes left
record Moved (k : ℕ) (left : List ℕ) (r : Read) : Type 0 where
  bytes : ℕ
  some : 1 ≤ bytes
  within : bytes ≤ length left
  place : r.start ≡ k
  reach : r.used ≡ k + bytes
  takes : Takes bytes r.token

letter_counts : (b : ℕ) (s : List ℕ) → starts_name (class_of b) ≡ true → 1 ≤ span name_byte (b ∷ s)
letter_counts b s e =
    let counted : span name_byte (b ∷ s) ≡ suc (span name_byte s) = span_counts name_byte b s (rw (starts_letter (class_of b) e)) in
    omega arith

from_moved : (k b : ℕ) (s : List ℕ) → Moved k (b ∷ s) (token_from k (b ∷ s))
unfolding token_from
from_moved k b s =
    let n = span name_byte (b ∷ s) in
    let fits = span_within name_byte (b ∷ s) in
    choice_has (Moved k (b ∷ s)) (starts_name (class_of b))
    (λ e.
    record {
      bytes = n;
      some = letter_counts b s e;
      within = fits;
      place = refl;
      reach = refl;
      takes = rw (length-take-le n (b ∷ s) fits) at (word_takes (take n (b ∷ s)));
    })
    (λ e. record { bytes = 1; some = omega arith; within = omega arith; place = refl; reach = refl; takes = sign_has (Takes 1) tt tt tt tt tt tt (class_of b) })

-- what it means that a token read is a name of n bytes
pub record Named (r : Read) (n : ℕ) : Type 0 where
  pub reach : r.used ≡ r.start + n
  pub some : 1 ≤ n
  pub short : n ≤ 16

moved_named : (k : ℕ) (left : List ℕ) (r : Read) (n : ℕ) → Moved k left r → r.token ≡ Name n → Named r n
moved_named k left r n m e =
    let name : Takes m.bytes (Name n) = subst (Takes m.bytes) e m.takes in
    record { reach = rw (m.place, m.reach, name.0); some = rw name.0 m.some; short = name.1 }

moved_not_ended : (k : ℕ) (left : List ℕ) (r : Read) → Moved k left r → r.token ≡ TextEnd → ⊥
moved_not_ended k left r m e = subst (Takes m.bytes) e m.takes

from_start : (k : ℕ) (left : List ℕ) → (token_from k left).start ≡ k
unfolding token_from
from_start k [] = refl
from_start k (b ∷ s) = (from_moved k b s).place

from_forward : (k : ℕ) (left : List ℕ) → (token_from k left).start ≤ (token_from k left).used
unfolding token_from
from_forward k [] = omega arith
from_forward k (b ∷ s) = let m = from_moved k b s in omega arith

from_within : (k : ℕ) (left : List ℕ) → (token_from k left).used ≤ k + length left
unfolding token_from
from_within k [] = omega arith
from_within k (b ∷ s) = let m = from_moved k b s in omega arith

from_moves : (k : ℕ) (left : List ℕ) → ((token_from k left).token ≡ TextEnd → ⊥) → (token_from k left).start < (token_from k left).used
unfolding token_from
from_moves k [] h = absurd (h refl)
from_moves k (b ∷ s) h = let m = from_moved k b s in omega arith

from_ends : (k : ℕ) (left : List ℕ) → (token_from k left).token ≡ TextEnd → left ≡ []
from_ends k [] e = refl
from_ends k (b ∷ s) e = absurd (moved_not_ended k (b ∷ s) (token_from k (b ∷ s)) (from_moved k b s) e)

from_named : (k : ℕ) (left : List ℕ) (n : ℕ) → (token_from k left).token ≡ Name n → Named (token_from k left) n
unfolding token_from
from_named k [] n e = let never : ◌≡◌ {A = ℕ} 0 1 = cc in absurd (omega arith)
from_named k (b ∷ s) n e = moved_named k (b ∷ s) (token_from k (b ∷ s)) n (from_moved k b s) e

-- of the text itself: k is the number of its blanks, and what is left is all behind them
module _ (s : List ℕ) where
  pub start_is_blanks : (next_token s).start ≡ span blank_byte s
  unfolding next_token
  start_is_blanks = from_start (span blank_byte s) (drop (span blank_byte s) s)

  pub start_within_used : (next_token s).start ≤ (next_token s).used
  unfolding next_token
  start_within_used = from_forward (span blank_byte s) (drop (span blank_byte s) s)

  pub used_within_text : (next_token s).used ≤ length s
  unfolding next_token
  used_within_text =
      let k = span blank_byte s in
      omega (arith, from_within k (drop k s), length-drop k s, span_within blank_byte s)

  pub token_moves_on : ((next_token s).token ≡ TextEnd → ⊥) → (next_token s).start < (next_token s).used
  unfolding next_token
  token_moves_on h = from_moves (span blank_byte s) (drop (span blank_byte s) s) h

  -- nothing is left: the text is used up
  pub nothing_uses_all : (next_token s).token ≡ TextEnd → (next_token s).used ≡ length s
  unfolding next_token
  nothing_uses_all e =
      let k = span blank_byte s in
      let empty = ap length (from_ends k (drop k s) e) in
      omega (arith, length-drop k s, span_within blank_byte s, from_within k (drop k s), from_forward k (drop k s), from_start k (drop k s))

  -- and nothing but blanks was left
  pub end_starts_last : (next_token s).token ≡ TextEnd → (next_token s).start ≡ length s
  unfolding next_token
  end_starts_last e =
      let k = span blank_byte s in
      let empty = ap length (from_ends k (drop k s) e) in
      omega (arith, length-drop k s, span_within blank_byte s, from_start k (drop k s))

  pub name_reaches : (n : ℕ) → (next_token s).token ≡ Name n → Named (next_token s) n
  unfolding next_token
  name_reaches n e = from_named (span blank_byte s) (drop (span blank_byte s) s) n e
