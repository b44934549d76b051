-- The three ways through `next`, over lists: what is left behind k blanks is empty, starts with a letter, or starts with
-- another byte. Each says that what `next` puts together is `next_token`.
use mathlib.Core.Path.{◌≡◌, refl}
use Rattle.std.proofs.Common.{rules}
use Rattle.std.specs.Prelude.{Option, Some, None, slice_get}
use mathlib.Core.List.{List, [], ◌∷◌}
use Prim.Native.Nat.{ℕ, ◌+◌, ◌<◌}
use native.Mathlib.Omega.{arith}
use mathlib.Core.Bool.{false}
use borrow.Author.Tests.{lt-ltb}
use lib.ListN.{length, take, drop, get_or}
use Rattle.text.specs.Classes.{class_of, starts_name}
use Rattle.text.specs.declared.classes.Class.{Class}
use Rattle.text.specs.declared.classes.Class.TheVariants.{Bad as BadByte, Blank, Letter, Digit, Semicolon as SemicolonSign, Plus as PlusSign, Asterisk, Open as OpenSign, Close as CloseSign}
use Rattle.text.specs.Tokens.{span, blank_byte, name_byte, path_word, end_word, same_name, word_token, sign_token, token_from, next_token}
use Rattle.text.specs.declared.tokens.Token.{Token}
use Rattle.text.specs.declared.tokens.Token.TheVariants.{TextEnd, Long}
use Rattle.text.specs.declared.tokens.Read.{Read}

module _ (s : List ℕ) (k : ℕ) (blanks : k ≡ span blank_byte s) where
  behind_blanks : (rest : List ℕ) → rest ≡ drop k s → token_from k rest ≡ next_token s
  unfolding next_token
  behind_blanks rest e = rw (← blanks, ← e)

  pub way_nothing : (rest : List ℕ) → rest ≡ drop k s → length rest ≡ 0
      → ◌≡◌ {A = Read} (record { token = TextEnd; start = k; used = k }) (next_token s)
  unfolding token_from
  way_nothing [] e h = behind_blanks [] e
  way_nothing (b ∷ r) e h = absurd (omega arith)

  pub way_word : (rest : List ℕ) (c : Class) (n : ℕ) (t : Token) → rest ≡ drop k s → 0 < length rest → c ≡ class_of (get_or rest 0 0)
      → c ≡ Letter → n ≡ span name_byte rest → t ≡ word_token (take n rest)
      → ◌≡◌ {A = Read} (record { token = t; start = k; used = k + n }) (next_token s)
  unfolding token_from
  way_word [] c n t e h class is-letter counted word = absurd (omega arith)
  way_word (b ∷ r) c n t e h class is-letter counted word =
      rw (← (behind_blanks (b ∷ r) e), ← class, is-letter, ← counted, word)

  pub way_sign : (rest : List ℕ) (c : Class) (t : Token) → rest ≡ drop k s → 0 < length rest → c ≡ class_of (get_or rest 0 0)
      → starts_name c ≡ false → t ≡ sign_token c
      → ◌≡◌ {A = Read} (record { token = t; start = k; used = k + 1 }) (next_token s)
  unfolding token_from
  way_sign [] c t e h class no-letter sign = absurd (omega arith)
  way_sign (b ∷ r) c t e h class no-letter sign =
      rw (← (behind_blanks (b ∷ r) e), ← class, no-letter, sign)

-- a run of letters and digits that is no keyword, and above 16 bytes
pub word_too_long : (w : List ℕ) → same_name w path_word ≡ false → same_name w end_word ≡ false → 16 < length w → Long ≡ word_token w
unfolding word_token
word_too_long w no_path no_end long = simp (no_path, no_end, lt-ltb 16 (length w) long)

-- the first byte of a list, or that it has none, from what `first` answers
pub first_byte : (s : List ℕ) (b : ℕ) → Some b ≡ slice_get s 0 → (0 < length s) × (b ≡ get_or s 0 0)
first_byte [] b e = search rules
first_byte (x ∷ s) b e = (omega arith, search rules)

pub no_first_byte : (s : List ℕ) → ◌≡◌ {A = Option ℕ} None (slice_get s 0) → length s ≡ 0
no_first_byte [] e = refl
no_first_byte (x ∷ s) e = search rules

-- a class that is none of a letter
pub no_letter : (c : Class) → (c ≡ Letter → ⊥) → starts_name c ≡ false
no_letter Letter h = absurd (h refl)
no_letter BadByte h = refl
no_letter Blank h = refl
no_letter Digit h = refl
no_letter SemicolonSign h = refl
no_letter PlusSign h = refl
no_letter Asterisk h = refl
no_letter OpenSign h = refl
no_letter CloseSign h = refl
