-- The fields of a line, by where its first space is; and the call that they are.
use mathlib.Core.Path.{◌≡◌, refl, sym, ap, subst, ◌∙◌}
use mathlib.Core.Bool.{Bool, true, false, ◌&&◌, false≢true, and-false}
use mathlib.Core.List.{List, [], ◌∷◌}
use mathlib.Core.Option.{some, none}
use Prim.Native.Nat.{ℕ, suc, ◌+◌, ◌≤◌, ◌<◌}
use native.Mathlib.Numerals.{add-one}
use native.Mathlib.Omega.{arith}
use borrow.Author.Tests.{eqb-true, ltb-true, ltb-false}
use lib.Dec.{eqb, ltb, leb}
use lib.ListN.{length, take, drop}
use Rattle.meaning.specs.Names.{same}
use Rattle.meaning.specs.Calls.Call.{ask}
use Rattle.text.specs.Classes.{is_digit}
use Rattle.text.specs.Tokens.{span}
use Rattle.wording.specs.Lines.{space, before, fields_of}
use Rattle.wording.specs.Orders.{ask_word, finish_word, withdraw_word, all_digits, is_number, value_of, is_not_empty, call_in}
use Rattle.wording.specs.Orders.{two_fields, three_fields, number_in, two_read, three_read, call_read, name_start, ReadsAs}
use Rattle.std.specs.Prelude.{Option as Maybe, Some, None}
use Rattle.standing.specs.declared.numbers.Terminal.{Terminal}
use Rattle.wording.proofs.Numbers.{digit_range}

-- no space: one field
pub one_field : (s : List ℕ) → length s ≤ before space s → fields_of s ≡ s ∷ []
unfolding span fields_of
one_field [] h = refl
one_field (b ∷ s) h = go (eqb b space) refl (one_field s)
  where
    go : (t : Bool) → eqb b space ≡ t → (length s ≤ before space s → fields_of s ≡ s ∷ [])
        → fields_of (b ∷ s) ≡ (b ∷ s) ∷ []
    go true e rest = absurd (omega (arith, rw e at h))
    go false e rest = rw (e, rest (omega (arith, rw e at h))) refl

-- a space: the bytes before it, and the fields of those behind it
pub more_fields : (s : List ℕ) → before space s < length s
    → fields_of s ≡ take (before space s) s ∷ fields_of (drop (before space s + 1) s)
unfolding span fields_of
more_fields [] h = absurd (omega (arith, h))
more_fields (b ∷ s) h = go (eqb b space) refl (more_fields s)
  where
    go : (t : Bool) → eqb b space ≡ t
        → (before space s < length s → fields_of s ≡ take (before space s) s ∷ fields_of (drop (before space s + 1) s))
        → fields_of (b ∷ s) ≡ take (before space (b ∷ s)) (b ∷ s) ∷ fields_of (drop (before space (b ∷ s) + 1) (b ∷ s))
    go true e rest = rw e refl
    go false e rest = rw (e, rest (omega (arith, rw e at h)), add-one (before space s), add-one (suc (before space s))) refl

-- there is always a field
pub some_field : (s : List ℕ) → (w : List ℕ) × (ws : List (List ℕ)) × (fields_of s ≡ w ∷ ws)
unfolding fields_of
some_field [] = ([], [], refl)
some_field (b ∷ s) = go (eqb b space) refl (some_field s)
  where
    go : (t : Bool) → eqb b space ≡ t → (w : List ℕ) × (ws : List (List ℕ)) × (fields_of s ≡ w ∷ ws)
        → (w : List ℕ) × (ws : List (List ℕ)) × (fields_of (b ∷ s) ≡ w ∷ ws)
    go true e rest = ([], fields_of s, rw e refl)
    go false e (w, ws, is) = (b ∷ w, ws, rw (e, is) refl)

-- digits are no spaces
pub digits_no_space : (s : List ℕ) → all_digits s ≡ true → length s ≤ before space s
unfolding span all_digits
digits_no_space [] e = omega arith
digits_no_space (b ∷ s) e = go (is_digit b) (eqb b space) refl refl e (digits_no_space s)
  where
    go : (t u : Bool) → is_digit b ≡ t → eqb b space ≡ u → (t && all_digits s) ≡ true
        → (all_digits s ≡ true → length s ≤ before space s) → length (b ∷ s) ≤ before space (b ∷ s)
    go true true d p all rest =
        let range = digit_range b d in
        let is-space = eqb-true b space p in
        absurd (omega (arith, range.0, is-space))
    go true false d p all rest = rw p (let more = rest all in omega (arith, more))
    go false u d p all rest = absurd (false≢true all)

-- a number is all digits
pub number_digits : (s : List ℕ) → is_number s ≡ true → all_digits s ≡ true
unfolding is_number
number_digits s e = go (leb 1 (length s) && leb (length s) 3) (all_digits s) refl e
  where
    go : (t u : Bool) → all_digits s ≡ u → (t && u) ≡ true → all_digits s ≡ true
    go t true d h = d
    go true false d h = absurd (false≢true h)
    go false false d h = absurd (false≢true h)

space_no_number : (s : List ℕ) → before space s < length s → is_number s ≡ false
unfolding is_number
space_no_number s h = go (all_digits s) refl
  where
    go : (t : Bool) → all_digits s ≡ t → is_number s ≡ false
    go true e = let none = digits_no_space s e in absurd (omega (arith, none, h))
    go false e = rw e (and-false (leb 1 (length s) && leb (length s) 3))

number_none : (s : List ℕ) → is_number s ≡ false → number_in s ≡ None
unfolding number_in
number_none s e = rw e refl

number_of : (s : List ℕ) → is_number s ≡ true → number_in s ≡ Some (record { 0 = value_of s })
unfolding number_in
number_of s e = rw e refl

-- ---- two fields
module _ (line word : List ℕ) where
  -- of a word that is not `ask`, and one field behind it
  two_read_told : (s : List ℕ) → call_read line (two_read word (number_in s)) ≡ two_fields word s
  unfolding two_fields
  two_read_told s = go (is_number s) (same word finish_word) (same word withdraw_word) refl refl refl
    where
      go : (t u v : Bool) → is_number s ≡ t → same word finish_word ≡ u → same word withdraw_word ≡ v
          → call_read line (two_read word (number_in s)) ≡ two_fields word s
      go true true v e f w = rw (number_of s e, e, f) refl
      go true false true e f w = rw (number_of s e, e, f, w) refl
      go true false false e f w = rw (number_of s e, e, f, w) refl
      go false u v e f w = rw (number_none s e, e) refl

  two_start : (n : Maybe Terminal) → name_start (two_read word n) ≡ 0
  two_start None = refl
  two_start (Some t) = go (same word finish_word) (same word withdraw_word) refl refl
    where
      go : (u v : Bool) → same word finish_word ≡ u → same word withdraw_word ≡ v → name_start (two_read word (Some t)) ≡ 0
      go true v f w = rw f refl
      go false true f w = rw (f, w) refl
      go false false f w = rw (f, w) refl

  -- three or more, of a word that is not `ask`
  no_call : same word ask_word ≡ false → (a b : List ℕ) (more : List (List ℕ)) → call_in (word ∷ a ∷ b ∷ more) ≡ none
  unfolding three_fields
  no_call other a b [] = rw other refl
  no_call other a b (c ∷ more) = refl

  -- what is read of a word that is not `ask`, and of what stands behind it
  pub reads_two : same word ask_word ≡ false → (s : List ℕ) → ReadsAs line (word ∷ fields_of s) (two_read word (number_in s))
  reads_two other s = go (ltb (before space s) (length s)) refl
    where
      go : (t : Bool) → ltb (before space s) (length s) ≡ t → ReadsAs line (word ∷ fields_of s) (two_read word (number_in s))
      go false e =
          record {
            call = two_read_told s ∙ sym (ap (λ fs. call_in (word ∷ fs)) (one_field s (ltb-false _ _ e)));
            within = rw (two_start (number_in s)) (omega arith);
          }
      go true e =
          let inside = ltb-true _ _ e in
          let (w, ws, is) = some_field (drop (before space s + 1) s) in
          record {
            call =
                ap (λ n. call_read line (two_read word n)) (number_none s (space_no_number s inside))
                ∙ sym (no_call other (take (before space s) s) w ws)
                ∙ sym (ap (λ fs. call_in (word ∷ fs)) (more_fields s inside ∙ ap (λ fs. take (before space s) s ∷ fs) is));
            within = rw (two_start (number_in s)) (omega arith);
          }

-- ---- an ask
unreadable : (line : List ℕ) (fields : List (List ℕ)) → call_in fields ≡ none → ReadsAs line fields None
unreadable line fields e = record { call = sym e; within = omega arith }

pub no_second_field : (line : List ℕ) → length line ≤ before space line → ReadsAs line (fields_of line) None
no_second_field line h = unreadable line (fields_of line) (ap call_in (one_field line h))

holds_byte : (s : List ℕ) → (s ≡ [] → ⊥) → is_not_empty s ≡ true
holds_byte [] h = absurd (h refl)
holds_byte (b ∷ s) h = refl

three_asks : (t name : List ℕ) → is_number t ≡ true → is_not_empty name ≡ true
    → three_fields ask_word t name ≡ some (ask (value_of t) name)
unfolding same three_fields
three_asks t name e f = rw (e, f) refl

three_none : (t name : List ℕ) → is_number t ≡ false → three_fields ask_word t name ≡ none
unfolding same three_fields
three_none t name e = rw e refl

module _ (line s : List ℕ) where
  pub ask_without_name : length s ≤ before space s → ReadsAs line (ask_word ∷ fields_of s) None
  unfolding same two_fields
  ask_without_name h = unreadable line _ (ap (λ fs. call_in (ask_word ∷ fs)) (one_field s h) ∙ go (is_number s) refl)
    where
      go : (t : Bool) → is_number s ≡ t → two_fields ask_word s ≡ none
      go true e = rw e refl
      go false e = rw e refl

  module _ (h : before space s < length s) where
    abbrev t : List ℕ
    t = take (before space s) s

    abbrev name : List ℕ
    name = drop (before space s + 1) s

    in_three : (fs : List (List ℕ)) → fields_of name ≡ fs → call_in (ask_word ∷ fields_of s) ≡ call_in (ask_word ∷ t ∷ fs)
    in_three fs e = ap (λ gs. call_in (ask_word ∷ gs)) (more_fields s h ∙ ap (λ gs. t ∷ gs) e)

    pub ask_for_nothing : name ≡ [] → ReadsAs line (ask_word ∷ fields_of s) None
    unfolding three_fields fields_of
    ask_for_nothing e = unreadable line _ (in_three ([] ∷ []) (rw e refl) ∙ rw (and-false (same ask_word ask_word && is_number t)) refl)

    pub ask_for_more : before space name < length name → ReadsAs line (ask_word ∷ fields_of s) None
    ask_for_more g =
        let (w, ws, is) = some_field (drop (before space name + 1) name) in
        unreadable line _ (in_three _ (more_fields name g ∙ ap (λ gs. take (before space name) name ∷ gs) is))

    pub asks : (from : ℕ) → length name ≤ before space name → (name ≡ [] → ⊥) → drop from line ≡ name → from ≤ length line
        → ReadsAs line (ask_word ∷ fields_of s) (three_read (number_in t) from)
    asks from one Filled-in at fits = go (is_number t) refl
      where
        filled : is_not_empty name ≡ true
        filled = holds_byte name Filled-in

        go : (b : Bool) → is_number t ≡ b → ReadsAs line (ask_word ∷ fields_of s) (three_read (number_in t) from)
        go true e =
            record {
              call = rw (number_of t e, at) (sym (in_three (name ∷ []) (one_field name one) ∙ three_asks t name e filled));
              within = rw (number_of t e) fits;
            }
        go false e = subst (λ n. ReadsAs line (ask_word ∷ fields_of s) (three_read n from)) (sym (number_none t e))
            (unreadable line _ (in_three (name ∷ []) (one_field name one) ∙ three_none t name e))
