-- How long lines, fields and numbers are: the lines of an input have its bytes and their LFs, a line that is a call has 7 bytes or more, and
-- a number below 100 has two digits at most.
use mathlib.Core.Path.{◌≡◌, refl, ap}
use mathlib.Core.Bool.{Bool, true, false, ◌&&◌, false≢true}
use mathlib.Core.List.{List, [], ◌∷◌}
use mathlib.Core.Logic.{⊎_elim}
use mathlib.Core.Option.{some, none-ne-some}
use Prim.Native.Nat.{ℕ, suc, ◌+◌, ◌/◌, ◌%◌, ◌≤◌, ◌<◌}
use native.Mathlib.Omega.{arith}
use borrow.Author.Tests.{leb-true}
use lib.Dec.{eqb, leb}
use lib.ListN.{length, length-append}
use Rattle.meaning.specs.Names.{same}
use Rattle.meaning.specs.Calls.{Call}
use Rattle.meaning.proofs.NameLaws.{same_equal}
use Rattle.meaning.proofs.SetLaws.{below_or_not}
use Rattle.wording.specs.Lines.{lf, space, onto, lines_of, fields_of, later_lines}
use Rattle.wording.specs.Orders.{ask_word, finish_word, withdraw_word, is_number, all_digits, two_fields, three_fields, call_in, call_of}
use Rattle.wording.specs.Writing.{digit_of, decimal}
use Rattle.wording.proofs.Digits.{decimal_one, decimal_more}

-- the bytes of some pieces, and one more for each
unfoldable pub sized : List (List ℕ) → ℕ
sized [] = 0
sized (p ∷ ps) = suc (length p) + sized ps

sized_onto : (b : ℕ) (ps : List (List ℕ)) → sized (onto b ps) ≤ suc (sized ps) + 1
unfolding sized
sized_onto b [] = omega arith
sized_onto b (p ∷ ps) = omega arith

lines_sized : (s : List ℕ) → sized (lines_of s) ≤ length s + 1
unfolding sized lines_of
lines_sized [] = omega arith
lines_sized (b ∷ []) = go (eqb b lf) refl
  where
    go : (t : Bool) → eqb b lf ≡ t → sized (lines_of (b ∷ [])) ≤ length (b ∷ []) + 1
    go true e = rw e (omega arith)
    go false e = rw e (omega arith)
lines_sized (b ∷ d ∷ s) = go (eqb b lf) refl (lines_sized (d ∷ s)) (some_line d s)
  where
    some_line : (d : ℕ) (s : List ℕ) → (p : List ℕ) × (ps : List (List ℕ)) × (lines_of (d ∷ s) ≡ p ∷ ps)
    some_line d s = by_first (eqb d lf) refl (lines_of s) refl
      where
        by_first : (t : Bool) → eqb d lf ≡ t → (ls : List (List ℕ)) → lines_of s ≡ ls
            → (p : List ℕ) × (ps : List (List ℕ)) × (lines_of (d ∷ s) ≡ p ∷ ps)
        by_first true e ls is = ([], lines_of s, rw e refl)
        by_first false e [] is = (d ∷ [], [], rw (e, is) refl)
        by_first false e (p ∷ ps) is = (d ∷ p, ps, rw (e, is) refl)

    go : (t : Bool) → eqb b lf ≡ t → sized (lines_of (d ∷ s)) ≤ length (d ∷ s) + 1
        → (p : List ℕ) × (ps : List (List ℕ)) × (lines_of (d ∷ s) ≡ p ∷ ps) → sized (lines_of (b ∷ d ∷ s)) ≤ length (b ∷ d ∷ s) + 1
    go true e most there = rw e (omega (arith, most))
    go false e most (p, ps, is) = let most' = rw is at most in rw (e, is) (omega (arith, most'))

-- the lines behind the first
pub later_sized : (input : List ℕ) → sized (later_lines input) ≤ length input
unfolding sized later_lines
later_sized input = go (lines_of input) refl
  where
    go : (ls : List (List ℕ)) → lines_of input ≡ ls → sized (later_lines input) ≤ length input
    go [] is = rw is (omega arith)
    go (p ∷ ps) is = let most = rw is at (lines_sized input) in rw is (omega (arith, most))

-- ---- the fields of a line
fields_sized : (s : List ℕ) → sized (fields_of s) ≡ length s + 1
unfolding sized fields_of
fields_sized [] = refl
fields_sized (b ∷ s) = go (eqb b space) refl (fields_of s) refl (fields_sized s)
  where
    go : (t : Bool) → eqb b space ≡ t → (fs : List (List ℕ)) → fields_of s ≡ fs → sized (fields_of s) ≡ length s + 1
        → sized (fields_of (b ∷ s)) ≡ length (b ∷ s) + 1
    go true e fs is all = rw e (omega (arith, all))
    go false e [] is all = let none : sized (fields_of s) ≡ 0 = rw is refl in absurd (omega (arith, all, none))
    go false e (f ∷ fs) is all = let all' = rw is at all in rw (e, is) (omega (arith, all'))

number_some : (t : List ℕ) → is_number t ≡ true → 1 ≤ length t
unfolding is_number
number_some t e = go (leb 1 (length t)) refl e
  where
    go : (b : Bool) → leb 1 (length t) ≡ b → (b && leb (length t) 3 && all_digits t) ≡ true → 1 ≤ length t
    go true p h = leb-true 1 (length t) p
    go false p h = absurd (false≢true h)

-- a word that is one of the three
word_long : (w v : List ℕ) → same w v ≡ true → length w ≡ length v
word_long w v e = ap length (same_equal w v e)

two_long : (w t : List ℕ) (c : Call) → two_fields w t ≡ some c → 8 ≤ length w + 1 + length t
unfolding two_fields
two_long w t c e = go (is_number t) (same w finish_word) (same w withdraw_word) refl refl refl e
  where
    go : (a f d : Bool) → is_number t ≡ a → same w finish_word ≡ f → same w withdraw_word ≡ d
        → two_fields w t ≡ some c → 8 ≤ length w + 1 + length t
    go false f d p q r h = absurd (none-ne-some c (rw p at h))
    go true true d p q r h =
        let digits = number_some t p in
        let letters = word_long w finish_word q in
        omega (arith, digits, letters)
    go true false true p q r h =
        let digits = number_some t p in
        let letters = word_long w withdraw_word r in
        omega (arith, digits, letters)
    go true false false p q r h = absurd (none-ne-some c (rw (p, q, r) at h))

three_long : (w t n : List ℕ) (c : Call) → three_fields w t n ≡ some c → 7 ≤ length w + 1 + length t + 1 + length n
unfolding three_fields
three_long w t n c e = go (same w ask_word) (is_number t) n refl refl e
  where
    go : (f a : Bool) (n : List ℕ) → same w ask_word ≡ f → is_number t ≡ a → three_fields w t n ≡ some c
        → 7 ≤ length w + 1 + length t + 1 + length n
    go false a n q p h = absurd (none-ne-some c (rw q at h))
    go true false n q p h = absurd (none-ne-some c (rw (q, p) at h))
    go true true [] q p h = absurd (none-ne-some c (rw (q, p) at h))
    go true true (b ∷ n) q p h =
        let digits = number_some t p in
        let letters = word_long w ask_word q in
        omega (arith, digits, letters)

-- a line that is a call
pub call_long : (line : List ℕ) (c : Call) → call_of line ≡ some c → 7 ≤ length line
unfolding sized call_of
call_long line c e = go (fields_of line) refl (fields_sized line) e
  where
    go : (fs : List (List ℕ)) → fields_of line ≡ fs → sized (fields_of line) ≡ length line + 1 → call_in (fields_of line) ≡ some c
        → 7 ≤ length line
    go [] is all h = absurd (none-ne-some c (rw is at h))
    go (w ∷ []) is all h = absurd (none-ne-some c (rw is at h))
    go (w ∷ t ∷ []) is all h =
        let all' = rw is at all in
        let long = two_long w t c (rw is at h) in
        omega (arith, all', long)
    go (w ∷ t ∷ n ∷ []) is all h =
        let all' = rw is at all in
        let long = three_long w t n c (rw is at h) in
        omega (arith, all', long)
    go (w ∷ t ∷ n ∷ m ∷ fs) is all h = absurd (none-ne-some c (rw is at h))

-- ---- digits: one, or one more than a tenth has
decimal_next : (n k : ℕ) → 1 ≤ k → (10 ≤ n → length (decimal (n / 10)) ≤ k) → length (decimal n) ≤ suc k
decimal_next n k more rest = ⊎_elim
    (λ small. rw (decimal_one n small) (omega arith))
    (λ large.
    let tenth = rest large in
    let both = length-append (decimal (n / 10)) (digit_of (n % 10) ∷ []) in
    rw (decimal_more n large) (omega (arith, tenth, both)))
    (below_or_not n 10)

one_digit : (n : ℕ) → n < 10 → length (decimal n) ≤ 1
one_digit n h = rw (decimal_one n h) (omega arith)

pub two_digits : (n : ℕ) → n < 100 → length (decimal n) ≤ 2
two_digits n h = decimal_next n 1 (omega arith) (λ large. one_digit (n / 10) (omega (arith, h)))

pub four_digits : (n : ℕ) → n < 10000 → length (decimal n) ≤ 4
four_digits n h =
    decimal_next n 3 (omega arith)
    (λ large. decimal_next (n / 10) 2 (omega arith) (λ larger. two_digits (n / 10 / 10) (omega (arith, h))))
