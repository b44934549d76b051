-- Decimal digits: what is printed of a number is its last digit, behind what is printed of its tenth; read again, it is the number.
use mathlib.Core.Path.{◌≡◌, refl, sym, ap, ◌∙◌}
use mathlib.Core.Bool.{Bool, true, false, ◌&&◌, false≢true}
use mathlib.Core.List.{List, [], ◌∷◌, ◌++◌, nil≢cons}
use mathlib.Core.Logic.{⊎_elim}
use Prim.Native.Nat.{ℕ, zero, suc, ◌+◌, ◌*◌, ◌-◌, ◌/◌, ◌%◌, ◌≤◌, ◌<◌}
use native.Mathlib.Omega.{arith}
use borrow.Author.Tests.{lt-ltb, le-ltb, ltb-true, ltb-false, le-leb}
use lib.Dec.{ltb}
use lib.ListN.{length, length-append}
use Rattle.meaning.proofs.SetLaws.{below_or_not}
use Rattle.text.specs.Classes.{is_digit}
use Rattle.wording.specs.Orders.{all_digits, value_from}
use Rattle.wording.specs.Promises.{Decimal, DecimalRight}
use Rattle.wording.specs.Writing.{digit_of, digits_in, decimal}

one_digit : (k n : ℕ) → n < 10 → digits_in (suc k) n ≡ digit_of n ∷ []
unfolding digits_in
one_digit k n h = rw (lt-ltb n 10 h) refl

more_digits : (k n : ℕ) → 10 ≤ n → digits_in (suc k) n ≡ digits_in k (n / 10) ++ digit_of (n % 10) ∷ []
unfolding digits_in
more_digits k n h = rw (le-ltb n 10 h) refl

-- the first number only has to be large enough
digits_enough : (k k' n : ℕ) → n < k → n < k' → digits_in k n ≡ digits_in k' n
digits_enough zero k' n h h' = absurd (omega (arith, h))
digits_enough (suc k) zero n h h' = absurd (omega (arith, h'))
digits_enough (suc k) (suc k') n h h' = go (ltb n 10) refl (λ small. digits_enough k k' (n / 10) (omega (arith, h, small)) (omega (arith, h', small)))
  where
    go : (b : Bool) → ltb n 10 ≡ b → (10 ≤ n → digits_in k (n / 10) ≡ digits_in k' (n / 10))
        → digits_in (suc k) n ≡ digits_in (suc k') n
    go true e rest = one_digit k n (ltb-true n 10 e) ∙ sym (one_digit k' n (ltb-true n 10 e))
    go false e rest =
        let large = ltb-false n 10 e in
        more_digits k n large ∙ ap (λ s. s ++ digit_of (n % 10) ∷ []) (rest large) ∙ sym (more_digits k' n large)

pub decimal_one : (n : ℕ) → n < 10 → decimal n ≡ digit_of n ∷ []
unfolding decimal
decimal_one n h = one_digit n n h

pub decimal_more : (n : ℕ) → 10 ≤ n → decimal n ≡ decimal (n / 10) ++ digit_of (n % 10) ∷ []
unfolding decimal
decimal_more n h =
    more_digits n n h
    ∙ ap (λ s. s ++ digit_of (n % 10) ∷ []) (digits_enough n (suc (n / 10)) (n / 10) (omega (arith, h)) (omega arith))

-- ---- read again
first_or : ℕ → List ℕ → ℕ
first_or d [] = d
first_or d (b ∷ s) = b

all_more : (s : List ℕ) (d : ℕ) → all_digits s ≡ true → is_digit d ≡ true → all_digits (s ++ d ∷ []) ≡ true
unfolding all_digits
all_more [] d a e = rw e refl
all_more (b ∷ s) d a e = go (is_digit b) refl a (all_more s d)
  where
    go : (t : Bool) → is_digit b ≡ t → (t && all_digits s) ≡ true → (all_digits s ≡ true → is_digit d ≡ true → all_digits (s ++ d ∷ []) ≡ true)
        → all_digits ((b ∷ s) ++ d ∷ []) ≡ true
    go true p h rest = rw p (rest h e)
    go false p h rest = absurd (false≢true h)

value_more : (v : ℕ) (s : List ℕ) (d : ℕ) → value_from v (s ++ d ∷ []) ≡ value_from v s * 10 + (d - 48)
unfolding value_from
value_more v [] d = refl
value_more v (b ∷ s) d = value_more (v * 10 + (b - 48)) s d

digit_is : (n : ℕ) → n < 10 → is_digit (digit_of n) ≡ true
digit_is n h = rw (le-leb 48 (48 + n) (omega arith), le-leb (48 + n) 57 (omega (arith, h))) refl

-- the front of what is printed of a number with more digits is what is printed of its tenth
starts_with : (s t u : List ℕ) (d : ℕ) → s ++ t ≡ d ∷ u → (s ≡ [] → ⊥) → (r : List ℕ) × (s ≡ d ∷ r)
unfolding first_or
starts_with [] t u d e h = absurd (h refl)
starts_with (b ∷ s) t u d e h = (s, ap (λ x. x ∷ s) (ap (first_or 0) e))

printed_some : (n : ℕ) → decimal n ≡ [] → ⊥
printed_some n e = ⊎_elim
    (λ small. nil≢cons (sym e ∙ decimal_one n small))
    (λ large. let none = ap length e in let all = ap length (decimal_more n large) in
    let both = length-append (decimal (n / 10)) (digit_of (n % 10) ∷ []) in absurd (omega (arith, none, all, both)))
    (below_or_not n 10)

-- by the number of digits, which a bound on n bounds
right_below : (k n : ℕ) → n < k → Decimal n
unfolding first_or value_from all_digits
right_below zero n h = absurd (omega (arith, h))
right_below (suc k) n h = ⊎_elim
    (λ small.
    record {
      digits = rw (decimal_one n small, digit_is n small) refl;
      reads = rw (decimal_one n small) (omega arith);
      no_leading_zero = λ s e. let first = ap (first_or 0) (sym (decimal_one n small) ∙ e) in omega (arith, first);
    })
    (λ large.
    let tenth = right_below k (n / 10) (omega (arith, h, large)) in
    let value = tenth.reads in
    let last : n % 10 < 10 = omega arith in
    record {
      digits = rw (decimal_more n large) (all_more (decimal (n / 10)) _ tenth.digits (digit_is (n % 10) last));
      reads = rw (decimal_more n large, value_more 0 (decimal (n / 10)) (digit_of (n % 10)), value) (omega (arith, last));
      no_leading_zero = λ s e.
          let (r, front) = starts_with (decimal (n / 10)) _ s 48 (sym (decimal_more n large) ∙ e) (printed_some (n / 10)) in
          let none = tenth.no_leading_zero r front in
          absurd (omega (arith, none, large));
    })
    (below_or_not n 10)

pub decimal_right : DecimalRight
decimal_right n = right_below (suc n) n (omega arith)
