-- The rule of a table, proved at all its entries by one test that antt computes: `agrees` goes through the table once and
-- compares each entry with the rule, and `entry_agrees` hands the outcome to each place.
use mathlib.Core.Path.{◌≡◌, refl, sym, ap, ◌∙◌}
use mathlib.Core.Bool.{Bool, true, cond, ◌&&◌, and-eq-true_iff}
use mathlib.Core.List.{List, [], ◌∷◌}
use Prim.Native.Nat.{ℕ, zero, suc, ◌+◌, ◌<◌}
use native.Mathlib.Nat.{le_of_suc-le-suc}
use native.Mathlib.Omega.{arith}
use borrow.Author.Tests.{eqb-true}
use lib.Dec.{eqb}
use lib.ListN.{length, get_or}
use Rattle.text.specs.declared.classes.Class.{Class}
use Rattle.text.specs.declared.classes.Class.TheVariants.{Bad, Blank, Letter, Digit, Semicolon, Plus, Asterisk, Open, Close}

-- the classes by number, and back, so that two can be compared
abbrev pub number : Class → ℕ
number Bad = 0
number Blank = 1
number Letter = 2
number Digit = 3
number Semicolon = 4
number Plus = 5
number Asterisk = 6
number Open = 7
number Close = 8

abbrev numbered : ℕ → Class
numbered n =
    cond (eqb n 0) Bad
    (cond (eqb n 1) Blank
    (cond (eqb n 2) Letter
    (cond (eqb n 3) Digit
    (cond (eqb n 4) Semicolon
    (cond (eqb n 5) Plus
    (cond (eqb n 6) Asterisk
    (cond (eqb n 7) Open Close)))))))

number_kept : (c : Class) → numbered (number c) ≡ c
number_kept Bad = refl
number_kept Blank = refl
number_kept Letter = refl
number_kept Digit = refl
number_kept Semicolon = refl
number_kept Plus = refl
number_kept Asterisk = refl
number_kept Open = refl
number_kept Close = refl

same_number : (c d : Class) → number c ≡ number d → c ≡ d
same_number c d e = sym (number_kept c) ∙ ap numbered e ∙ number_kept d

module _ (rule : ℕ → Class) where
  -- the entries are what the rule says, at places counted from i
  abbrev pub agrees : ℕ → List Class → Bool
  agrees i [] = true
  agrees i (x ∷ xs) = eqb (number x) (number (rule i)) && agrees (suc i) xs

  from_place : (i : ℕ) (xs : List Class) (k : ℕ) → k < length xs → agrees i xs ≡ true → get_or xs k Bad ≡ rule (i + k)
  from_place i [] k h e = absurd (omega arith)
  from_place i (x ∷ xs) zero h e =
      same_number x (rule i)
      (eqb-true (number x) (number (rule i)) ((and-eq-true_iff (eqb (number x) (number (rule i))) (agrees (suc i) xs)).0 e).0)
      ∙ ap rule (omega arith)
  from_place i (x ∷ xs) (suc k) h e =
      from_place (suc i) xs k (le_of_suc-le-suc h) ((and-eq-true_iff (eqb (number x) (number (rule i))) (agrees (suc i) xs)).0 e).1
      ∙ ap rule (omega arith)

  pub entry_agrees : (xs : List Class) (k : ℕ) → k < length xs → agrees 0 xs ≡ true → get_or xs k Bad ≡ rule k
  entry_agrees xs k h e = from_place 0 xs k h e ∙ ap rule (omega arith)
