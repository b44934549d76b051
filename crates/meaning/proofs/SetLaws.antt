-- The laws of sets of positions: who is a member of the empty set, a single position, a union, what two sets share, and a
-- union of rows; sets with the same members are equal; a set is below 2 ^ k exactly if its members are below k; a set that is
-- not empty has a member. By induction on the bit, halving the set.
use mathlib.Core.Path.{◌≡◌, refl, sym, ap, ◌∙◌}
use mathlib.Core.Logic.{◌↔◌, ◌≢◌, ◌⊎◌, inl, inr, ⊎_elim}
use mathlib.Core.List.{List, [], ◌∷◌}
use mathlib.Core.Bool.{Bool, true, false, cond, not, ◌||◌, ◌&&◌, false≢true, and-eq-true_iff, true≢false, or_assoc}
use Prim.Native.Nat.{ℕ, zero, suc, ◌+◌, ◌*◌, ◌<◌, ◌≤◌, ◌/◌, ◌%◌, ◌^◌, min, max}
use native.Mathlib.Nat.{not-suc-le-zero, le_of_suc-le-suc, pow-suc, pow-zero}
use native.Mathlib.Omega.{arith}
use borrow.Author.Tests.{eqb-true, eqb-false, eq-eqb, ne_eqb, ltb-true, ltb-false, not-true}
use lib.ListN.{length, get_or}
use lib.Dec.{eqb, ltb, eqb-zero-suc, eqb-suc-zero, eqb-suc-suc}
use lib.Bits.{bit_or, bit_and, or_step, and_step}
use Rattle.meaning.specs.Sets.{mem, In, union_of}
use Rattle.meaning.specs.Promises.{LawsOfSets}

-- the empty set has no member
pub mem_none : (p : ℕ) → mem p 0 ≡ false
unfolding mem
mem_none zero = refl
mem_none (suc p) = mem_none p

pub none_in : {A : Type 0} (p : ℕ) → In p 0 → A
none_in p h = absurd (false≢true (sym (mem_none p) ∙ h))

half_double : (n : ℕ) → n * 2 / 2 ≡ n
half_double n = omega arith

double_even : (n : ℕ) → n * 2 % 2 ≡ 0
double_even n = omega arith

-- a single position is its own member, and no other is
pub mem_single : (p q : ℕ) → mem p (2 ^ q) ≡ eqb p q
unfolding mem
mem_single zero zero = refl
mem_single zero (suc q) = rw (pow-suc, double_even) (sym (eqb-zero-suc q))
mem_single (suc p) zero = mem_none p ∙ sym (eqb-suc-zero p)
mem_single (suc p) (suc q) = rw (pow-suc, half_double) (mem_single p q ∙ sym (eqb-suc-suc p q))

pub in_single : (p q : ℕ) → In p (2 ^ q) ↔ (p ≡ q)
in_single p q = (λ h. eqb-true p q (sym (mem_single p q) ∙ h), λ h. mem_single p q ∙ eq-eqb p q h)

-- what holds of each two digits 0 and 1
both_digits : (P : ℕ → ℕ → Type 0) → P 0 0 → P 0 1 → P 1 0 → P 1 1 → (a b : ℕ) → a < 2 → b < 2 → P a b
both_digits P at00 at01 at10 at11 zero zero h k = at00
both_digits P at00 at01 at10 at11 zero (suc zero) h k = at01
both_digits P at00 at01 at10 at11 (suc zero) zero h k = at10
both_digits P at00 at01 at10 at11 (suc zero) (suc zero) h k = at11
both_digits P at00 at01 at10 at11 zero (suc (suc b)) h k = absurd (omega arith)
both_digits P at00 at01 at10 at11 (suc zero) (suc (suc b)) h k = absurd (omega arith)
both_digits P at00 at01 at10 at11 (suc (suc a)) zero h k = absurd (omega arith)
both_digits P at00 at01 at10 at11 (suc (suc a)) (suc zero) h k = absurd (omega arith)
both_digits P at00 at01 at10 at11 (suc (suc a)) (suc (suc b)) h k = absurd (omega arith)

-- a number made of its half and its last digit
halved : (x y d : ℕ) → x ≡ y * 2 + d → d < 2 → (x / 2 ≡ y) × (x % 2 ≡ d)
halved x y d e h = (omega arith, omega arith)

-- unions, and what two sets share: a digit of the result is made of the digits, by f, as membership is, by g
module _ (set : ℕ → ℕ → ℕ) (f : ℕ → ℕ → ℕ) (g : Bool → Bool → Bool)
    (step : (a b : ℕ) → set a b ≡ set (a / 2) (b / 2) * 2 + f (a % 2) (b % 2))
    (digit : (a b : ℕ) → a < 2 → b < 2 → (f a b < 2) × (eqb (f a b) 1 ≡ g (eqb a 1) (eqb b 1))) where
  mem_digitwise : (p a b : ℕ) → mem p (set a b) ≡ g (mem p a) (mem p b)
  unfolding mem
  mem_digitwise zero a b =
      let d = digit (a % 2) (b % 2) (omega arith) (omega arith) in
      ap (λ (n : ℕ). eqb n 1) (halved (set a b) (set (a / 2) (b / 2)) (f (a % 2) (b % 2)) (step a b) d.0).1 ∙ d.1
  mem_digitwise (suc p) a b =
      let d = digit (a % 2) (b % 2) (omega arith) (omega arith) in
      ap (mem p) (halved (set a b) (set (a / 2) (b / 2)) (f (a % 2) (b % 2)) (step a b) d.0).0 ∙ mem_digitwise p (a / 2) (b / 2)

pub mem_union : (p a b : ℕ) → mem p (bit_or a b) ≡ mem p a || mem p b
mem_union =
    mem_digitwise bit_or max ◌||◌ or_step
    (both_digits (λ a b. (max a b < 2) × (eqb (max a b) 1 ≡ eqb a 1 || eqb b 1))
    (omega arith, refl) (omega arith, refl) (omega arith, refl) (omega arith, refl))

pub mem_shared : (p a b : ℕ) → mem p (bit_and a b) ≡ mem p a && mem p b
mem_shared =
    mem_digitwise bit_and min ◌&&◌ and_step
    (both_digits (λ a b. (min a b < 2) × (eqb (min a b) 1 ≡ eqb a 1 && eqb b 1))
    (omega arith, refl) (omega arith, refl) (omega arith, refl) (omega arith, refl))

pub either_true : (a b : Bool) → (a || b ≡ true) ↔ ((a ≡ true) ⊎ (b ≡ true))
either_true true b = (λ h. inl refl, λ h. refl)
either_true false b = (inr, ⊎_elim (λ h. absurd (false≢true h)) (λ h. h))

-- what decides one thing is one truth
pub both_decide : {P : Type 0} (r r' : Bool) → (r ≡ true) ↔ P → (r' ≡ true) ↔ P → r ≡ r'
both_decide true r' d d' = sym (d'.1 (d.0 refl))
both_decide false true d d' = d.1 (d'.0 refl)
both_decide false false d d' = refl

pub in_union : (p a b : ℕ) → In p (bit_or a b) ↔ (In p a ⊎ In p b)
in_union p a b = rw (mem_union p a b) (either_true (mem p a) (mem p b))

pub in_shared : (p a b : ℕ) → In p (bit_and a b) ↔ (In p a × In p b)
in_shared p a b = rw (mem_shared p a b) (and-eq-true_iff (mem p a) (mem p b))

-- s where t holds, else none
pub in_cond : (t : Bool) (p s : ℕ) → In p (cond t s 0) ↔ ((t ≡ true) × In p s)
in_cond true p s = (λ h. (refl, h), λ h. h.1)
in_cond false p s = (none_in p, λ h. absurd (false≢true h.0))

-- a set joined with another where t holds
pub in_joined : (t : Bool) (p x y : ℕ) → In p (cond t (bit_or x y) x) ↔ (In p x ⊎ ((t ≡ true) × In p y))
in_joined true p x y =
    (λ h. ⊎_elim inl (λ k. inr (refl, k)) ((in_union p x y).0 h), λ h. (in_union p x y).1 (⊎_elim inl (λ k. inr k.1) h))
in_joined false p x y = (inl, ⊎_elim (λ h. h) (λ k. absurd (false≢true k.0)))

pub in_joined_left : (t : Bool) (p x y : ℕ) → In p (cond t (bit_or x y) y) ↔ (((t ≡ true) × In p x) ⊎ In p y)
in_joined_left true p x y =
    (λ h. ⊎_elim (λ k. inl (refl, k)) inr ((in_union p x y).0 h), λ h. (in_union p x y).1 (⊎_elim (λ k. inl k.1) inr h))
in_joined_left false p x y = (inr, ⊎_elim (λ k. absurd (false≢true k.0)) (λ h. h))

-- sets with the same members are equal
odd_by_member : (a b : ℕ) → a < 2 → b < 2 → eqb a 1 ≡ eqb b 1 → a ≡ b
odd_by_member =
    both_digits (λ a b. eqb a 1 ≡ eqb b 1 → a ≡ b) (λ e. refl) (λ e. absurd (false≢true e)) (λ e. absurd (true≢false e)) (λ e. refl)

same_up_to : (k a b : ℕ) → a ≤ k → b ≤ k → ((p : ℕ) → mem p a ≡ mem p b) → a ≡ b
unfolding mem
same_up_to zero a b ha hb e = omega arith
same_up_to (suc k) a b ha hb e =
    let low : a % 2 ≡ b % 2 = odd_by_member (a % 2) (b % 2) (omega arith) (omega arith) (e 0) in
    let high : a / 2 ≡ b / 2 = same_up_to k (a / 2) (b / 2) (omega arith) (omega arith) (λ p. e (suc p)) in
    omega arith

pub same_members : (a b : ℕ) → ((p : ℕ) → mem p a ≡ mem p b) → a ≡ b
same_members a b e = same_up_to (a + b) a b (omega arith) (omega arith) e

pub same_sets : (a b : ℕ) → ((p : ℕ) → In p a ↔ In p b) → a ≡ b
same_sets a b e = same_members a b (λ p. both_decide (mem p a) (mem p b) (e p) (λ h. h, λ h. h))

-- unions may be grouped either way
pub union_assoc : (a b c : ℕ) → bit_or (bit_or a b) c ≡ bit_or a (bit_or b c)
union_assoc a b c =
    same_members (bit_or (bit_or a b) c) (bit_or a (bit_or b c)) (λ p.
    rw (mem_union p (bit_or a b) c, mem_union p a b, mem_union p a (bit_or b c), mem_union p b c) (or_assoc (mem p a) (mem p b) (mem p c)))

-- a set below 2 ^ k has members below k only
pub mem_beyond : (p k s : ℕ) → s < 2 ^ k → k ≤ p → mem p s ≡ false
unfolding mem
mem_beyond p zero s h l =
    let e : s ≡ 0 = omega (arith, pow-zero 2) in
    rw e (mem_none p)
mem_beyond zero (suc k) s h l = absurd (not-suc-le-zero l)
mem_beyond (suc p) (suc k) s h l =
    let d : s < 2 ^ k * 2 = rw pow-suc at h in
    mem_beyond p k (s / 2) (omega arith) (le_of_suc-le-suc l)

pub below_or_not : (p k : ℕ) → (p < k) ⊎ (k ≤ p)
below_or_not p k = go (ltb p k) refl
  where
    go : (t : Bool) → ltb p k ≡ t → (p < k) ⊎ (k ≤ p)
    go true e = inl (ltb-true p k e)
    go false e = inr (ltb-false p k e)

pub in_below : (p k s : ℕ) → s < 2 ^ k → In p s → p < k
in_below p k s h m = go (below_or_not p k)
  where
    go : (p < k) ⊎ (k ≤ p) → p < k
    go (inl l) = l
    go (inr l) = absurd (false≢true (sym (mem_beyond p k s h l) ∙ m))

-- two sets below 2 ^ k with the same members below k are equal
pub same_members_below : (k a b : ℕ) → a < 2 ^ k → b < 2 ^ k → ((p : ℕ) → p < k → mem p a ≡ mem p b) → a ≡ b
same_members_below k a b ha hb e = same_members a b (λ p. go p (below_or_not p k))
  where
    go : (p : ℕ) → (p < k) ⊎ (k ≤ p) → mem p a ≡ mem p b
    go p (inl l) = e p l
    go p (inr l) = mem_beyond p k a ha l ∙ sym (mem_beyond p k b hb l)

-- a set that is not empty has a member
member_up_to : (k s : ℕ) → s ≤ k → s ≢ 0 → (p : ℕ) × In p s
unfolding mem
member_up_to zero s l h = absurd (h (omega arith))
member_up_to (suc k) s l h = go (λ n. member_up_to k (s / 2) (omega arith) n) (eqb (s % 2) 1) refl
  where
    go : (s / 2 ≢ 0 → (p : ℕ) × In p (s / 2)) → (t : Bool) → eqb (s % 2) 1 ≡ t → (p : ℕ) × In p s
    go m true e = (0, e)
    go m false e =
        let n : s % 2 ≢ 1 = eqb-false (s % 2) 1 e in
        let i = m (omega arith) in
        (suc i.0, i.1)

pub member : (s : ℕ) → s ≢ 0 → (p : ℕ) × In p s
member s h = member_up_to s s (omega arith) h

pub member_not_none : (p s : ℕ) → In p s → s ≢ 0
member_not_none p s m e = none_in p (rw e at m)

-- the test that a set is not empty
pub not_empty_says : (s : ℕ) → (not (eqb s 0) ≡ true) ↔ (s ≢ 0)
not_empty_says s = (λ t. eqb-false s 0 (not-true (eqb s 0) t), λ h. rw (ne_eqb s 0 h))

-- a set with members below k only is below 2 ^ k
pub members_below : (k s : ℕ) → ((p : ℕ) → In p s → p < k) → s < 2 ^ k
unfolding mem
members_below zero s h =
    ⊎_elim
    (λ none. none)
    (λ some. let m = member s (λ e. omega arith) in absurd (not-suc-le-zero (h m.0 m.1)))
    (below_or_not s 1)
members_below (suc k) s h =
    let half : s / 2 < 2 ^ k = members_below k (s / 2) (λ p i. le_of_suc-le-suc (h (suc p) i)) in
    rw (pow-suc 2 k) (omega arith)

-- q is in the row of some member of s
abbrev pub InRowOf : List ℕ → ℕ → ℕ → Type 0
InRowOf rs s q = (p : ℕ) × (p < length rs) × In p s × In q (get_or rs p 0)

-- the members of a union of rows are those of the rows of its members
pub in_union_of : (rs : List ℕ) (s q : ℕ) → In q (union_of rs s) → InRowOf rs s q
unfolding mem union_of
in_union_of [] s q h = none_in q h
in_union_of (r ∷ rs) s q h =
    ⊎_elim
    (λ here. let i = (in_cond (mem 0 s) q r).0 here in (0, omega arith, i.0, i.1))
    (λ there. let i = in_union_of rs (s / 2) q there in (suc i.0, omega arith, i.2, i.3))
    ((in_union q (cond (mem 0 s) r 0) (union_of rs (s / 2))).0 h)

pub union_of_in : (rs : List ℕ) (s q p : ℕ) → p < length rs → In p s → In q (get_or rs p 0) → In q (union_of rs s)
unfolding mem union_of
union_of_in [] s q p l m h = absurd (not-suc-le-zero l)
union_of_in (r ∷ rs) s q zero l m h =
    (in_union q (cond (mem 0 s) r 0) (union_of rs (s / 2))).1 (inl ((in_cond (mem 0 s) q r).1 (m, h)))
union_of_in (r ∷ rs) s q (suc p) l m h =
    (in_union q (cond (mem 0 s) r 0) (union_of rs (s / 2))).1 (inr (union_of_in rs (s / 2) q p (le_of_suc-le-suc l) m h))

-- no row of the empty set
pub union_of_none : (rs : List ℕ) → union_of rs 0 ≡ 0
union_of_none rs = same_sets (union_of rs 0) 0 (λ q. (λ h. let i = in_union_of rs 0 q h in none_in i.0 i.2, none_in q))

pub laws_of_sets : LawsOfSets
laws_of_sets =
    record {
      none = mem_none;
      single = in_single;
      union = in_union;
      shared = in_shared;
      union_of_rows = λ rs s q. (in_union_of rs s q, λ (p, l, i, j). union_of_in rs s q p l i j);
      equal = same_members;
      equal_below = same_members_below;
      has_member = member;
    }
