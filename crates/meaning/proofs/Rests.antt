-- What may still come in an expression after one of its positions, and the bits at which its sets and rests lie.
use mathlib.Core.Path.{◌≡◌}
use mathlib.Core.Logic.{◌⊎◌, inl, inr, ⊎_elim, ⊎_map, ◌↔◌}
use mathlib.Core.Bool.{true, cond}
use mathlib.Core.List.{List, [], ◌++◌}
use Prim.Native.Nat.{ℕ, ◌+◌, ◌<◌, ◌≤◌, ◌^◌}
use native.Mathlib.Omega.{arith}
use lib.Bits.{bit_or}
use Rattle.meaning.specs.Names.{Name, key, same}
use Rattle.meaning.specs.Words.{Expr, Repeated, Word}
use Rattle.meaning.specs.Words.Expr.{name, seq, choice, star}
use Rattle.meaning.specs.Sets.{mem, In}
use Rattle.meaning.specs.Positions.{size, can_be_empty, first, last, follows, positions_of}
use Rattle.meaning.proofs.SetLaws.{below_or_not, none_in, in_single, in_union, in_cond, in_joined, in_joined_left}

-- w completes a word of e of which bit p was spelled last; e's own bits start at lo
unfoldable pub Rest : Expr → ℕ → ℕ → List Name → Type 0
Rest (name n) lo p w = (p ≡ lo) × (w ≡ [])
Rest (seq a b) lo p w = ((u v : List Name) × Rest a lo p u × Word b v × (w ≡ u ++ v)) ⊎ Rest b (lo + size a) p w
Rest (choice a b) lo p w = Rest a lo p w ⊎ Rest b (lo + size a) p w
Rest (star a) lo p w = (u v : List Name) × Rest a lo p u × Repeated (Word a) v × (w ≡ u ++ v)

-- p is one of n bits from lo on
pub record Inside (lo n p : ℕ) : Type 0 where
  pub low : lo ≤ p
  pub high : p < lo + n

-- a bit of the left part, and one of the right part, is one of the whole
pub inside_left : (lo m n p : ℕ) → Inside lo m p → Inside lo (m + n) p
inside_left lo m n p i = record { low = i.low; high = omega arith }

pub inside_right : (lo m n p : ℕ) → Inside (lo + m) n p → Inside lo (m + n) p
inside_right lo m n p i = record { low = omega arith; high = omega arith }

-- and no bit is one of both parts
pub apart : {A : Type 0} (lo m n p : ℕ) → Inside lo m p → Inside (lo + m) n p → A
apart lo m n p i j = absurd (omega arith)

-- so a bit of either part is one of the whole
either_inside : (lo m n p : ℕ) → Inside lo m p ⊎ Inside (lo + m) n p → Inside lo (m + n) p
either_inside lo m n p = ⊎_elim (inside_left lo m n p) (inside_right lo m n p)

-- and a bit of the whole is one of a part
pub which_part : (lo m n p : ℕ) → Inside lo (m + n) p → Inside lo m p ⊎ Inside (lo + m) n p
which_part lo m n p i = go (below_or_not p (lo + m))
  where
    go : (p < lo + m) ⊎ (lo + m ≤ p) → Inside lo m p ⊎ Inside (lo + m) n p
    go (inl l) = inl (record { low = i.low; high = l })
    go (inr l) = inr (record { low = l; high = omega arith })

pub at_own_bit : (lo p : ℕ) → p ≡ lo → Inside lo 1 p
at_own_bit lo p e = record { low = omega arith; high = omega arith }

module _ (a b : Expr) (lo p : ℕ) where
  -- the first set, the last set and the followers of a sequence
  pub in_first_seq : In p (first (seq a b) lo) ↔ (In p (first a lo) ⊎ ((can_be_empty a ≡ true) × In p (first b (lo + size a))))
  unfolding first
  in_first_seq = in_joined (can_be_empty a) p (first a lo) (first b (lo + size a))

  pub in_last_seq : In p (last (seq a b) lo) ↔ (((can_be_empty b ≡ true) × In p (last a lo)) ⊎ In p (last b (lo + size a)))
  unfolding last
  in_last_seq = in_joined_left (can_be_empty b) p (last a lo) (last b (lo + size a))

  pub in_follows_seq : (q : ℕ) → In q (follows (seq a b) lo p)
      ↔ (In q (follows a lo p) ⊎ (In q (follows b (lo + size a) p) ⊎ (In p (last a lo) × In q (first b (lo + size a)))))
  unfolding follows
  in_follows_seq q = (
    λ h. ⊎_elim (λ s. ⊎_elim inl (λ r. inr (inl r)) (parts.0 s)) (λ n. inr (inr (link.0 n))) (whole.0 h),
    λ h. whole.1 (⊎_elim (λ l. inl (parts.1 (inl l))) (λ k. ⊎_elim (λ r. inl (parts.1 (inr r))) (λ n. inr (link.1 n)) k) h),
  )
    where
      parts : In q (bit_or (follows a lo p) (follows b (lo + size a) p)) ↔ (In q (follows a lo p) ⊎ In q (follows b (lo + size a) p))
      parts = in_union q (follows a lo p) (follows b (lo + size a) p)

      link : In q (cond (mem p (last a lo)) (first b (lo + size a)) 0) ↔ (In p (last a lo) × In q (first b (lo + size a)))
      link = in_cond (mem p (last a lo)) q (first b (lo + size a))

      whole : In q (follows (seq a b) lo p)
          ↔ (In q (bit_or (follows a lo p) (follows b (lo + size a) p)) ⊎ In q (cond (mem p (last a lo)) (first b (lo + size a)) 0))
      whole = in_union q (bit_or (follows a lo p) (follows b (lo + size a) p)) (cond (mem p (last a lo)) (first b (lo + size a)) 0)

-- the followers of a starred part
pub in_follows_star : (a : Expr) (lo p q : ℕ) → In q (follows (star a) lo p) ↔ (In q (follows a lo p) ⊎ (In p (last a lo) × In q (first a lo)))
unfolding follows
in_follows_star a lo p q = (
  λ h. ⊎_elim inl (λ n. inr ((in_cond (mem p (last a lo)) q (first a lo)).0 n)) (whole.0 h),
  λ h. whole.1 (⊎_elim inl (λ n. inr ((in_cond (mem p (last a lo)) q (first a lo)).1 n)) h),
)
  where
    whole : In q (follows (star a) lo p) ↔ (In q (follows a lo p) ⊎ In q (cond (mem p (last a lo)) (first a lo) 0))
    whole = in_union q (follows a lo p) (cond (mem p (last a lo)) (first a lo) 0)

-- the first set, the followers, an operation's positions and the rests lie at the expression's own bits
pub first_inside : (e : Expr) (lo p : ℕ) → In p (first e lo) → Inside lo (size e) p
unfolding first size
first_inside (name n) lo p h = at_own_bit lo p ((in_single p lo).0 h)
first_inside (seq a b) lo p h =
    either_inside lo (size a) (size b) p
    (⊎_map (first_inside a lo p) (λ i. first_inside b (lo + size a) p i.1) ((in_first_seq a b lo p).0 h))
first_inside (choice a b) lo p h =
    either_inside lo (size a) (size b) p
    (⊎_map (first_inside a lo p) (first_inside b (lo + size a) p) ((in_union p (first a lo) (first b (lo + size a))).0 h))
first_inside (star a) lo p h = first_inside a lo p h

pub follows_inside : (e : Expr) (lo p q : ℕ) → In q (follows e lo p) → Inside lo (size e) q
unfolding follows size
follows_inside (name n) lo p q h = none_in q h
follows_inside (seq a b) lo p q h =
    either_inside lo (size a) (size b) q
    (⊎_map
    (follows_inside a lo p q)
    (⊎_elim (follows_inside b (lo + size a) p q) (λ i. first_inside b (lo + size a) q i.1))
    ((in_follows_seq a b lo p q).0 h))
follows_inside (choice a b) lo p q h =
    either_inside lo (size a) (size b) q
    (⊎_map (follows_inside a lo p q) (follows_inside b (lo + size a) p q) ((in_union q (follows a lo p) (follows b (lo + size a) p)).0 h))
follows_inside (star a) lo p q h =
    ⊎_elim (follows_inside a lo p q) (λ i. first_inside a lo q i.1) ((in_follows_star a lo p q).0 h)

-- a sequence and a choice have the positions of both parts
parts_inside : (a b : Expr) (lo p : ℕ) (k : Name) → (In p (positions_of a lo k) → Inside lo (size a) p)
    → (In p (positions_of b (lo + size a) k) → Inside (lo + size a) (size b) p)
    → In p (bit_or (positions_of a lo k) (positions_of b (lo + size a) k)) → Inside lo (size a + size b) p
parts_inside a b lo p k f g h =
    either_inside lo (size a) (size b) p (⊎_map f g ((in_union p (positions_of a lo k) (positions_of b (lo + size a) k)).0 h))

pub positions_inside : (e : Expr) (lo p : ℕ) (k : Name) → In p (positions_of e lo k) → Inside lo (size e) p
unfolding positions_of size
positions_inside (name n) lo p k h = at_own_bit lo p ((in_single p lo).0 ((in_cond (same (key n) k) p (2 ^ lo)).0 h).1)
positions_inside (seq a b) lo p k h = parts_inside a b lo p k (positions_inside a lo p k) (positions_inside b (lo + size a) p k) h
positions_inside (choice a b) lo p k h = parts_inside a b lo p k (positions_inside a lo p k) (positions_inside b (lo + size a) p k) h
positions_inside (star a) lo p k h = positions_inside a lo p k h

pub rest_inside : (e : Expr) (lo p : ℕ) (w : List Name) → Rest e lo p w → Inside lo (size e) p
unfolding Rest size
rest_inside (name n) lo p w r = at_own_bit lo p r.0
rest_inside (seq a b) lo p w r =
    either_inside lo (size a) (size b) p (⊎_map (λ l. rest_inside a lo p l.0 l.2) (rest_inside b (lo + size a) p w) r)
rest_inside (choice a b) lo p w r =
    either_inside lo (size a) (size b) p (⊎_map (rest_inside a lo p w) (rest_inside b (lo + size a) p w) r)
rest_inside (star a) lo p w r = rest_inside a lo p r.0 r.2
