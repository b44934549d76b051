-- Positions are the names from the left: an operation's positions are the bits at which its name is written. By induction on the
-- expression, whose own names start at bit lo.
use mathlib.Core.Path.{◌≡◌, refl, sym, ap₂, ◌∙◌}
use mathlib.Core.Logic.{◌⊎◌, inl, inr, ⊎_elim, ⊎_map}
use mathlib.Core.List.{List, [], ◌++◌}
use Prim.Native.Nat.{ℕ, zero, suc, ◌+◌, ◌-◌, ◌≤◌, ◌<◌, ◌^◌}
use native.Mathlib.Nat.{add_assoc}
use native.Mathlib.Omega.{arith}
use lib.Bits.{bit_or}
use lib.ListN.{length, get_or, length-append, get_or-append}
use lib.Seq.{get_or-append-add}
use Rattle.meaning.specs.Names.{Name, key, same}
use Rattle.meaning.specs.Words.{Expr, names}
use Rattle.meaning.specs.Words.Expr.{name, seq, choice, star}
use Rattle.meaning.specs.Sets.{In}
use Rattle.meaning.specs.Positions.{size, positions_of, permission}
use Rattle.meaning.specs.Promises.{NumberedFromTheLeft}
use Rattle.meaning.proofs.NameLaws.{same_equal, equal_same}
use Rattle.meaning.proofs.SetLaws.{below_or_not, in_single, in_union, in_cond}

pub size_names : (e : Expr) → size e ≡ length (names e)
unfolding size names
size_names (name n) = refl
size_names (seq a b) = ap₂ ◌+◌ (size_names a) (size_names b) ∙ sym (length-append (names a) (names b))
size_names (choice a b) = ap₂ ◌+◌ (size_names a) (size_names b) ∙ sym (length-append (names a) (names b))
size_names (star a) = size_names a

-- p is bit q of those from lo on, and k is the name that is written there
abbrev Written : List Name → ℕ → ℕ → Name → Type 0
Written ns lo p k = (q : ℕ) × (p ≡ lo + q) × (q < length ns) × (key (get_or ns q []) ≡ k)

-- what is written in the left list, or in the right one behind it, is written in both together
written_left : (ns ms : List Name) (lo p : ℕ) (k : Name) → Written ns lo p k → Written (ns ++ ms) lo p k
written_left ns ms lo p k (q, e, l, w) = (q, e, rw (length-append ns ms) (omega arith), rw (get_or-append ns ms [] q l) w)

written_right : (ns ms : List Name) (lo p : ℕ) (k : Name) → Written ms (lo + length ns) p k → Written (ns ++ ms) lo p k
written_right ns ms lo p k (q, e, l, w) =
    (length ns + q, e ∙ add_assoc lo (length ns) q, rw (length-append ns ms) (omega arith), rw (get_or-append-add ns ms q []) w)

-- and what is written in both together is written in one of them
written_either : (ns ms : List Name) (lo p : ℕ) (k : Name) → Written (ns ++ ms) lo p k
    → Written ns lo p k ⊎ Written ms (lo + length ns) p k
written_either ns ms lo p k (q, e, l, w) = go (below_or_not q (length ns))
  where
    go : (q < length ns) ⊎ (length ns ≤ q) → Written ns lo p k ⊎ Written ms (lo + length ns) p k
    go (inl h) = inl (q, e, h, rw (get_or-append ns ms [] q h) at w)
    go (inr h) =
        let d : q ≡ length ns + (q - length ns) = omega arith in
        let fits : q < length ns + length ms = rw (length-append ns ms) at l in
        inr (q - length ns, omega arith, omega arith, rw (get_or-append-add ns ms (q - length ns) []) at (rw d at w))

-- the positions of both parts of a sequence or a choice are written in both lists of names together
module _ (a b : Expr) (lo p : ℕ) (k : Name) where
  parts_written : (In p (positions_of a lo k) → Written (names a) lo p k)
      → (In p (positions_of b (lo + size a) k) → Written (names b) (lo + size a) p k)
      → In p (bit_or (positions_of a lo k) (positions_of b (lo + size a) k)) → Written (names a ++ names b) lo p k
  parts_written f g h =
      ⊎_elim
      (λ l. written_left (names a) (names b) lo p k (f l))
      (λ r. written_right (names a) (names b) lo p k (rw (size_names a) at (g r)))
      ((in_union p (positions_of a lo k) (positions_of b (lo + size a) k)).0 h)

  written_parts : (Written (names a) lo p k → In p (positions_of a lo k))
      → (Written (names b) (lo + size a) p k → In p (positions_of b (lo + size a) k))
      → Written (names a ++ names b) lo p k → In p (bit_or (positions_of a lo k) (positions_of b (lo + size a) k))
  written_parts f g h =
      (in_union p (positions_of a lo k) (positions_of b (lo + size a) k)).1
      (⊎_map f (λ r. g (rw (size_names a) r)) (written_either (names a) (names b) lo p k h))

pub positions_written : (e : Expr) (lo p : ℕ) (k : Name) → In p (positions_of e lo k) → Written (names e) lo p k
unfolding positions_of names
positions_written (name n) lo p k h =
    let c = (in_cond (same (key n) k) p (2 ^ lo)).0 h in
    let e : p ≡ lo = (in_single p lo).0 c.1 in
    (0, omega arith, omega arith, same_equal (key n) k c.0)
positions_written (seq a b) lo p k h = parts_written a b lo p k (positions_written a lo p k) (positions_written b (lo + size a) p k) h
positions_written (choice a b) lo p k h = parts_written a b lo p k (positions_written a lo p k) (positions_written b (lo + size a) p k) h
positions_written (star a) lo p k h = positions_written a lo p k h

pub written_positions : (e : Expr) (lo p : ℕ) (k : Name) → Written (names e) lo p k → In p (positions_of e lo k)
unfolding positions_of names
written_positions (name n) lo p k (zero, e, l, w) =
    (in_cond (same (key n) k) p (2 ^ lo)).1 (equal_same (key n) k w, (in_single p lo).1 (omega arith))
written_positions (name n) lo p k (suc q, e, l, w) = absurd (omega arith)
written_positions (seq a b) lo p k h = written_parts a b lo p k (written_positions a lo p k) (written_positions b (lo + size a) p k) h
written_positions (choice a b) lo p k h = written_parts a b lo p k (written_positions a lo p k) (written_positions b (lo + size a) p k) h
written_positions (star a) lo p k h = written_positions a lo p k h

pub numbered_from_the_left : NumberedFromTheLeft
unfolding permission
numbered_from_the_left e =
    record {
      as_many = size_names e;
      from_the_left = λ p k. (
        λ h.
            let (q, d, l, w) = positions_written e 0 p k h in
            let s : p ≡ q = omega arith in
            rw s (l, w),
        λ h. written_positions e 0 p k (p, omega arith, h.0, h.1),
      );
    }
