-- Walks, permitted histories and kept sets are three views of one thing, for any rows and permission sets: a set stands for
-- all the positions at which a walk may be. By induction on the history.
use mathlib.Core.Path.{◌≡◌, refl}
use mathlib.Core.Logic.{◌≢◌, ◌⊎◌, inl, inr}
use mathlib.Core.Bool.{true, not, and-eq-true_iff}
use mathlib.Core.List.{List, [], ◌∷◌}
use Prim.Native.Nat.{ℕ, ◌<◌, ◌≤◌}
use lib.Bits.{bit_and}
use lib.Dec.{eqb}
use lib.ListN.{length, get_or, get_or-eq_default}
use Rattle.meaning.specs.Names.{Name}
use Rattle.meaning.specs.Sets.{In, union_of}
use Rattle.meaning.specs.Following.{Walk, set_after, permits}
use Rattle.meaning.proofs.SetLaws.{none_in, in_shared, member, member_not_none, not_empty_says, below_or_not}
use Rattle.meaning.proofs.SetLaws.{in_union_of, union_of_in, union_of_none}

module _ (rows : List ℕ) (permission : Name → ℕ) where
  -- a row that has a member is one of the rows
  row_exists : (p q : ℕ) → In q (get_or rows p 0) → p < length rows
  row_exists p q h = go (below_or_not p (length rows))
    where
      go : (p < length rows) ⊎ (length rows ≤ p) → p < length rows
      go (inl l) = l
      go (inr l) = none_in q (rw (get_or-eq_default rows 0 l) at h)

  -- a walk from the row of a member is one from the union of the rows
  walk_into : (m p : ℕ) (h : List Name) → In p m → Walk rows permission (get_or rows p 0) h → Walk rows permission (union_of rows m) h
  unfolding Walk
  walk_into m p [] i t = tt
  walk_into m p (k ∷ h) i (q, j, n, t) = (q, union_of_in rows m q p (row_exists p q j) i j, n, t)

  -- and a walk from the union is one from the row of some member
  walk_out_of : (m : ℕ) (h : List Name) → m ≢ 0 → Walk rows permission (union_of rows m) h
      → (p : ℕ) × In p m × Walk rows permission (get_or rows p 0) h
  unfolding Walk
  walk_out_of m [] n t = let i = member m n in (i.0, i.1, tt)
  walk_out_of m (k ∷ h) n (q, j, o, t) = let i = in_union_of rows m q j in (i.0, i.2, (q, i.3, o, t))

  pub permits_walk : (s : ℕ) (h : List Name) → permits rows permission s h ≡ true → Walk rows permission s h
  unfolding Walk permits
  permits_walk s [] e = tt
  permits_walk s (k ∷ h) e =
      let m = bit_and s (permission k) in
      let c = (and-eq-true_iff (not (eqb m 0)) (permits rows permission (union_of rows m) h)).0 e in
      let i = walk_out_of m h ((not_empty_says m).0 c.0) (permits_walk (union_of rows m) h c.1) in
      let o = (in_shared i.0 s (permission k)).0 i.1 in
      (i.0, o.0, o.1, i.2)

  pub walk_permits : (s : ℕ) (h : List Name) → Walk rows permission s h → permits rows permission s h ≡ true
  unfolding Walk permits
  walk_permits s [] t = refl
  walk_permits s (k ∷ h) (p, i, j, t) =
      let m = bit_and s (permission k) in
      let o = (in_shared p s (permission k)).1 (i, j) in
      (and-eq-true_iff (not (eqb m 0)) (permits rows permission (union_of rows m) h)).1
      ((not_empty_says m).1 (member_not_none p m o), walk_permits (union_of rows m) h (walk_into m p h o t))

  -- nothing is kept of the empty set
  none_after : (h : List Name) → set_after rows permission 0 h ≡ 0
  unfolding set_after
  none_after [] = refl
  none_after (k ∷ h) = rw (union_of_none rows) (none_after h)

  pub kept_permits : (s : ℕ) (h : List Name) → set_after rows permission s h ≢ 0 → permits rows permission s h ≡ true
  unfolding set_after permits
  kept_permits s [] n = refl
  kept_permits s (k ∷ h) n =
      let m = bit_and s (permission k) in
      (and-eq-true_iff (not (eqb m 0)) (permits rows permission (union_of rows m) h)).1
      ((not_empty_says m).1 (λ e. n (rw (e, union_of_none rows) (none_after h))), kept_permits (union_of rows m) h n)

  -- where every position that an operation has is followed by another, a permitted history keeps a set that is not empty
  pub permits_kept : ((p : ℕ) (k : Name) → In p (permission k) → get_or rows p 0 ≢ 0) → (s : ℕ) (h : List Name) → s ≢ 0
      → permits rows permission s h ≡ true → set_after rows permission s h ≢ 0
  unfolding set_after permits
  permits_kept lively s [] n e = n
  permits_kept lively s (k ∷ h) n e =
      let m = bit_and s (permission k) in
      let c = (and-eq-true_iff (not (eqb m 0)) (permits rows permission (union_of rows m) h)).0 e in
      let i = member m ((not_empty_says m).0 c.0) in
      let o = (in_shared i.0 s (permission k)).0 i.1 in
      let j = member (get_or rows i.0 0) (lively i.0 k o.1) in
      let u = union_of_in rows m j.0 i.0 (row_exists i.0 j.0 j.1) i.1 j.1 in
      permits_kept lively (union_of rows m) h (member_not_none j.0 (union_of rows m) u) c.1
