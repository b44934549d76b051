-- Laws of the distinct names: a list's are those of its front, and then what its rest adds. A name more adds itself if it is new, and
-- nothing else. They hold what the list holds, and each of them is one of the list.
use mathlib.Core.Path.{◌≡◌, refl, sym, ap, ◌∙◌}
use mathlib.Core.Bool.{Bool, true, false, cond, ◌||◌, or_assoc, or-true, or-false}
use mathlib.Core.List.Memᴰ
use mathlib.Core.List.{List, [], ◌∷◌, ◌++◌, Memᴰ}
use mathlib.Core.Logic.{◌⊎◌, inl, inr, ⊎_elim, ⊎_map}
use Prim.Native.Nat.{ℕ, zero, suc, ◌+◌, ◌≤◌, ◌<◌}
use native.Mathlib.Nat.{not-suc-le-zero, le_of_suc-le-suc}
use native.Mathlib.Omega.{arith}
use lib.ListN.{length, get_or, length-append}
use Rattle.meaning.specs.Names.{Name, key, same}
use Rattle.meaning.specs.Operations.{holds, added, distinct_after, distinct}
use Rattle.meaning.proofs.NameLaws.{same_equal, equal_same}

-- membership and places are the same thing
pub at_member : (ns : List Name) (i : ℕ) → i < length ns → Memᴰ (get_or ns i []) ns
at_member [] i l = absurd (not-suc-le-zero l)
at_member (n ∷ ns) zero l = Memᴰ.head refl
at_member (n ∷ ns) (suc i) l = Memᴰ.tail (at_member ns i (le_of_suc-le-suc l))

member_placed : (n : Name) (ns : List Name) → Memᴰ n ns → (i : ℕ) × (i < length ns) × (get_or ns i [] ≡ n)
member_placed n ns (Memᴰ.head e) = (0, omega arith, sym e)
member_placed n ns (Memᴰ.tail {xs = rest} m) = let (i, l, e) = member_placed n rest m in (suc i, omega arith, e)

pub member_at : (ns : List Name) (n : Name) → Memᴰ n ns → (i : ℕ) × (i < length ns) × (get_or ns i [] ≡ n)
member_at ns n m = member_placed n ns m

-- the key of each name of a list is held
pub at_held : (ns : List Name) (k : Name) (i : ℕ) → i < length ns → key (get_or ns i []) ≡ k → holds ns k ≡ true
unfolding holds
at_held [] k i l e = absurd (not-suc-le-zero l)
at_held (n ∷ ns) k zero l e = rw (equal_same (key n) k e)
at_held (n ∷ ns) k (suc i) l e = rw (at_held ns k i (le_of_suc-le-suc l) e, or-true)

pub member_held : (ns : List Name) (n : Name) → Memᴰ n ns → holds ns (key n) ≡ true
member_held ns n m = let (i, l, e) = member_at ns n m in at_held ns (key n) i l (ap key e)

pub holds_append : (ds es : List Name) (k : Name) → holds (ds ++ es) k ≡ (holds ds k || holds es k)
unfolding holds
holds_append [] es k = refl
holds_append (d ∷ ds) es k = rw (holds_append ds es k, ← (or_assoc (same (key d) k) (holds ds k) (holds es k)))

pub added_known : (ds : List Name) (n : Name) → holds ds (key n) ≡ true → added ds n ≡ ds
unfolding added
added_known ds n e = rw (added, e)

pub added_new : (ds : List Name) (n : Name) → holds ds (key n) ≡ false → added ds n ≡ ds ++ n ∷ []
unfolding added
added_new ds n e = rw (added, e)

-- one more name, if it is new
pub length_added : (ds : List Name) (n : Name) → length (added ds n) ≡ length ds + cond (holds ds (key n)) 0 1
unfolding added
length_added ds n = counted (holds ds (key n))
  where
    counted : (b : Bool) → length (cond b ds (ds ++ n ∷ [])) ≡ length ds + cond b 0 1
    counted true = omega arith
    counted false = length-append ds (n ∷ [])

pub added_within : (ds : List Name) (n : Name) → length (added ds n) ≤ length ds + 1
added_within ds n = rw (length_added ds n) (at_most_one (holds ds (key n)))
  where
    at_most_one : (b : Bool) → length ds + cond b 0 1 ≤ length ds + 1
    at_most_one true = omega arith
    at_most_one false = omega arith

pub distinct_after_append : (ds ms ns : List Name) → distinct_after ds (ms ++ ns) ≡ distinct_after (distinct_after ds ms) ns
unfolding distinct_after
distinct_after_append ds [] ns = refl
distinct_after_append ds (m ∷ ms) ns = distinct_after_append (added ds m) ms ns

pub distinct_append : (ms ns : List Name) → distinct (ms ++ ns) ≡ distinct_after (distinct ms) ns
unfolding distinct
distinct_append ms ns = distinct_after_append [] ms ns

-- a name at the end
pub distinct_snoc : (ns : List Name) (n : Name) → distinct (ns ++ n ∷ []) ≡ added (distinct ns) n
unfolding distinct_after
distinct_snoc ns n = distinct_append ns (n ∷ [])

-- no name is taken away again
pub length_distinct_after : (ds ns : List Name) → length ds ≤ length (distinct_after ds ns)
unfolding distinct_after
length_distinct_after ds [] = omega arith
length_distinct_after ds (n ∷ ns) = omega (arith, length_added ds n, length_distinct_after (added ds n) ns)

pub length_distinct_append : (ms ns : List Name) → length (distinct ms) ≤ length (distinct (ms ++ ns))
length_distinct_append ms ns = rw (distinct_append ms ns) (length_distinct_after (distinct ms) ns)

-- what is held once a name is added: what was, and its key
pub holds_added : (ds : List Name) (n k : Name) → holds (added ds n) k ≡ (holds ds k || same (key n) k)
unfolding holds
holds_added ds n k = go (holds ds (key n)) refl (same (key n) k) refl
  where
    go : (t : Bool) → holds ds (key n) ≡ t → (s : Bool) → same (key n) k ≡ s → holds (added ds n) k ≡ (holds ds k || s)
    go true known true is = rw (added_known ds n known, or-true, ← (same_equal (key n) k is)) known
    go true known false is = rw (added_known ds n known, or-false)
    go false new s is = rw (added_new ds n new, holds_append, is, or-false)

holds_distinct_after : (ds ns : List Name) (k : Name) → holds (distinct_after ds ns) k ≡ (holds ds k || holds ns k)
unfolding holds distinct_after
holds_distinct_after ds [] k = sym (or-false (holds ds k))
holds_distinct_after ds (n ∷ ns) k =
    holds_distinct_after (added ds n) ns k ∙ rw (holds_added ds n k) (or_assoc (holds ds k) (same (key n) k) (holds ns k))

-- the distinct names hold what the list holds
pub holds_distinct : (ns : List Name) (k : Name) → holds (distinct ns) k ≡ holds ns k
unfolding holds distinct
holds_distinct ns k = holds_distinct_after [] ns k

pub distinct_holds : (ns : List Name) (n : Name) → Memᴰ n ns → holds (distinct ns) (key n) ≡ true
distinct_holds ns n m = holds_distinct ns (key n) ∙ member_held ns n m

pub key_held : (ns : List Name) (p : ℕ) → p < length ns → holds (distinct ns) (key (get_or ns p [])) ≡ true
key_held ns p l = distinct_holds ns (get_or ns p []) (at_member ns p l)

-- and each of them is one of the list
added_member : (ds : List Name) (n m : Name) → Memᴰ m (added ds n) → Memᴰ m ds ⊎ (m ≡ n)
added_member ds n m i = go (holds ds (key n)) refl
  where
    go : (t : Bool) → holds ds (key n) ≡ t → Memᴰ m ds ⊎ (m ≡ n)
    go true known = inl (rw (added_known ds n known) at i)
    go false new = ⊎_map (λ d. d) Memᴰ.eq_of_singleton (Memᴰ.append_cases ds (rw (added_new ds n new) at i))

distinct_after_member : (ds ns : List Name) (m : Name) → Memᴰ m (distinct_after ds ns) → Memᴰ m ds ⊎ Memᴰ m ns
unfolding distinct_after
distinct_after_member ds [] m i = inl i
distinct_after_member ds (n ∷ ns) m i =
    ⊎_elim
    (λ a. ⊎_map (λ d. d) Memᴰ.head (added_member ds n m a))
    (λ r. inr (Memᴰ.tail r))
    (distinct_after_member (added ds n) ns m i)

pub distinct_member : (ns : List Name) (m : Name) → Memᴰ m (distinct ns) → Memᴰ m ns
unfolding distinct
distinct_member ns m i = ⊎_elim (λ none. absurd (Memᴰ.not-nil none)) (λ r. r) (distinct_after_member [] ns m i)
