-- The numbers of names among the distinct ones. A name's number is the place at which its key first stands: so it points at a name of
-- that key, names behind change no number, and a new name gets the next. Each of the distinct names has its own place for its number.
use mathlib.Core.Path.{◌≡◌, refl, sym, ap, ◌∙◌}
use mathlib.Core.Bool.{Bool, true, false, cond, ◌||◌, false≢true}
use mathlib.Core.List.Memᴰ
use mathlib.Core.List.{List, [], ◌∷◌, ◌++◌, map, Memᴰ}
use mathlib.Core.Logic.{◌↔◌, ◌⊎◌, inl, inr}
use Prim.Native.Nat.{ℕ, suc, ◌+◌, ◌≤◌, ◌<◌}
use native.Mathlib.Nat.{not-suc-le-zero}
use native.Mathlib.Omega.{arith}
use lib.ListN.{length, get_or, length-append, get_or-append}
use lib.Seq.{get_or_at}
use Rattle.meaning.specs.Names.{Name, key, same}
use Rattle.meaning.specs.Operations.{holds, added, distinct_after, distinct, number_of}
use Rattle.meaning.proofs.NameLaws.{same_equal, same_self}
use Rattle.meaning.proofs.OperationLaws.{at_member, at_held, member_held, added_known, added_new}
use Rattle.meaning.proofs.SetLaws.{below_or_not}

-- the number of a held key is one of the numbers, and the name at that number has the key
pub held_below : (ds : List Name) (k : Name) → holds ds k ≡ true → number_of ds k < length ds
unfolding holds number_of
held_below [] k h = absurd (false≢true h)
held_below (d ∷ ds) k h = go (same (key d) k) h (held_below ds k)
  where
    go : (t : Bool) → t || holds ds k ≡ true → (holds ds k ≡ true → number_of ds k < length ds)
        → cond t 0 (suc (number_of ds k)) < suc (length ds)
    go true held rest = omega arith
    go false held rest = omega (arith, rest held)

pub number_held : (ds : List Name) (k : Name) → holds ds k ≡ true → key (get_or ds (number_of ds k) []) ≡ k
unfolding holds number_of
number_held [] k h = absurd (false≢true h)
number_held (d ∷ ds) k h = go (same (key d) k) refl h (number_held ds k)
  where
    go : (t : Bool) → same (key d) k ≡ t → t || holds ds k ≡ true → (holds ds k ≡ true → key (get_or ds (number_of ds k) []) ≡ k)
        → key (get_or (d ∷ ds) (cond t 0 (suc (number_of ds k))) []) ≡ k
    go true e held rest = same_equal (key d) k e
    go false e held rest = rest held

-- so a held key stands somewhere
pub held_at : (ds : List Name) (k : Name) → holds ds k ≡ true → (i : ℕ) × (i < length ds) × (key (get_or ds i []) ≡ k)
held_at ds k h = (number_of ds k, held_below ds k h, number_held ds k h)

-- the keys that a list holds are those of its names
pub held_reads : (ns : List Name) (k : Name) → (holds ns k ≡ true) ↔ Memᴰ k (map key ns)
held_reads ns k = (
  λ h. let (i, l, e) = held_at ns k h in Memᴰ.cast (sym e) (Memᴰ.map key (at_member ns i l)),
  λ m. let (n, here, e) = Memᴰ.of_map key ns m in rw (sym e) (member_held ns n here),
)

-- different keys have different numbers
pub number_decides : (ds : List Name) (j k : Name) → holds ds j ≡ true → holds ds k ≡ true → number_of ds j ≡ number_of ds k → j ≡ k
number_decides ds j k hj hk e = sym (number_held ds j hj) ∙ ap (λ (i : ℕ). key (get_or ds i [])) e ∙ number_held ds k hk

-- the number in two lists together: that in the first, if it holds the key, and else one behind it
pub number_append : (ds es : List Name) (k : Name) → number_of (ds ++ es) k ≡ cond (holds ds k) (number_of ds k) (length ds + number_of es k)
unfolding holds number_of
number_append [] es k = omega arith
number_append (d ∷ ds) es k = rw (number_append ds es k) (go (same (key d) k) (holds ds k))
  where
    go : (s t : Bool)
        → cond s 0 (suc (cond t (number_of ds k) (length ds + number_of es k)))
        ≡ cond (s || t) (cond s 0 (suc (number_of ds k))) (suc (length ds) + number_of es k)
    go true t = refl
    go false true = refl
    go false false = omega arith

-- a new name behind them gets the next number
pub number_new : (ds : List Name) (n : Name) → holds ds (key n) ≡ false → number_of (ds ++ n ∷ []) (key n) ≡ length ds
unfolding number_of
number_new ds n h = rw (number_append ds (n ∷ []) (key n), h, same_self (key n)) (omega arith)

-- each name has its own place for its number: no two have the same key
abbrev OwnNumbers : List Name → Type 0
OwnNumbers ds = (i : ℕ) → i < length ds → number_of ds (key (get_or ds i [])) ≡ i

own_added : (ds : List Name) (n : Name) → OwnNumbers ds → OwnNumbers (added ds n)
own_added ds n own = go (holds ds (key n)) refl
  where
    behind : holds ds (key n) ≡ false → (i : ℕ) → i < length (ds ++ n ∷ []) → (i < length ds) ⊎ (length ds ≤ i)
        → number_of (ds ++ n ∷ []) (key (get_or (ds ++ n ∷ []) i [])) ≡ i
    behind new i l (inl old) =
        let k = key (get_or ds i []) in
        rw (get_or-append ds (n ∷ []) [] i old, number_append ds (n ∷ []) k, at_held ds k i old refl) (own i old)
    behind new i l (inr last) =
        let here : length ds ≡ i = omega (arith, length-append ds (n ∷ [])) in
        rw (get_or_at ds n [] [] i here) (number_new ds n new ∙ here)

    go : (t : Bool) → holds ds (key n) ≡ t → OwnNumbers (added ds n)
    go true known = rw (added_known ds n known) own
    go false new = rw (added_new ds n new) (λ i l. behind new i l (below_or_not i (length ds)))

own_distinct_after : (ds ns : List Name) → OwnNumbers ds → OwnNumbers (distinct_after ds ns)
unfolding distinct_after
own_distinct_after ds [] own = own
own_distinct_after ds (n ∷ ns) own = own_distinct_after (added ds n) ns (own_added ds n own)

pub distinct_own_number : (ns : List Name) (i : ℕ) → i < length (distinct ns) → number_of (distinct ns) (key (get_or (distinct ns) i [])) ≡ i
unfolding distinct
distinct_own_number ns = own_distinct_after [] ns (λ i l. absurd (not-suc-le-zero l))
