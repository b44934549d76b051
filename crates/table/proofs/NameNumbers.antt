-- The operations of names, which are the numbers of names among the distinct ones: one for each name, at its place. They are equal exactly
-- where the keys are, and more names behind change none of them.
use mathlib.Core.Path.{◌≡◌, refl, sym, ap, ◌∙◌}
use mathlib.Core.Bool.{Bool, true, false}
use mathlib.Core.List.{List, [], ◌∷◌, ◌++◌, Memᴰ}
use mathlib.Core.Logic.{◌↔◌}
use Prim.Native.Nat.{ℕ, zero, suc, ◌<◌}
use native.Mathlib.Nat.{not-suc-le-zero, le_of_suc-le-suc}
use lib.ListN.{length, get_or}
use Rattle.meaning.specs.Names.{Name, key}
use Rattle.meaning.specs.Operations.{holds, added, distinct, number_of}
use Rattle.meaning.proofs.OperationLaws.{added_known, added_new, distinct_snoc, distinct_holds, key_held}
use Rattle.meaning.proofs.NumberLaws.{number_decides, number_append}
use Rattle.table.specs.declared.numbers.Operation.{Operation}
use Rattle.table.specs.Rules.{operations_of}

pub length_operations : (ds ns : List Name) → length (operations_of ds ns) ≡ length ns
unfolding operations_of
length_operations ds [] = refl
length_operations ds (n ∷ ns) = ap suc (length_operations ds ns)

pub operation_at_told : (ds ns : List Name) (z : Operation) (p : ℕ) → p < length ns
    → (get_or (operations_of ds ns) p z).0 ≡ number_of ds (key (get_or ns p []))
unfolding operations_of
operation_at_told ds [] z p l = absurd (not-suc-le-zero l)
operation_at_told ds (n ∷ ns) z zero l = refl
operation_at_told ds (n ∷ ns) z (suc p) l = operation_at_told ds ns z p (le_of_suc-le-suc l)

-- so the operation at a place is that of a held key exactly if the name there has the key
pub operation_is_key : (ns : List Name) (z : Operation) (p : ℕ) (k : Name) → p < length ns → holds (distinct ns) k ≡ true
    → ((get_or (operations_of (distinct ns) ns) p z).0 ≡ number_of (distinct ns) k) ↔ (key (get_or ns p []) ≡ k)
operation_is_key ns z p k l held =
    let there = operation_at_told (distinct ns) ns z p l in (
      λ h. number_decides (distinct ns) (key (get_or ns p [])) k (key_held ns p l) held (sym there ∙ h),
      λ h. there ∙ ap (number_of (distinct ns)) h,
    )

pub operations_append : (ds ms ns : List Name) → operations_of ds (ms ++ ns) ≡ operations_of ds ms ++ operations_of ds ns
unfolding operations_of
operations_append ds [] ns = refl
operations_append ds (m ∷ ms) ns =
    ap (λ (os : List Operation). record { 0 = number_of ds (key m) } ∷ os) (operations_append ds ms ns)

-- of names that are held, they do not change when more names come to be distinct
pub operations_kept : (ds es ns : List Name) → ((n : Name) → Memᴰ n ns → holds ds (key n) ≡ true)
    → operations_of (ds ++ es) ns ≡ operations_of ds ns
unfolding operations_of
operations_kept ds es [] held = refl
operations_kept ds es (n ∷ ns) held =
    rw (number_append ds es (key n), held n (Memᴰ.head refl), operations_kept ds es ns (λ m i. held m (Memᴰ.tail i)))

pub operations_added : (ds : List Name) (n : Name) (ns : List Name) → ((m : Name) → Memᴰ m ns → holds ds (key m) ≡ true)
    → operations_of (added ds n) ns ≡ operations_of ds ns
operations_added ds n ns held = go (holds ds (key n)) refl
  where
    go : (t : Bool) → holds ds (key n) ≡ t → operations_of (added ds n) ns ≡ operations_of ds ns
    go true known = rw (added_known ds n known)
    go false new = rw (added_new ds n new) (operations_kept ds (n ∷ []) ns held)

-- one more name has one more operation
pub operations_snoc : (ns : List Name) (n : Name)
    → operations_of (distinct (ns ++ n ∷ [])) (ns ++ n ∷ [])
    ≡ operations_of (distinct ns) ns ++ record { 0 = number_of (added (distinct ns) n) (key n) } ∷ []
unfolding operations_of
operations_snoc ns n =
    rw (distinct_snoc ns n, operations_append (added (distinct ns) n) ns (n ∷ []), operations_added (distinct ns) n ns (distinct_holds ns))
