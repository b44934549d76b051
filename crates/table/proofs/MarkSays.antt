-- "The mark says the path is deterministic: 1 if no name stands at two positions, else 0." No operation stands twice in a list exactly if
-- equal operations stand at equal places; and the operations of an expression are equal exactly where the names' keys are.
use mathlib.Core.Path.{◌≡◌, refl, sym, ap, ◌∙◌}
use mathlib.Core.Bool.{Bool, true, false, cond, not, false≢true, and-eq-true_iff}
use mathlib.Core.List.{List, [], ◌∷◌}
use mathlib.Core.Logic.{◌↔◌, ⊎_elim, inl, inr}
use Prim.Native.Nat.{ℕ, zero, suc, ◌<◌}
use native.Mathlib.Nat.{not-suc-le-zero, le_of_suc-le-suc}
use native.Mathlib.Omega.{arith}
use borrow.Author.Tests.{eqb-true, eq-eqb, not-true}
use lib.Dec.{eqb}
use lib.ListN.{length, get_or}
use Rattle.meaning.specs.Names.{Name, key}
use Rattle.meaning.specs.Words.{Expr, names}
use Rattle.meaning.specs.Operations.{distinct}
use Rattle.meaning.proofs.OperationLaws.{key_held}
use Rattle.meaning.proofs.SetLaws.{either_true}
use Rattle.meaning.proofs.Numbering.{size_names}
use Rattle.table.specs.declared.numbers.Operation.{Operation}
use Rattle.table.specs.Marks.{among, none_twice, mark_of}
use Rattle.table.specs.Rules.{operations_of, table_of}
use Rattle.table.specs.Promises.{MarkSays}
use Rattle.table.proofs.NameNumbers.{length_operations, operation_at_told, operation_is_key}
use Rattle.table.proofs.TableCells.{operations_in_use}

module _ (z : Operation) where
  -- an operation is among those of a list exactly if it stands at some place
  among_at : (os : List Operation) (o : ℕ) → among os o ≡ true → (p : ℕ) × (p < length os) × ((get_or os p z).0 ≡ o)
  unfolding among
  among_at [] o h = absurd (false≢true h)
  among_at (x ∷ os) o h =
      ⊎_elim
      (λ here. (0, omega arith, eqb-true x.0 o here))
      (λ there. let (p, l, e) = among_at os o there in (suc p, omega arith, e))
      ((either_true (eqb x.0 o) (among os o)).0 h)

  at_among : (os : List Operation) (o p : ℕ) → p < length os → (get_or os p z).0 ≡ o → among os o ≡ true
  unfolding among
  at_among [] o p l e = absurd (not-suc-le-zero l)
  at_among (x ∷ os) o zero l e = (either_true (eqb x.0 o) (among os o)).1 (inl (eq-eqb x.0 o e))
  at_among (x ∷ os) o (suc p) l e = (either_true (eqb x.0 o) (among os o)).1 (inr (at_among os o p (le_of_suc-le-suc l) e))

  -- equal operations stand at equal places
  abbrev Apart : List Operation → Type 0
  Apart os = (p q : ℕ) → p < length os → q < length os → (get_or os p z).0 ≡ (get_or os q z).0 → p ≡ q

  none_twice_apart : (os : List Operation) → none_twice os ≡ true → Apart os
  unfolding none_twice
  none_twice_apart [] h p q l m e = absurd (not-suc-le-zero l)
  none_twice_apart (x ∷ os) h p q l m e =
      let (alone, rest) = (and-eq-true_iff (not (among os x.0)) (none_twice os)).0 h in
      go (none_twice_apart os rest) (not-true (among os x.0) alone) p q l m e
    where
      again : among os x.0 ≡ false → (r : ℕ) → r < length os → (get_or os r z).0 ≡ x.0 → ⊥
      again new r l e = false≢true (sym new ∙ at_among os x.0 r l e)

      go : Apart os → among os x.0 ≡ false → Apart (x ∷ os)
      go below new zero zero l m e = refl
      go below new zero (suc q) l m e = absurd (again new q (le_of_suc-le-suc m) (sym e))
      go below new (suc p) zero l m e = absurd (again new p (le_of_suc-le-suc l) e)
      go below new (suc p) (suc q) l m e = ap suc (below p q (le_of_suc-le-suc l) (le_of_suc-le-suc m) e)

  apart_none_twice : (os : List Operation) → Apart os → none_twice os ≡ true
  unfolding none_twice
  apart_none_twice [] apart = refl
  apart_none_twice (x ∷ os) apart =
      (and-eq-true_iff (not (among os x.0)) (none_twice os)).1
      (new (among os x.0) refl, apart_none_twice os (λ p q l m e. omega (arith, apart (suc p) (suc q) (omega arith) (omega arith) e)))
    where
      new : (t : Bool) → among os x.0 ≡ t → not t ≡ true
      new true again =
          let (p, l, e) = among_at os x.0 again in
          absurd (omega (arith, apart 0 (suc p) (omega arith) (omega arith) (sym e)))
      new false h = refl

-- a mark is 1 exactly if its test holds
mark_true : (t : Bool) → ◌≡◌ {A = ℕ} (cond t 1 0) 1 ↔ (t ≡ true)
mark_true true = (λ h. refl, λ h. refl)
mark_true false = (λ h. absurd (omega arith), λ h. absurd (false≢true h))

mark_of_table : (e : Expr) → (table_of e).mark ≡ cond (none_twice (operations_of (distinct (names e)) (names e))) 1 0
unfolding table_of mark_of
mark_of_table e = ap (λ (os : List Operation). cond (none_twice os) 1 0) (operations_in_use e)

-- operations of names are equal exactly where the keys are
same_operation : (ns : List Name) (z : Operation) (p q : ℕ) → p < length ns → q < length ns
    → ((get_or (operations_of (distinct ns) ns) p z).0 ≡ (get_or (operations_of (distinct ns) ns) q z).0)
    ↔ (key (get_or ns p []) ≡ key (get_or ns q []))
same_operation ns z p q l m =
    rw (operation_at_told (distinct ns) ns z q m) (operation_is_key ns z p (key (get_or ns q [])) l (key_held ns q m))

pub mark_says : MarkSays
mark_says e limits =
    let ns = names e in
    let os = operations_of (distinct ns) ns in
    let z : Operation = record { 0 = 0 } in
    let as_many = length_operations (distinct ns) ns in
    let test = mark_true (none_twice os) in
    rw (mark_of_table e, size_names e) (
      λ h p q l m keys. none_twice_apart z os (test.0 h) p q (rw as_many l) (rw as_many m) ((same_operation ns z p q l m).1 keys),
      λ h. test.1 (apart_none_twice z os (rw as_many (λ p q l m same. h p q l m ((same_operation ns z p q l m).0 same)))),
    )
