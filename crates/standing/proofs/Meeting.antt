-- Which operations meet a set of positions: those of its positions. The program gathers them as a set of operations; document 01 asks of
-- each whether its permission set shares a position with the set. A position that shows the one shows the other.
use mathlib.Core.Path.{◌≡◌, sym, subst}
use mathlib.Core.Bool.{true}
use mathlib.Core.List.{List}
use mathlib.Core.Logic.{◌↔◌, ⊎_elim}
use Prim.Native.Nat.{ℕ, ◌^◌, ◌<◌}
use native.Mathlib.Omega.{arith}
use borrow.Author.Tests.{lt-ltb, le-ltb}
use lib.Bits.{bit_and}
use lib.ListN.{length, get_or, length-map}
use Rattle.meaning.specs.Sets.{mem, In, meeting}
use Rattle.meaning.proofs.SetLaws.{none_in, in_single, in_shared, both_decide, below_or_not, members_below, member, member_not_none, not_empty_says, in_union_of, union_of_in}
use Rattle.table.specs.declared.numbers.Operation.{Operation}
use Rattle.table.specs.Following.{positions_with, permission_set}
use Rattle.table.proofs.PositionSets.{in_positions_with}
use Rattle.standing.specs.declared.records.Session.{Session}
use Rattle.standing.specs.Searching.{bit_of, operations_in, operations_by}
use Rattle.standing.proofs.SmallSets.{mapped_at}

abbrev none : Operation
none = record { 0 = 0 }

-- some position of the set has operation o
abbrev pub Placed : List Operation → ℕ → ℕ → Type 0
Placed os s o = (p : ℕ) × (p < length os) × In p s × ((get_or os p none).0 ≡ o)

pub in_bit : (o n : ℕ) → In o (bit_of n) ↔ ((n < 64) × (o ≡ n))
unfolding bit_of
in_bit o n =
    ⊎_elim
    (λ few. rw (lt-ltb n 64 few) (λ h. (few, (in_single o n).0 h), λ h. (in_single o n).1 h.1))
    (λ many. rw (le-ltb n 64 many) (λ h. none_in o h, λ h. absurd (omega (arith, h.0, many))))
    (below_or_not n 64)

pub operations_below : (os : List Operation) (s : ℕ) → operations_in os s < 2 ^ 64
unfolding operations_in
operations_below os s =
    members_below 64 _
    (λ o h.
    let i = in_union_of _ s o h in
    let there : i.0 < length os = subst (λ (n : ℕ). i.0 < n) (length-map os (λ x. bit_of x.0)) i.1 in
    let bit = (in_bit o (get_or os i.0 none).0).0 (subst (In o) (mapped_at (λ x. bit_of x.0) os none i.0 there) i.3) in
    subst (λ (n : ℕ). n < 64) (sym bit.1) bit.0)

pub in_operations : (os : List Operation) (s o : ℕ) → o < 64 → In o (operations_in os s) ↔ Placed os s o
unfolding operations_in
in_operations os s o few = (
  λ h.
      let i = in_union_of _ s o h in
      let there : i.0 < length os = subst (λ (n : ℕ). i.0 < n) (length-map os (λ x. bit_of x.0)) i.1 in
      let bit = (in_bit o (get_or os i.0 none).0).0 (subst (In o) (mapped_at (λ x. bit_of x.0) os none i.0 there) i.3) in
      (i.0, there, i.2, sym bit.1),
  λ h.
      let bit = (in_bit o (get_or os h.0 none).0).1 (subst (λ (n : ℕ). n < 64) (sym h.3) few, sym h.3) in
      union_of_in _ s o h.0 (subst (λ (n : ℕ). h.0 < n) (sym (length-map os (λ x. bit_of x.0))) h.1) h.2
      (subst (In o) (sym (mapped_at (λ x. bit_of x.0) os none h.0 h.1)) bit),
)

pub meets_says : (os : List Operation) (s o : ℕ) → (meeting s (positions_with os o) ≡ true) ↔ Placed os s o
meets_says os s o = (
  λ h.
      let m = member (bit_and s (positions_with os o)) ((not_empty_says _).0 h) in
      let both = (in_shared m.0 s (positions_with os o)).0 m.1 in
      let at = (in_positions_with os none o m.0).0 both.1 in
      (m.0, at.0, both.0, at.1),
  λ h.
      (not_empty_says _).1
      (member_not_none h.0 _ ((in_shared h.0 s (positions_with os o)).1 (h.2, (in_positions_with os none o h.0).1 (h.1, h.3)))),
)

-- the two agree
pub operation_meets : (s : Session) (set o : ℕ) → o < 64 → mem o (operations_by s set) ≡ meeting set (permission_set s.table o)
unfolding permission_set
operation_meets s set o few = both_decide _ _ (in_operations _ set o few) (meets_says _ set o)
