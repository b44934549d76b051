-- Demand 2: the table of an expression permits a history exactly if the history begins a repetition. The table's permission sets are the
-- expression's, since a name's number decides its key; and its rows are the expression's and then empty ones, which add nothing. So it
-- permits what the rules' own rows and sets permit, and that is proved already.
use mathlib.Core.Path.{◌≡◌, refl, sym, ap, ◌∙◌}
use mathlib.Core.Bool.{Bool, true, false, cond, false≢true}
use mathlib.Core.List.{List, [], ◌∷◌, ◌++◌}
use mathlib.Core.Logic.{◌↔◌}
use Prim.Native.Nat.{ℕ, zero, suc, ◌-◌, ◌<◌, ◌/◌}
use lib.Bits.{bit_or, bit_and}
use lib.ListN.{length, replicate}
use Rattle.meaning.specs.Names.{Name}
use Rattle.meaning.specs.Words.{Expr, names}
use Rattle.meaning.specs.Operations.{holds, distinct, number_of}
use Rattle.meaning.specs.Sets.{mem, In, union_of}
use Rattle.meaning.specs.Positions.{rows, start, permission}
use Rattle.meaning.specs.Following.{permits}
use Rattle.meaning.proofs.OperationLaws.{key_held}
use Rattle.meaning.proofs.SetLaws.{none_in, same_sets}
use Rattle.meaning.proofs.Numbering.{numbered_from_the_left}
use Rattle.meaning.proofs.Heart.{permits_begins}
use Rattle.table.specs.Following.{positions_with, permission_set, found_in, permission_found, permission_of, table_permits}
use Rattle.std.specs.Prelude.{Some, None}
use Rattle.table.specs.Rules.{padded, operations_of, table_of}
use Rattle.table.specs.Promises.{Limited, RulesTablePermits}
use Rattle.table.proofs.NameNumbers.{length_operations, operation_is_key}
use Rattle.table.proofs.PositionSets.{in_positions_with}
use Rattle.table.proofs.TableCells.{operations_in_use, names_of_table}

-- what is permitted depends on the unions of rows and on the permission sets only
permits_agree : (rs qs : List ℕ) (f g : Name → ℕ) → ((s : ℕ) → union_of rs s ≡ union_of qs s) → ((k : Name) → f k ≡ g k)
    → (s : ℕ) (h : List Name) → permits rs f s h ≡ permits qs g s h
unfolding permits
permits_agree rs qs f g unions sets s [] = refl
permits_agree rs qs f g unions sets s (k ∷ h) =
    rw (sets k, unions (bit_and s (g k)), permits_agree rs qs f g unions sets (union_of qs (bit_and s (g k))) h)

-- empty rows behind the rows add nothing
union_of_empty : (m s : ℕ) → union_of (replicate m 0) s ≡ 0
unfolding union_of
union_of_empty zero s = refl
union_of_empty (suc m) s = rw (union_of_empty m (s / 2)) (either (mem 0 s))
  where
    either : (t : Bool) → bit_or (cond t 0 0) 0 ≡ 0
    either true = refl
    either false = refl

union_of_behind : (rs : List ℕ) (m s : ℕ) → union_of (rs ++ replicate m 0) s ≡ union_of rs s
unfolding union_of
union_of_behind [] m s = union_of_empty m s
union_of_behind (r ∷ rs) m s = ap (bit_or (cond (mem 0 s) r 0)) (union_of_behind rs m (s / 2))

union_of_padded : (n : ℕ) (rs : List ℕ) (s : ℕ) → union_of (padded n 0 rs) s ≡ union_of rs s
unfolding padded
union_of_padded n rs s = union_of_behind rs (n - length rs) s

module _ (e : Expr) where
  -- a position has the number of a held key exactly if it has the key
  in_permission_by_number : (k : Name) → holds (distinct (names e)) k ≡ true → (p : ℕ)
      → In p (positions_with (operations_of (distinct (names e)) (names e)) (number_of (distinct (names e)) k)) ↔ In p (permission e k)
  in_permission_by_number k held p =
      let ns = names e in
      let as_many = length_operations (distinct ns) ns in
      let numbered = in_positions_with (operations_of (distinct ns) ns) (record { 0 = 0 }) (number_of (distinct ns) k) p in
      let written = (numbered_from_the_left e).from_the_left p k in
      let by_key : (l : p < length ns) → _ = λ l. operation_is_key ns (record { 0 = 0 }) p k l held in (
        λ h. let (l, number) = numbered.0 h in written.1 (rw as_many at l, (by_key (rw as_many at l)).0 number),
        λ h. let (l, same_key) = written.0 h in numbered.1 (rw as_many l, (by_key l).1 same_key),
      )

  -- a key that is not held has no position
  permission_of_none : (k : Name) → holds (distinct (names e)) k ≡ false → permission e k ≡ 0
  permission_of_none k unheld =
      same_sets (permission e k) 0 (λ p. (
        λ h.
            let (inside, same_key) = ((numbered_from_the_left e).from_the_left p k).0 h in
            absurd (false≢true (sym unheld ∙ (rw same_key at (key_held (names e) p inside)))),
        none_in p,
      ))

  permission_agrees : Limited e → (k : Name) → permission_of (table_of e) k ≡ permission e k
  unfolding permission_of found_in permission_set
  permission_agrees limits k = rw (names_of_table e limits) (go (holds (distinct (names e)) k) refl)
    where
      go : (t : Bool) → holds (distinct (names e)) k ≡ t
          → permission_found (table_of e) (cond t (Some (record { 0 = number_of (distinct (names e)) k })) None) ≡ permission e k
      go true held = rw (operations_in_use e) (same_sets _ (permission e k) (in_permission_by_number k held))
      go false unheld = sym (permission_of_none k unheld)

pub rules_table_permits : RulesTablePermits
unfolding table_permits table_of
rules_table_permits e limits h =
    let t = table_of e in
    let agree = permits_agree t.rows (rows e) (permission_of t) (permission e) (union_of_padded 64 (rows e))
    (permission_agrees e limits) in
    rw (agree (start e) h) (permits_begins e h)
