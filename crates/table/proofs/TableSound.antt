-- The table of an expression within the limits is sound, clause by clause: what each cell reads (TableCells) meets what is known of the
-- expression's sets, and of its distinct names and their numbers.
use mathlib.Core.Path.{◌≡◌, refl, sym, ap, ◌∙◌}
use mathlib.Core.Bool.{true}
use mathlib.Core.List.{[]}
use Prim.Native.Nat.{ℕ, ◌+◌, ◌*◌, ◌≤◌, ◌<◌}
use native.Mathlib.Omega.{arith}
use lib.ListN.{length, get_or, get_or-eq_default}
use Rattle.meaning.specs.Names.{Name, key}
use Rattle.meaning.specs.Words.{Expr, names}
use Rattle.meaning.specs.Operations.{distinct, number_of}
use Rattle.meaning.specs.Positions.{size, rows, start}
use Rattle.meaning.proofs.OperationLaws.{at_member, member_at, key_held, distinct_member}
use Rattle.meaning.proofs.NumberLaws.{held_below, distinct_own_number}
use Rattle.meaning.proofs.SetLaws.{member, in_below}
use Rattle.meaning.proofs.Numbering.{size_names}
use Rattle.meaning.proofs.RowLaws.{length_rows, row_at_told}
use Rattle.meaning.proofs.Heart.{row_not_empty, start_not_empty}
use Rattle.meaning.proofs.Fitting.{sets_fit}
use Rattle.text.specs.Tokens.{well_formed}
use Rattle.table.specs.Cells.{operation_at, row_at, length_at, byte_at}
use Rattle.table.specs.Marks.{mark_of}
use Rattle.table.specs.Soundness.{spelling, Fit}
use Rattle.table.specs.Rules.{operations_of, table_of}
use Rattle.table.specs.Promises.{Limited, RulesTableSound}
use Rattle.table.proofs.NameNumbers.{length_operations, operation_at_told}
use Rattle.table.proofs.Limits.{distinct_short, distinct_well_formed}
use Rattle.table.proofs.TableCells.{row_cell, operation_cell, length_cell, byte_cell, spelling_cell}

module _ (e : Expr) where
  -- a start set that is not empty has a position in it
  size_some : 1 ≤ size e
  size_some =
      let (p, first) = member (start e) (start_not_empty e) in
      omega (arith, in_below p (size e) (start e) (sets_fit (size e) e (omega arith)).start_fits first)

  -- and the name there has a number
  distinct_some : 1 ≤ length (distinct (names e))
  distinct_some =
      let first : 0 < length (names e) = omega (arith, size_some, size_names e) in
      omega (arith, held_below (distinct (names e)) (key (get_or (names e) 0 [])) (key_held (names e) 0 first))

  start_is_fit : Fit (table_of e) (start e)
  unfolding table_of
  start_is_fit =
      record {
        not_empty = start_not_empty e;
        existing = λ p i. in_below p (size e) (start e) (sets_fit (size e) e (omega arith)).start_fits i;
      }

  row_is_fit : (p : ℕ) → p < size e → Fit (table_of e) (get_or (rows e) p 0)
  unfolding table_of
  row_is_fit p l =
      record {
        not_empty = rw (row_at_told e p l) (row_not_empty e p (record { low = omega arith; high = omega arith }));
        existing = λ q i. in_below q (size e) (get_or (rows e) p 0) ((sets_fit (size e) e (omega arith)).rows_fit p) i;
      }

  -- the operation of a position is the number of the name there
  operation_number : (p : ℕ) → p < size e → operation_at (table_of e) p ≡ number_of (distinct (names e)) (key (get_or (names e) p []))
  operation_number p l = operation_cell e p ∙ operation_at_told (distinct (names e)) (names e) (record { 0 = 0 }) p (rw (size_names e) at l)

  operation_exists : (p : ℕ) → p < size e → operation_at (table_of e) p < length (distinct (names e))
  operation_exists p l =
      rw (operation_number p l)
      (held_below (distinct (names e)) (key (get_or (names e) p [])) (key_held (names e) p (rw (size_names e) at l)))

  -- a distinct name is one of the names, so it stands at a position
  operation_placed : (o : ℕ) → o < length (distinct (names e)) → (p : ℕ) × (p < size e) × (operation_at (table_of e) p ≡ o)
  operation_placed o l =
      let ds = distinct (names e) in
      let (p, inside, written) = member_at (names e) (get_or ds o []) (distinct_member (names e) (get_or ds o []) (at_member ds o l)) in
      let here : p < size e = rw (size_names e) inside in
      (p, here, operation_number p here ∙ ap (λ (n : Name). number_of ds (key n)) written ∙ distinct_own_number (names e) o l)

  unused_operation : (p : ℕ) → size e ≤ p → operation_at (table_of e) p ≡ 0
  unused_operation p l =
      let os = operations_of (distinct (names e)) (names e) in
      let beyond : length os ≤ p = omega (arith, length_operations (distinct (names e)) (names e), size_names e) in
      rw (operation_cell e p, get_or-eq_default os (record { 0 = 0 }) {n = p} beyond)

  unused_row : (p : ℕ) → size e ≤ p → row_at (table_of e) p ≡ 0
  unused_row p l = row_cell e p ∙ get_or-eq_default (rows e) 0 {n = p} (rw (length_rows e) l)

  unused_length : (i : ℕ) → length (distinct (names e)) ≤ i → length_at (table_of e) i ≡ 0
  unused_length i l = length_cell e i ∙ ap length (get_or-eq_default (distinct (names e)) [] {n = i} l)

module _ (e : Expr) (limits : Limited e) where
  -- equal keys have equal numbers, and each distinct name has its own place for its number
  name_distinct : (i j : ℕ) → i < length (distinct (names e)) → j < length (distinct (names e))
      → key (spelling (table_of e) i) ≡ key (spelling (table_of e) j) → i ≡ j
  name_distinct i j l m keys =
      let ns = names e in
      let same = ap key (sym (spelling_cell e limits i l)) ∙ keys ∙ ap key (spelling_cell e limits j m) in
      sym (distinct_own_number ns i l) ∙ ap (number_of (distinct ns)) same ∙ distinct_own_number ns j m

  name_well_formed : (i : ℕ) → i < length (distinct (names e))
      → (length_at (table_of e) i ≤ 16) × (well_formed (spelling (table_of e) i) ≡ true)
  name_well_formed i l =
      let ds = distinct (names e) in
      let here = at_member ds i l in (
        rw (length_cell e i) (distinct_short e limits (get_or ds i []) here),
        ap well_formed (spelling_cell e limits i l) ∙ distinct_well_formed e limits (get_or ds i []) here,
      )

  unused_byte : (i k : ℕ) → k < 16 → length_at (table_of e) i ≤ k → byte_at (table_of e) (16 * i + k) ≡ 0
  unused_byte i k l beyond =
      byte_cell e limits i k l
      ∙ get_or-eq_default (get_or (distinct (names e)) i []) 0 {n = k} (rw (length_cell e i) at beyond)

pub rules_table_sound : RulesTableSound
unfolding table_of mark_of
rules_table_sound e limits =
    record {
      positions_some = size_some e;
      positions_most = limits.positions;
      names_some = distinct_some e;
      names_most = limits.names_few;
      operations_exist = operation_exists e;
      operations_placed = operation_placed e;
      start_fits = start_is_fit e;
      rows_fit = λ p l. rw (row_cell e p) (row_is_fit e p l);
      names_distinct = name_distinct e limits;
      names_well_formed = name_well_formed e limits;
      unused_operations = unused_operation e;
      unused_rows = unused_row e;
      unused_lengths = unused_length e;
      unused_bytes = unused_byte e limits;
      mark_agrees = refl;
    }
