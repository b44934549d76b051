-- The tests of a table say that it is sound, and nothing less: each is true exactly if its clauses of `Sound` hold.
use mathlib.Core.Path.{◌≡◌}
use mathlib.Core.Bool.{Bool, true, ◌&&◌, and-eq-true_iff}
use mathlib.Core.Logic.{◌↔◌}
use Prim.Native.Nat.{ℕ, ◌≤◌}
use borrow.Author.Tests.{eqb-true, eq-eqb, leb-true, le-leb}
use lib.Dec.{eqb, leb}
use Rattle.table.specs.declared.cells.Table.{Table}
use Rattle.table.specs.Marks.{mark_of}
use Rattle.table.specs.Soundness.{Fit, Sound}
use Rattle.table.specs.Tests.{counts_test, operations_test, each_placed_test, fit_test, rows_test, names_test, sound_test}
use Rattle.table.proofs.SoundNames.{tested_names_sound, sound_names_tested}
use Rattle.table.proofs.SoundOperations.{operations_say, each_placed_says}
use Rattle.table.proofs.SoundSets.{FitsIn, fit_says, rows_say}
use Rattle.table.proofs.Whole.{Whole}

-- "it has 1 to 64 positions and 1 to 32 names"
pub record Counted (positions names : ℕ) : Type 0 where
  pub positions_some : 1 ≤ positions
  pub positions_most : positions ≤ 64
  pub names_some : 1 ≤ names
  pub names_most : names ≤ 32

pub counts_say : (positions names : ℕ) → counts_test positions names ≡ true → Counted positions names
counts_say positions names h =
    let a = leb 1 positions in
    let b = leb positions 64 in
    let c = leb 1 names in
    let to-c = (and-eq-true_iff (a && b && c) (leb names 32)).0 h in
    let to-b = (and-eq-true_iff (a && b) c).0 to-c.0 in
    let both = (and-eq-true_iff a b).0 to-b.0 in
    record {
      positions_some = leb-true 1 positions both.0;
      positions_most = leb-true positions 64 both.1;
      names_some = leb-true 1 names to-b.1;
      names_most = leb-true names 32 to-c.1;
    }

fits_in_fit : (t : Table) (s : ℕ) → FitsIn t.positions s → Fit t s
fits_in_fit t s f = record { not_empty = f.0; existing = f.1 }

fit_fits_in : (t : Table) (s : ℕ) → Fit t s → FitsIn t.positions s
fit_fits_in t s f = (f.not_empty, f.existing)

-- every test is true
record Tested (t : Table) : Type 0 where
  counts : counts_test t.positions t.names ≡ true
  operations : operations_test t.operations t.positions t.names ≡ true
  placed : each_placed_test t.operations t.positions t.names ≡ true
  start : fit_test t.start t.positions ≡ true
  rows : rows_test t.rows t.positions ≡ true
  names : names_test t.names t.lengths t.bytes ≡ true
  mark : eqb t.mark (mark_of t) ≡ true

true_tested : (t : Table) → sound_test t ≡ true → Tested t
unfolding sound_test
true_tested t h =
    let a = counts_test t.positions t.names in
    let b = operations_test t.operations t.positions t.names in
    let c = each_placed_test t.operations t.positions t.names in
    let d = fit_test t.start t.positions in
    let e = rows_test t.rows t.positions in
    let f = names_test t.names t.lengths t.bytes in
    let to-f = (and-eq-true_iff (a && b && c && d && e && f) (eqb t.mark (mark_of t))).0 h in
    let to-e = (and-eq-true_iff (a && b && c && d && e) f).0 to-f.0 in
    let to-d = (and-eq-true_iff (a && b && c && d) e).0 to-e.0 in
    let to-c = (and-eq-true_iff (a && b && c) d).0 to-d.0 in
    let to-b = (and-eq-true_iff (a && b) c).0 to-c.0 in
    let both = (and-eq-true_iff a b).0 to-b.0 in
    record {
      counts = both.0;
      operations = both.1;
      placed = to-b.1;
      start = to-c.1;
      rows = to-d.1;
      names = to-e.1;
      mark = to-f.1;
    }

tested_true : (t : Table) → Tested t → sound_test t ≡ true
unfolding sound_test
tested_true t h = rw (h.counts, h.operations, h.placed, h.start, h.rows, h.names, h.mark)

tested_sound : (t : Table) → Whole t → Tested t → Sound t
tested_sound t w h =
    let c = counts_say t.positions t.names h.counts in
    let few = c.positions_most in
    let operations = (operations_say t.operations t.positions t.names w.operations few).0 h.operations in
    let rows = (rows_say t.rows t.positions w.rows few).0 h.rows in
    let names = tested_names_sound t.names t.lengths t.bytes w.lengths w.bytes c.names_most h.names in
    record {
      positions_some = c.positions_some;
      positions_most = few;
      names_some = c.names_some;
      names_most = c.names_most;
      operations_exist = operations.0;
      operations_placed = (each_placed_says t.operations t.positions t.names w.operations few).0 h.placed;
      start_fits = fits_in_fit t _ ((fit_says t.start t.positions).0 h.start);
      rows_fit = λ p l. fits_in_fit t _ (rows.0 p l);
      names_distinct = names.distinct;
      names_well_formed = names.well_formed;
      unused_operations = operations.1;
      unused_rows = rows.1;
      unused_lengths = names.unused_lengths;
      unused_bytes = names.unused_bytes;
      mark_agrees = eqb-true t.mark (mark_of t) h.mark;
    }

sound_tested : (t : Table) → Whole t → Sound t → Tested t
sound_tested t w s =
    let few = s.positions_most in
    record {
      counts = rw (le-leb _ _ s.positions_some, le-leb _ _ few, le-leb _ _ s.names_some, le-leb _ _ s.names_most);
      operations = (operations_say t.operations t.positions t.names w.operations few).1
          (s.operations_exist, s.unused_operations);
      placed = (each_placed_says t.operations t.positions t.names w.operations few).1 s.operations_placed;
      start = (fit_says t.start t.positions).1 (fit_fits_in t _ s.start_fits);
      rows = (rows_say t.rows t.positions w.rows few).1 (λ p l. fit_fits_in t _ (s.rows_fit p l), s.unused_rows);
      names = sound_names_tested t.names t.lengths t.bytes w.lengths w.bytes s.names_most
          (record {
            distinct = s.names_distinct;
            well_formed = s.names_well_formed;
            unused_lengths = s.unused_lengths;
            unused_bytes = s.unused_bytes;
          });
      mark = eq-eqb t.mark (mark_of t) s.mark_agrees;
    }

-- an answer that is what the tests say is whether the table is sound
pub tests_decide_sound : (t : Table) → Whole t → (r : Bool) → r ≡ sound_test t → (r ≡ true) ↔ Sound t
tests_decide_sound t w r e =
    rw e
    (λ h. tested_sound t w (true_tested t h), λ s. tested_true t (sound_tested t w s))
