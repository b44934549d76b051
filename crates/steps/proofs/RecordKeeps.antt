-- The record alone stays sound. What the set shares with a permission set that it meets is not empty, lies within the set, and
-- holds positions of one operation only. The union of the rows of existing positions is not empty and within the positions,
-- since each of those rows is.
use mathlib.Core.Path.{◌≡◌, sym, ap, ◌∙◌}
use mathlib.Core.Bool.{true}
use mathlib.Core.Logic.{⊎_elim}
use Prim.Native.Nat.{ℕ, ◌<◌, ◌≤◌}
use native.Mathlib.Omega.{arith}
use lib.Bits.{bit_and}
use lib.ListN.{length, take, length-take, get_or-eq_default}
use lib.Seq.{get_or-take}
use Rattle.meaning.specs.Sets.{In, meeting, union_of}
use Rattle.meaning.proofs.SetLaws.{in_shared, below_or_not, member, member_not_none, not_empty_says, in_union_of, union_of_in}
use Rattle.table.specs.Cells.{operation_at, row_at}
use Rattle.table.specs.Following.{permission_set}
use Rattle.table.specs.Soundness.{Fit, Sound as TableSound}
use Rattle.table.specs.declared.cells.Table.{Table}
use Rattle.table.specs.declared.numbers.Operation.{Operation}
use Rattle.table.proofs.PositionSets.{in_positions_with}
use Rattle.standing.specs.declared.entries.Entry.{Entry}
use Rattle.standing.specs.declared.records.Session.{Session}
use Rattle.standing.specs.Soundness.{RecordSound, meets_set}
use Rattle.steps.specs.Steps.{opening, granting, counting, freed}
use Rattle.standing.proofs.States.{free_not_running, same_runner}

-- a position of an operation's permission set has that operation
permitted_at : (t : Table) (o p : ℕ) → In p (permission_set t o) → operation_at t p ≡ o
unfolding permission_set
permitted_at t o p i =
    let there = (in_positions_with (take t.positions t.operations) (record { 0 = 0 }) o p).0 i in
    let few : p < t.positions = omega (arith, there.0, length-take t.positions t.operations) in
    ap (λ (x : Operation). x.0) (sym (get_or-take t.positions t.operations p (record { 0 = 0 }) few)) ∙ there.1

shared_fits : (t : Table) (s o : ℕ) → Fit t s → meeting s (permission_set t o) ≡ true → Fit t (bit_and s (permission_set t o))
shared_fits t s o fit met =
    record {
      not_empty = (not_empty_says (bit_and s (permission_set t o))).0 met;
      existing = λ p i. fit.existing p ((in_shared p s (permission_set t o)).0 i).0;
    }

-- a row that is not empty is one of the rows
row_there : (t : Table) (p : ℕ) → Fit t (row_at t p) → p < length t.rows
row_there t p fit =
    ⊎_elim (λ there. there) (λ beyond. absurd (fit.not_empty (get_or-eq_default t.rows 0 beyond)))
    (below_or_not p (length t.rows))

union_fits : (t : Table) (s : ℕ) → TableSound t → Fit t s → Fit t (union_of t.rows s)
union_fits t s sound fit =
    let p = member s fit.not_empty in
    let row = sound.rows_fit p.0 (fit.existing p.0 p.1) in
    let q = member (row_at t p.0) row.not_empty in
    record {
      not_empty = member_not_none q.0 _ (union_of_in t.rows s q.0 p.0 (row_there t p.0 row) p.1 q.1);
      existing =
          λ q i.
          let from = in_union_of t.rows s q i in
          (sound.rows_fit from.0 (fit.existing from.0 from.2)).existing q from.3;
    }

pub opening_sound : (t : Table) → TableSound t → RecordSound (opening t)
opening_sound t sound =
    record {
      table_sound = sound;
      set_fits = sound.start_fits;
      running_below = λ u e. free_not_running u e;
      running_one = λ u e. free_not_running u e;
      count_most = omega arith;
    }

-- n entries are in use then
pub granting_sound : (s : Session) (e : Entry) (n : ℕ) → RecordSound s → meets_set s e.operation.0 ≡ true → e.terminal.0 < 64
    → n ≤ 64 → RecordSound (granting s e n)
granting_sound s e n sound met few most =
    let o = e.operation.0 in
    record {
      table_sound = sound.table_sound;
      set_fits = shared_fits s.table s.set o sound.set_fits met;
      running_below = λ u q. omega (arith, same_runner e.terminal u q);
      running_one = λ u q. (o, λ p i. permitted_at s.table o p ((in_shared p s.set (permission_set s.table o)).0 i).1);
      count_most = most;
    }

pub counting_sound : (s : Session) (n : ℕ) → RecordSound s → n ≤ 64 → RecordSound (counting s n)
counting_sound s n sound most =
    record {
      table_sound = sound.table_sound;
      set_fits = sound.set_fits;
      running_below = sound.running_below;
      running_one = sound.running_one;
      count_most = most;
    }

pub freed_sound : (s : Session) → RecordSound s → RecordSound (freed s)
freed_sound s sound =
    record {
      table_sound = sound.table_sound;
      set_fits = union_fits s.table s.set sound.table_sound sound.set_fits;
      running_below = λ u e. free_not_running u e;
      running_one = λ u e. free_not_running u e;
      count_most = sound.count_most;
    }
