-- Each way through `place`, as its contract has it.
use mathlib.Core.Path.{◌≡◌, refl}
use Prim.Native.Nat.{◌≤◌, ◌<◌}
use borrow.Author.Tests.{lt-ltb, le-ltb, le-leb, lt-leb}
use lib.ListN.{length}
use Rattle.meaning.specs.Names.{Name, key}
use Rattle.table.specs.Cells.{names_of}
use Rattle.table.specs.Following.{found_in}
use Rattle.table.specs.declared.cells.Table.{Table}
use Rattle.std.specs.Prelude.{Option, Some, None, Result, Ok, Err}
use Rattle.text.specs.declared.faults.Fault.{Fault}
use Rattle.text.specs.declared.faults.Fault.TheVariants.{LongName, Positions, Names}
use Rattle.parts.specs.declared.joining.Part.{Part}
use Rattle.table.specs.declared.numbers.Operation.{Operation}
use Rattle.parts.specs.Parts.{named, positioned, placed}

module _ (t : Table) (n : Name) (r : Result Part Fault) where
  pub placed_long : 16 < length n → r ≡ Err LongName → r ≡ placed t n
  unfolding placed
  placed_long long is = rw (is, lt-ltb 16 (length n) long) refl

  module _ (short : length n ≤ 16) where
    pub placed_full : 64 ≤ t.positions → r ≡ Err Positions → r ≡ placed t n
    unfolding placed
    placed_full full is = rw (is, le-ltb 16 (length n) short, le-leb 64 t.positions full) refl

    -- f is what was found of the name among those of the table
    module _ (room : t.positions < 64) (f : Option Operation) (found : f ≡ found_in (names_of t) (key n)) where
      pub placed_known : (o : Operation) → f ≡ Some o → r ≡ Ok (positioned t o.0) → r ≡ placed t n
      unfolding placed
      placed_known o e is = rw (is, le-ltb 16 (length n) short, lt-leb 64 t.positions room, ← found, e) refl

      pub placed_one_too_many : f ≡ None → 32 ≤ t.names → r ≡ Err Names → r ≡ placed t n
      unfolding placed
      placed_one_too_many e many is =
          rw (is, le-ltb 16 (length n) short, lt-leb 64 t.positions room, ← found, e, le-leb 32 t.names many) refl

      pub placed_new : f ≡ None → t.names < 32 → r ≡ Ok (positioned (named t n) t.names) → r ≡ placed t n
      unfolding placed
      placed_new e few is =
          rw (is, le-ltb 16 (length n) short, lt-leb 64 t.positions room, ← found, e, lt-leb 32 t.names few) refl
