-- `Table::each_placed` meets its contract: a shifted 1, less 1, is the set of all that are asked for, and what `placed` ensures is
-- the set that is held against it. Operations that fit are below 32, so each has its bit.
use mathlib.Core.Path.{◌≡◌}
use native.Mathlib.Omega.{arith}
use borrow.Author.Rules.{rules}
use Prim.Native.Nat.{◌<◌}
use lib.ListN.{length, length-take}
use lib.Seq.{get_or-take}
use Rattle.table.specs.Tests.{each_placed_test}
use Rattle.table.proofs.Placed.{bit_shifted}
use Rattle.table.proofs.SoundOperations.{operations_say}
use Rattle.table.proofs.cells.Table.each_placed.Goals as goal

pub placed-requires : goal.placed-requires
placed-requires c =
    let t = c.args.self.now in
    let all : length t.operations ≡ 64 = search rules in
    let few = c.requires.positions in
    let below = ((operations_say t.operations t.positions t.names all few).0 c.requires.operations).0 in
    λ p h.
    let used : p < t.positions = omega (arith, length-take t.positions t.operations) in
    rw (get_or-take t.positions t.operations p (record { 0 = 0 }) used) (omega (arith, below p used, c.requires.names))

pub returns : goal.returns
unfolding each_placed_test
returns c = rw (bit_shifted c.args.self.now.names (omega (arith, c.requires.names)), c.placed.ensures)
