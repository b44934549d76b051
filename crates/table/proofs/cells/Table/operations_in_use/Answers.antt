use Rattle.std.proofs.Common.{rules, ◌≡◌, length}
use Rattle.table.proofs.Taking.{take_fitting}
use Rattle.table.proofs.cells.Table.operations_in_use.Goals as goal

pub returns : goal.returns
returns c =
    let t = c.args.self.now in
    let all : length t.operations ≡ 64 = search rules in
    take_fitting t.positions _ t.operations 64 all c.min.ensures
