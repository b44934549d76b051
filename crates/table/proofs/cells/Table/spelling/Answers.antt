use Rattle.std.proofs.Common.{rules, ◌≡◌, length}
use Rattle.table.proofs.Spellings.{spelling_read}
use Rattle.table.proofs.cells.Table.spelling.Goals as goal

pub returns : goal.returns
returns c =
    let t = c.args.self.now in
    let all : length t.lengths ≡ 32 = search rules in
    let every : length t.bytes ≡ 512 = search rules in
    spelling_read c.args.i c.min-to.result t.lengths t.bytes all every c.requires (rw c.from.ensures at c.min-to.ensures)
