use Rattle.std.proofs.Common.{rules, arith, ◌≡◌, ◌∙◌, sym, length, take, []}
use lib.ListN.{length-take, get_or-eq_default}
use lib.Seq.{get_or-take}
use Rattle.table.specs.Cells.{spellings, names_of}
use Rattle.table.proofs.Spellings.{length_spellings}
use Rattle.table.proofs.cells.Table.name.Goals as goal

pub returns-then-min-i : goal.returns-then-min-i
unfolding names_of
returns-then-min-i c =
    let t = c.args.self.now in
    let all : length t.lengths ≡ 32 = search rules in
    sym (get_or-eq_default (take t.names (spellings t.lengths t.bytes)) [] {n = _} (omega (arith, c.min.ensures, c.if-min-i.true, c.from-i.ensures, all, length-take t.names (spellings t.lengths t.bytes), length_spellings t.lengths t.bytes)))

pub returns : goal.returns
unfolding names_of
returns c =
    let t = c.args.self.now in
    rw c.from-i.ensures at c.spelling.ensures
    ∙ sym (get_or-take t.names (spellings t.lengths t.bytes) _ [] (omega (arith, c.from-i.ensures)))
