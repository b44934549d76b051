-- `all` tests each row with its place.
use Rattle.std.proofs.Common.{rules, arith, ◌∙◌}
use borrow.Author.Tests.{tests}
use Rattle.std.proofs.lemmas.Iterator.{YieldsList-from_slice}
use Rattle.std.proofs.lemmas.Iterator.Consumers.{YieldsList-from_enumerate}
use Rattle.std.proofs.lemmas.Iterator.Search.{all_from_yields_List}
use Rattle.table.specs.Tests.{row_test}
use Rattle.table.proofs.Passing.{all_each}
use Rattle.table.proofs.cells.Table.rows_fit.Goals as goal

pub returns : goal.returns
returns c =
    let t = c.args.self.now in
    all_from_yields_List (λ q. row_test q.1 q.0 t.positions) _ _ _ c.all.ensures.ran
    (YieldsList-from_enumerate (YieldsList-from_slice t.rows (cc)) (cc))
    (λ x b q k. search (rules, tests))
    ∙ all_each (λ p row. row_test row p t.positions) 0 t.rows 64 (omega arith)
