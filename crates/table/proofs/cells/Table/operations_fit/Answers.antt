-- `all` tests each operation with its place.
use Rattle.std.proofs.Common.{rules, arith, ◌∙◌}
use borrow.Author.Tests.{tests}
use Rattle.std.proofs.lemmas.Iterator.{YieldsList-from_slice}
use Rattle.std.proofs.lemmas.Iterator.Consumers.{YieldsList-from_enumerate}
use Rattle.std.proofs.lemmas.Iterator.Search.{all_from_yields_List}
use Rattle.table.specs.Tests.{operation_test}
use Rattle.table.proofs.Passing.{all_each}
use Rattle.table.proofs.cells.Table.operations_fit.Goals as goal

pub returns : goal.returns
returns c =
    let t = c.args.self.now in
    all_from_yields_List (λ q. operation_test q.1.0 q.0 t.positions t.names) _ _ _ c.all.ensures.ran
    (YieldsList-from_enumerate (YieldsList-from_slice t.operations (cc)) (cc))
    (λ x b q k. search (rules, tests))
    ∙ all_each (λ p o. operation_test o.0 p t.positions t.names) (record { 0 = 0 }) t.operations 64 (omega arith)
