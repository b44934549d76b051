-- `all` tests each length with its place.
use Rattle.std.proofs.Common.{rules, arith, ◌∙◌}
use borrow.Author.Tests.{tests}
use Rattle.std.proofs.lemmas.Iterator.{YieldsList-from_slice}
use Rattle.std.proofs.lemmas.Iterator.Consumers.{YieldsList-from_enumerate}
use Rattle.std.proofs.lemmas.Iterator.Search.{all_from_yields_List}
use Rattle.table.specs.Tests.{name_test}
use Rattle.table.proofs.Passing.{all_each}
use Rattle.table.proofs.cells.Table.names_fit.Goals as goal

pub returns : goal.returns
returns c =
    let t = c.args.self.now in
    all_from_yields_List (λ q. name_test q.0 q.1 t.names t.lengths t.bytes) _ _ _ c.all.ensures.ran
    (YieldsList-from_enumerate (YieldsList-from_slice t.lengths (cc)) (cc))
    (λ x b q k. search (rules, tests))
    ∙ all_each (λ i n. name_test i n t.names t.lengths t.bytes) 0 t.lengths 32 (omega arith)
