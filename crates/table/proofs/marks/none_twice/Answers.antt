-- `all` tests each operation against those behind it.
use Rattle.std.proofs.Common.{rules, ◌∙◌}
use borrow.Author.Tests.{tests}
use Rattle.std.proofs.lemmas.Iterator.{YieldsList-from_slice}
use Rattle.std.proofs.lemmas.Iterator.Consumers.{YieldsList-from_enumerate}
use Rattle.std.proofs.lemmas.Iterator.Search.{all_from_yields_List}
use Rattle.table.proofs.Repeats.{none_behind, all_apart}
use Rattle.table.proofs.marks.none_twice.Goals as goal

pub returns : goal.returns
returns c =
    let os = c.args.operations.now in
    all_from_yields_List (none_behind os) _ _ _ c.all.ensures.ran
    (YieldsList-from_enumerate (YieldsList-from_slice os (cc)) (cc))
    (λ x b q k. search (rules, tests))
    ∙ all_apart os
