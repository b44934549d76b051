-- `orders::bytes_before` meets its contract: `position` finds the first place of b.
use Rattle.std.proofs.Common.{rules, ◌≡◌, ◌∙◌, ap, length, eqb}
use borrow.Author.Tests.{tests}
use Rattle.std.specs.Option.{unwrap_or}
use Rattle.std.specs.List.{position}
use Rattle.std.proofs.lemmas.Iterator.{YieldsList-from_slice}
use Rattle.std.proofs.lemmas.Iterator.Search.{position_from_yields_List}
use Rattle.wording.proofs.Firsts.{before_first}
use Rattle.wording.proofs.orders.bytes_before.Goals as goal

pub returns : goal.returns
returns c =
    let b = c.args.b in
    let s = c.args.s.now in
    let bytes = YieldsList-from_slice s c.iter.ensures.rest in
    let found : c.position.result ≡ position (λ x. eqb x b) s =
    position_from_yields_List (λ x. eqb x b) _ _ c.position.result c.position.ensures.ran bytes (λ x y q k. search (rules, tests))
    in
    c.unwrap_or.ensures ∙ ap (λ r. unwrap_or r (length s)) found ∙ before_first b s
