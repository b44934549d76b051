-- `position` finds the first byte that is none.
use Rattle.std.proofs.Common.{rules, ◌≡◌, ◌∙◌, ap, not, length}
use borrow.Author.Tests.{tests}
use Rattle.std.specs.Option.{unwrap_or}
use Rattle.std.specs.List.{position}
use Rattle.std.proofs.lemmas.Iterator.{YieldsList-from_slice}
use Rattle.std.proofs.lemmas.Iterator.Search.{position_from_yields_List}
use Rattle.text.specs.Tokens.{name_byte}
use Rattle.text.proofs.Firsts.{first_failing}
use Rattle.text.proofs.tokens.run.Goals as goal

pub returns : goal.returns
returns c =
    let s = c.args.s.now in
    let bytes = YieldsList-from_slice s c.iter.ensures.rest in
    let found : c.position.result ≡ position (λ b. not (name_byte b)) s =
    position_from_yields_List (λ b. not (name_byte b)) _ _ c.position.result c.position.ensures.ran bytes (λ x y q k. search (rules, tests))
    in
    c.unwrap_or.ensures ∙ ap (λ r. unwrap_or r (length s)) found ∙ first_failing name_byte s
