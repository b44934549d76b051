-- `orders::read_ask` meets its contract: each way through it is a law of the fields (AskWays.antt).
use mathlib.Core.Path.{sym, ◌∙◌}
use native.Mathlib.Omega.{arith}
use Rattle.wording.proofs.AskWays.{end_within, no_name, empty_name, space_in_name, whole_ask}
use Rattle.wording.proofs.orders.read_ask.Goals as goal

pub overflow_add-end : goal.overflow_add-end
overflow_add-end c =
    let within =
    end_within c.args.line.now c.args.from c.bytes_before.result c.requires c.bytes_before.ensures
    in
    omega (arith, within)

pub returns-then-line-end : goal.returns-then-line-end
returns-then-line-end c = no_name _ _ _ c.requires c.bytes_before.ensures c.if-line-end.true

pub returns-then-line-name : goal.returns-then-line-name
returns-then-line-name c =
    empty_name _ _ _ c.requires c.bytes_before.ensures c.if-line-end.false
    (omega (arith, c.if-line-name.true))

pub returns-then-contains : goal.returns-then-contains
returns-then-contains c =
    space_in_name _ _ _ c.requires c.bytes_before.ensures c.if-line-end.false (sym c.contains.ensures.value ∙ c.if-contains.true)

pub returns : goal.returns
returns c =
    whole_ask _ _ _ c.requires
    c.bytes_before.ensures
    c.if-line-end.false c.if-line-name.false
    (sym c.contains.ensures.value ∙ c.if-contains.false) _ (rw (← c.number_in.ensures) c.read_three.ensures)
