-- `orders::number_in` meets its contract. The invariant: the first bytes are digits, with this value, and the rest decides.
use Rattle.std.proofs.Common.{sym, ◌∙◌, inl, inr, arith}
use Rattle.std.proofs.lemmas.Bool.{eqb-true}
use mathlib.Core.Logic.{⊎_elim}
use lib.ListN.{drop_of_length-le}
use Rattle.wording.proofs.Numbers.{small_next, digit_range, digit_here, no_digit_here, value_here}
use Rattle.wording.proofs.Numbers.{not_one_to_three, not_all_digits, is_the_number, all_of_none, value_of_none}
use Rattle.wording.proofs.orders.number_in.Goals as goal

pub returns-then-is_empty : goal.returns-then-is_empty
returns-then-is_empty c =
    let few_or_many =
    ⊎_elim (λ none. inl (eqb-true _ _ (sym c.is_empty.ensures ∙ none))) (λ many. inr many.1) c.then-is_empty.either
    in
    sym (not_one_to_three _ few_or_many)

pub returns-then-not-is_ascii_digit : goal.returns-then-not-is_ascii_digit
returns-then-not-is_ascii_digit c =
    let inv = c.loop-b.invariant in
    let no = sym c.is_ascii_digit.ensures.value ∙ c.if-not-is_ascii_digit.true in
    sym (not_all_digits _ inv.0 inv.1 (inv.2 ∙ no_digit_here _ _ c.loop-b-test.true no))

pub loop-b-preserved : goal.loop-b-preserved
loop-b-preserved c =
    let inside = c.loop-b-test.true in
    let yes = sym c.is_ascii_digit.ensures.value ∙ c.if-not-is_ascii_digit.false in
    let inv = c.loop-b.invariant in
    let few = inv.0 in
    let range = digit_range _ yes in
    rw c.from.ensures (
      inv.0,
      inv.1,
      inv.2 ∙ digit_here _ _ inside yes,
      inv.3 ∙ value_here _ _ inside _,
      small_next _ _ _ (omega (arith, few, inside)) range.0 range.1 inv.4,
    )

pub returns : goal.returns
returns c =
    let inv = c.loop-b.invariant in
    let none_left = drop_of_length-le c.args.s.now c.loop-b-test.false in
    sym (is_the_number _ inv.0 inv.1 _ (inv.2 ∙ rw none_left all_of_none) (inv.3 ∙ rw none_left value_of_none))
