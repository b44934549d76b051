-- `standing::searches::operations_at` meets its contract: it unites the bits of the operations of the set's positions, one after the other.
use mathlib.Core.Path.{ap, ◌∙◌}
use native.Mathlib.Omega.{arith}
use lib.Bits.{bit_or, or_zero_r}
use borrow.Author.Tests.{eq-eqb, ne_eqb}
use Rattle.meaning.specs.Sets.{mem}
use Rattle.table.proofs.Unions.{turn_united, all_united}
use Rattle.standing.specs.Searching.{operations_in, bit_of}
use Rattle.standing.proofs.SmallSets.{bits_of, length_bits, bit_at}
use Rattle.standing.proofs.searches.operations_at.Goals as goal
use Rattle.standing.proofs.searches.operations_at.Goals.{then-rest-eq1, else-rest-eq1}

pub loop-operation-preserved : goal.loop-operation-preserved
unfolding mem
loop-operation-preserved c =
    let l = c.loop-operation in
    let used = c.args.operations.now in
    let i = l.operation-index in
    let turn =
    turn_united (bits_of used) _ l.out l.rest i l.invariant c.if-rest-eq1.out
    (omega (arith, length_bits used, c.loop-operation-test.true)) in
    let here = bit_at used i c.loop-operation-test.true in
    elim c.if-rest-eq1.branch [
      | then-rest-eq1 w ↦ turn (rw (eq-eqb _ _ w.if-rest-eq1.true, here) (w.out-is ∙ w.with-out.ensures ∙ ap (λ n. bit_or l.out (bit_of n)) w.from.ensures))
      | else-rest-eq1 w ↦ turn (rw (ne_eqb _ _ w.if-rest-eq1.false, or_zero_r) w.out-is)
    ]

pub returns : goal.returns
unfolding operations_in
returns c =
    all_united _ _ _ _ _ c.loop-operation.invariant (omega (arith, length_bits c.args.operations.now, c.loop-operation-test.false))
