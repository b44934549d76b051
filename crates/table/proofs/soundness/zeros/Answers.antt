-- `soundness::zeros` meets its contract. The invariant: what was gathered is 0 exactly if each byte so far is.
use Rattle.std.proofs.Common.{arith, sym, ap, ◌∙◌, ◌-◌, ◌&&◌, take, drop, get_or, ℕ, List, Bool}
use Rattle.std.specs.Prelude.{eqb}
use Rattle.std.specs.List.{list_all}
use Rattle.std.proofs.lemmas.List.{take_all}
use Rattle.std.proofs.lemmas.List.Folds.{list_all_more}
use Rattle.table.proofs.Passing.{all_part, or_is_zero}
use Rattle.table.proofs.soundness.zeros.Goals as goal

abbrev part : ℕ → ℕ → List ℕ → List ℕ
part from to bytes = take (to - from) (drop from bytes)

pub loop-b-preserved : goal.loop-b-preserved
loop-b-preserved c =
    let xs = part c.args.from c.args.to c.args.bytes.now in
    let here = get_or xs c.loop-b.b-index 0 in
    or_is_zero c.loop-b.any here
    ∙ ap (λ (t : Bool). t && eqb here 0) c.loop-b.invariant
    ∙ sym (list_all_more (λ b. eqb b 0) xs c.loop-b.b-index 0 c.loop-b-test.true)

pub returns : goal.returns
returns c =
    let xs = part c.args.from c.args.to c.args.bytes.now in
    c.loop-b.invariant
    ∙ ap (λ (ys : List ℕ). list_all (λ b. eqb b 0) ys) (take_all c.loop-b.b-index xs (omega arith))
    ∙ all_part (λ b. eqb b 0) 0 (c.args.to - c.args.from) c.args.from c.args.bytes.now (omega (arith, c.requires))
