use Rattle.std.proofs.Common.{arith, ◌∙◌, sym}
use Rattle.table.proofs.Permissions.{one_gathered, none_gathered, all_gathered}
use Rattle.table.proofs.sets.positions_with.Goals as goal
use Rattle.table.proofs.sets.positions_with.Goals.{then-eq, else-eq}

pub loop-p-preserved : goal.loop-p-preserved
loop-p-preserved c =
    let os = c.args.operations.now in
    let o = c.args.o.0 in
    let l = c.loop-p in
    let there = c.loop-p-test.true in
    elim c.if-eq.branch [
      | then-eq w ↦
          rw w.out-is (one_gathered os o l.p l.out (omega (arith, c.requires)) there (sym c.eq.ensures ∙ w.if-eq.true) l.invariant)
      | else-eq w ↦ rw w.out-is (none_gathered os o l.p l.out there (sym c.eq.ensures ∙ w.if-eq.false) l.invariant)
    ]

pub returns : goal.returns
returns c = all_gathered c.args.operations.now c.args.o.0 c.loop-p.p c.loop-p.out c.loop-p-test.false c.loop-p.invariant
