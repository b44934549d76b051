-- `readers::end` meets its contract: each way through it is a lemma of Concluding.
use mathlib.Core.Path.{refl}
use native.Mathlib.Omega.{arith}
use Rattle.text.specs.declared.tokens.Token.TheVariants.{End}
use Rattle.compiler.specs.Reading.{read_so}
use Rattle.compiler.proofs.Arms.{other_than}
use Rattle.compiler.proofs.Concluding.{ended_ends, ended_refuses, end_fits, end_starts, rest_fits}
use Rattle.compiler.proofs.Refusing.{refuses_by}
use Rattle.compiler.proofs.readers.end.Goals as goal

pub overflow_add-from : goal.overflow_add-from
overflow_add-from c = omega (arith, end_fits c.args.text.now (read_so c.args.e) refl _ c.next-r.ensures c.requires.0, c.requires.1)

pub slice_bounds-conclude-count : goal.slice_bounds-conclude-count
slice_bounds-conclude-count c = end_fits c.args.text.now (read_so c.args.e) refl _ c.next-r.ensures c.requires.0

pub slice_bounds-conclude-start : goal.slice_bounds-conclude-start
slice_bounds-conclude-start c = end_fits c.args.text.now (read_so c.args.e) refl _ c.next-r.ensures c.requires.0

pub conclude-requires : goal.conclude-requires
conclude-requires c = omega (arith, rest_fits c.args.text.now (read_so c.args.e) refl _ c.next-r.ensures c.requires.0, c.requires.1)

pub overflow_add-result : goal.overflow_add-result
overflow_add-result c =
    omega (
      arith,
      end_starts c.args.text.now (read_so c.args.e) refl _ c.next-r.ensures c.requires.0,
      end_fits c.args.text.now (read_so c.args.e) refl _ c.next-r.ensures c.requires.0,
      c.requires.1,
    )

pub returns-in-End : goal.returns-in-End
returns-in-End c = ended_ends c.args.text.now (read_so c.args.e) refl _ c.next-r.ensures c.in-End.is _ c.conclude.ensures

pub returns-in_default : goal.returns-in_default
returns-in_default c =
    ended_refuses c.args.text.now (read_so c.args.e) refl _ c.next-r.ensures
    (other_than End refl c.next-r.result.token c.in_default.not-End) _
    (refuses_by c.fault_of.result c.next-r.result.token _ c.fault_of.ensures)
