-- `readers::close` meets its contract: each way through it is a lemma of Closing.
use mathlib.Core.Path.{refl}
use Rattle.compiler.specs.Reading.{part_read, halted}
use Rattle.text.specs.declared.tokens.Token.TheVariants.{Close}
use Rattle.compiler.proofs.Arms.{other_than}
use Rattle.compiler.proofs.Closing.{used_behind, start_behind, closed_closes, closed_halts}
use Rattle.compiler.proofs.Refusing.{halts_by}
use Rattle.compiler.proofs.readers.close.Goals as goal

pub overflow_sub-result : goal.overflow_sub-result
overflow_sub-result c = used_behind c.args.s.now (halted 0 c.args.left) _ c.next-r.ensures c.requires

pub overflow_sub-result-in_default : goal.overflow_sub-result-in_default
overflow_sub-result-in_default c = start_behind c.args.s.now (halted 0 c.args.left) _ c.next-r.ensures c.requires

pub returns-in-Close : goal.returns-in-Close
returns-in-Close c = λ part. closed_closes c.args.s.now (part_read c.args.left part) _ c.next-r.ensures refl c.in-Close.is

pub returns-in_default : goal.returns-in_default
returns-in_default c = λ part.
    closed_halts c.args.s.now (part_read c.args.left part) _ c.next-r.ensures _ refl
    (other_than Close refl c.next-r.result.token c.in_default.not-Close)
    (halts_by c.fault_of.result c.next-r.result.token _ c.fault_of.ensures)
