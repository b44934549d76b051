-- `readers::read` meets its contract: each way through it gives what the machine's verdict comes to (Wholes).
use mathlib.Core.Path.{refl}
use native.Mathlib.Omega.{arith}
use Rattle.text.specs.declared.tokens.Token.TheVariants.{Path}
use Rattle.compiler.proofs.Arms.{other_than}
use Rattle.compiler.proofs.FactorPaths.{used_fits}
use Rattle.compiler.proofs.Refusing.{refuses_by, refuses_fault}
use Rattle.compiler.proofs.Wholes.{compile_not_path, starts_with_path}
use Rattle.text.proofs.FaultNumbers.{fault_some}
use Rattle.compiler.specs.Reading.{read_so}
use Rattle.compiler.proofs.Concluding.{ended_inside}
use Rattle.compiler.proofs.readers.read.Goals as goal

pub slice_bounds-expression-count : goal.slice_bounds-expression-count
slice_bounds-expression-count c = used_fits _ _ c.next-r.ensures

pub slice_bounds-expression-start : goal.slice_bounds-expression-start
slice_bounds-expression-start c = used_fits _ _ c.next-r.ensures

pub returns-in-Ok : goal.returns-in-Ok
returns-in-Ok c =
    starts_with_path _ (omega arith) _ c.next-r.ensures c.in-Path.is _ (read_so c.in-Ok.e) c.table_of_zeros.ensures c.in-Ok.ensures _
    c.end.ensures

pub returns-in-Err : goal.returns-in-Err
returns-in-Err c =
    starts_with_path _ (omega arith) _ c.next-r.ensures c.in-Path.is _ _ c.table_of_zeros.ensures c.in-Err.ensures _
    (ended_inside _ _ (fault_some c.in-Err.halt.fault) _ (refuses_fault c.in-Err.halt.fault _))

pub returns-in_default : goal.returns-in_default
returns-in_default c =
    compile_not_path _ (omega arith) _ c.next-r.ensures (other_than Path refl c.next-r.result.token c.in_default.not-Path) _
    (refuses_by c.fault_of.result c.next-r.result.token _ c.fault_of.ensures)
