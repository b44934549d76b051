-- `readers::compile` meets its contract, since what `read` finds fulfils it (CompiledTexts).
use Rattle.compiler.proofs.CompiledTexts.{compiles}
use Rattle.compiler.proofs.readers.compile.Goals as goal

pub returns-in-Ok : goal.returns-in-Ok
returns-in-Ok c = compiles _ _ c.in-Ok.ensures

pub returns-in-Err : goal.returns-in-Err
returns-in-Err c = compiles _ _ (rw c.table_of_zeros.ensures c.in-Err.ensures)
