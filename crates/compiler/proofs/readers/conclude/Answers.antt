-- `readers::conclude` meets its contract: the text ends, or what stands there is refused (Concluding).
use mathlib.Core.Path.{refl}
use native.Mathlib.Omega.{arith}
use Rattle.text.specs.declared.tokens.Token.TheVariants.{TextEnd}
use Rattle.compiler.proofs.Arms.{other_than}
use Rattle.compiler.proofs.Concluding.{concluded_accepts, concluded_refuses}
use Rattle.compiler.proofs.FactorPaths.{start_fits}
use Rattle.compiler.proofs.Refusing.{refuses_by}
use Rattle.compiler.proofs.readers.conclude.Goals as goal

pub overflow_add-result : goal.overflow_add-result
overflow_add-result c = omega (arith, c.requires, start_fits _ _ c.next-r.ensures)

pub returns-in-TextEnd : goal.returns-in-TextEnd
returns-in-TextEnd c = concluded_accepts _ _ _ _ c.next-r.ensures c.in-TextEnd.is _ c.complete.ensures

pub returns-in_default : goal.returns-in_default
returns-in_default c =
    concluded_refuses _ _ _ _ c.next-r.ensures (other_than TextEnd refl c.next-r.result.token c.in_default.not-TextEnd) _
    (refuses_by c.fault_of.result c.next-r.result.token _ c.fault_of.ensures)
