-- `standing::searches::has` meets its contract: a shift shows the bit, and a number below 2 ^ 64 has none from 64 on.
use mathlib.Core.Path.{sym}
use native.Mathlib.Omega.{arith}
use borrow.Author.Rules.{rules}
use borrow.Author.Tests.{le-ltb}
use Rattle.meaning.proofs.SetLaws.{mem_beyond}
use Rattle.standing.proofs.SmallSets.{mem_shifted}
use Rattle.standing.proofs.searches.has.Goals as goal

pub returns-then-n-lt64 : goal.returns-then-n-lt64
returns-then-n-lt64 c = mem_shifted _ _

pub returns-else-n-lt64 : goal.returns-else-n-lt64
returns-else-n-lt64 c =
    rw (le-ltb c.args.n 64 (omega arith)) (sym (mem_beyond c.args.n 64 c.args.set (search rules) (omega arith)))
