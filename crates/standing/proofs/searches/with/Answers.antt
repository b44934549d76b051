-- `standing::searches::with` meets its contract: a shifted 1 is the set of one number, if it fits.
use mathlib.Core.Path.{sym, ap}
use native.Mathlib.Omega.{arith}
use lib.Bits.{bit_or, or_zero_r}
use Rattle.standing.proofs.SmallSets.{bit_shifted, bit_beyond}
use Rattle.standing.proofs.searches.with.Goals as goal

pub returns-then-n-lt64 : goal.returns-then-n-lt64
returns-then-n-lt64 c = ap (bit_or c.args.set) (bit_shifted c.args.n (omega arith))

pub returns-else-n-lt64 : goal.returns-else-n-lt64
returns-else-n-lt64 c = rw (bit_beyond c.args.n (omega arith)) (sym (or_zero_r _))
