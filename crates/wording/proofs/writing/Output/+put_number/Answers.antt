-- `Output::put_number` meets its contract: a number of one digit, and one of more.
use mathlib.Core.Path.{sym}
use Prim.Native.Nat.{◌≤◌}
use native.Mathlib.Omega.{arith}
use Rattle.wording.proofs.Digits.{decimal_more}
use Rattle.wording.proofs.Putting.{writes_more, writes_as}
use Rattle.wording.proofs.writing.Output.+put_number.Goals as goal

pub returns : goal.returns
returns t c =
    let large : 10 ≤ c.args.n = omega arith in
    writes_as (rw c.digit-2.ensures (sym (decimal_more c.args.n large))) (writes_more c.put_number.ensures c.put-2.ensures)
