-- `table::sets::set_of` meets its contract: a number that is no position's fails a test of `single`; a position's bit is a power
-- of two that fits.
use Rattle.std.proofs.Common.{arith, ◌≡◌, ◌<◌, ◌^◌, ◌*◌, ◌%◌, ◌-◌, ℕ}
use native.Mathlib.Nat.{one-mul, mod-eq_of_lt}
use lib.Pow.{pow-lt}
use borrow.Author.Tests.{le-leb, lt-leb}
use mathlib.Core.Bool.{and-false}
use Rattle.table.specs.Linking.{single}
use Rattle.table.proofs.sets.set_of.Goals as goal
use Rattle.table.proofs.sets.set_of.Goals.{then-n-eq0-via-then-n-eq0, then-n-eq0-via-else-n-eq0+then-n-gt64}

bit-fits : (n : ℕ) → n < 64 → 1 * 2 ^ n % 18446744073709551616 ≡ 2 ^ n
bit-fits n h = rw one-mul (mod-eq_of_lt (pow-lt h))

pub returns-then-n-eq0 : goal.returns-then-n-eq0
unfolding single
returns-then-n-eq0 c =
    elim c.then-n-eq0.branch [
      | then-n-eq0-via-then-n-eq0 w ↦ simp (lt-leb 1 c.args.p.0 (omega arith))
      | then-n-eq0-via-else-n-eq0+then-n-gt64 w ↦ simp (lt-leb _ 64 w.if-n-gt64.true, and-false)
    ]

pub returns : goal.returns
unfolding single
returns c =
    let n = c.args.p.0 in
    simp (le-leb 1 n (omega arith), le-leb n 64 c.if-n-gt64.false, bit-fits (n - 1) (omega arith))
