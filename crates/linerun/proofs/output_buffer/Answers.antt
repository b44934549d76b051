-- Its length without laying it out.
use Rattle.std.proofs.Common.{ℕ}
use lib.ListN.{length-replicate}
use mathlib.Core.Path.{sym}
use Rattle.linerun.proofs.output_buffer.Goals as goal

pub returns : goal.returns
returns c = sym (length-replicate {0} {A = ℕ} 720914 0)
