-- `Output::put` meets its contract: there is room for the byte, or the output ends before its place.
use mathlib.Core.Path.{refl, sym}
use native.Mathlib.Omega.{arith}
use Rattle.wording.specs.Writing.{put_over}
use Rattle.wording.proofs.Putting.{put_behind}
use Rattle.wording.proofs.writing.Output.put.Goals as goal

pub returns-then-self : goal.returns-then-self
unfolding put_over
returns-then-self c = record { puts = record { output = refl; place = omega arith }; same_lent = refl }

pub returns-else-self : goal.returns-else-self
returns-else-self c = record { puts = record { output = sym (put_behind _ _ _ (omega arith)); place = omega arith }; same_lent = refl }
