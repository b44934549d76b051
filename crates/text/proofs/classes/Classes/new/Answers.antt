-- The table's rule is one test of the whole table, which antt computes (`entry_agrees`).
use Rattle.text.specs.Classes.{class_of}
use Rattle.text.proofs.Table.{entry_agrees}
use Rattle.text.proofs.classes.Classes.new.Goals as goal

-- the code's table is in the goal, so it is not written out here again

pub invariant_of-result : goal.invariant_of-result
unfolding class_of
invariant_of-result c = record { tabled = λ b below. simp (entry_agrees class_of) }
