-- `joining::complete` meets its contract, by those of `follow` and `mark_by_rule`.
use Rattle.parts.specs.Parts.{completed}
use Rattle.parts.proofs.joining.complete.Goals as goal

pub returns : goal.returns
unfolding completed
returns c = simp (c.mark_by_rule.ensures, c.follow-out.ensures)
