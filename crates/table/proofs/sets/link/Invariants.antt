-- `Linking`: the rows passed are done, the others are to come.
use Rattle.table.specs.Linking.{linked}
use Rattle.table.proofs.Links.{Linking}
use Rattle.table.proofs.sets.link.Given as goal

abbrev pub invariant-loop-row : goal.invariant-loop-row
invariant-loop-row l = Linking (linked l.initial.rows l.last l.first) l.first l.rows l.rest l.row-index
