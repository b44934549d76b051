-- `standing::searches::operations_at` meets its contract: it unites the bits of the operations of the set's positions, one after the other.
use Rattle.meaning.specs.Sets.{union_of}
use Rattle.table.proofs.Unions.{Uniting}
use Rattle.standing.proofs.SmallSets.{bits_of}
use Rattle.standing.proofs.searches.operations_at.Given as goal

abbrev pub invariant-loop-operation : goal.invariant-loop-operation
invariant-loop-operation l = Uniting (bits_of l.operations) (union_of (bits_of l.operations) l.set) l.out l.rest l.operation-index
