-- One more grant at the end of a history of a table: the set moves on once more, and the history is permitted if it was and the name meets
-- the set.
use mathlib.Core.Path.{◌≡◌}
use mathlib.Core.Bool.{true}
use mathlib.Core.List.{List, [], ◌∷◌, ◌++◌}
use lib.Bits.{bit_and}
use Rattle.meaning.specs.Names.{Name}
use Rattle.meaning.specs.Sets.{meeting, union_of}
use Rattle.meaning.proofs.Histories.{set_with, permits_with}
use Rattle.table.specs.Following.{permission_of, table_permits}
use Rattle.table.specs.declared.cells.Table.{Table}
use Rattle.simulation.specs.Likeness.{set_at}

module _ (t : Table) (h : List Name) (k : Name) where
  pub set_moves_on : set_at t (h ++ k ∷ []) ≡ union_of t.rows (bit_and (set_at t h) (permission_of t k))
  set_moves_on = set_with t.rows (permission_of t) t.start h k

  pub permitted_next : table_permits t h ≡ true → table_permits t (h ++ k ∷ []) ≡ meeting (set_at t h) (permission_of t k)
  unfolding table_permits
  permitted_next e = rw (permits_with t.rows (permission_of t) t.start h k, e)
