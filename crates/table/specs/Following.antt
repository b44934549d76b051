-- Following a table: permission sets, and the histories that it permits.
use Rattle.std.specs.Prelude.{Bool, cond, List, [], ◌∷◌, ℕ, ◌+◌, ◌*◌, eqb, get_or, take}
use Rattle.meaning.specs.Names.{Name, key}
use Rattle.meaning.specs.Operations.{holds, number_of}
use Rattle.meaning.specs.Following.{permits}
use Rattle.table.specs.declared.numbers.Operation.{Operation}
use Rattle.table.specs.declared.cells.Table.{Table}
use Rattle.std.specs.Prelude.{Option, Some, None}
use Rattle.table.specs.Cells.{names_of}

-- the positions, in a list of their operations, of operation o
unfoldable pub positions_with : List Operation → ℕ → ℕ
positions_with [] o = 0
positions_with (x ∷ xs) o = cond (eqb x.0 o) 1 0 + 2 * positions_with xs o

-- "the permission set of an operation is all its positions"
unfoldable pub permission_set : Table → ℕ → ℕ
permission_set t o = positions_with (take t.positions t.operations) o

-- the key of the name of operation o
abbrev pub name_in : Table → ℕ → Name
name_in t o = key (get_or (names_of t) o [])

-- the operation of the name of key k
unfoldable pub found_in : List Name → Name → Option Operation
found_in ns k = cond (holds ns k) (Some (record { 0 = number_of ns k })) None

-- the permission set of what was found; an operation that is not there has no position
abbrev pub permission_found : Table → Option Operation → ℕ
permission_found t (Some o) = permission_set t o.0
permission_found t None = 0

unfoldable pub permission_of : Table → Name → ℕ
permission_of t k = permission_found t (found_in (names_of t) k)

-- "a table permits a history if each of its operations in turn meets the set and moves it as an ask and a finish do"
unfoldable pub table_permits : Table → List Name → Bool
table_permits t h = permits t.rows (permission_of t) t.start h
