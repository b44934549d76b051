-- "The mark says the path is deterministic: 1 if no name stands at two positions, else 0."
use Rattle.std.specs.Prelude.{Bool, true, false, cond, not, ◌&&◌, ◌||◌, List, [], ◌∷◌, ℕ, eqb, take}
use Rattle.table.specs.declared.numbers.Operation.{Operation}
use Rattle.table.specs.declared.cells.Table.{Table}

-- operation o is among them
unfoldable pub among : List Operation → ℕ → Bool
among [] o = false
among (x ∷ xs) o = eqb x.0 o || among xs o

-- none of them stands twice
unfoldable pub none_twice : List Operation → Bool
none_twice [] = true
none_twice (x ∷ xs) = not (among xs x.0) && none_twice xs

-- of the operations at the positions in use
unfoldable pub mark_of : Table → ℕ
mark_of t = cond (none_twice (take t.positions t.operations)) 1 0
