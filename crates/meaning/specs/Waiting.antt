-- The waiting list: entries, longest waiting first, and the few things that are done with them.
use Rattle.std.specs.Prelude.{Bool, cond, List, [], ◌∷◌, map, ℕ, zero, suc, eqb, length}
use Rattle.meaning.specs.Names.{Name}

-- "entries, each a terminal and an operation"; the operation is here its name
pub record Entry : Type 0 where
  pub terminal : ℕ
  pub name : Name

abbrev pub terminals_of : List Entry → List ℕ
terminals_of es = map (λ e. e.terminal) es

abbrev pub names_of : List Entry → List Name
names_of es = map (λ e. e.name) es

-- the first entry that passes a test, with its place, if there is one
pub data Found : Type 0 where
  nobody : Found
  at : ℕ → Entry → Found

abbrev pub behind : Found → Found
behind nobody = nobody
behind (at p e) = at (suc p) e

unfoldable pub seek : (Entry → Bool) → List Entry → Found
seek test [] = nobody
seek test (e ∷ es) = cond (test e) (at 0 e) (behind (seek test es))

-- the entry of terminal t
abbrev pub entry_of : ℕ → List Entry → Found
entry_of t es = seek (λ e. eqb e.terminal t) es

-- the place of a new entry: "to the end of the list", so it is also "the number of entries ahead"
abbrev pub place_of : List Entry → Entry → ℕ
place_of es e = length es

-- the list with e put at place p
unfoldable pub put : ℕ → Entry → List Entry → List Entry
put zero e es = e ∷ es
put (suc p) e [] = e ∷ []
put (suc p) e (d ∷ es) = d ∷ put p e es

-- "when an entry is taken out, later ones move up by one"
unfoldable pub without : ℕ → List Entry → List Entry
without p [] = []
without zero (e ∷ es) = es
without (suc p) (e ∷ es) = e ∷ without p es
