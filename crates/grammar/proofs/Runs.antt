-- The machine over a list of symbols, limits aside: the state after them, or none once a symbol has no step.
use mathlib.Core.Path.{◌≡◌, refl}
use mathlib.Core.List.{List, [], ◌∷◌, ◌++◌}
use mathlib.Core.Option.{Option, some, none}
use Rattle.grammar.specs.Symbols.{Symbol}
use Rattle.grammar.specs.Machine.{State, step_to}
use Rattle.grammar.specs.Machine.State.{outside}

-- P of the state, if there is one
abbrev pub Held : (State → Type 0) → Option State → Type 0
Held P none = Unit
Held P (some s) = P s

-- the step from a state that there may be
abbrev pub step_of : Option State → Symbol → Option State
step_of none t = none
step_of (some s) t = step_to s t

-- where the symbols lead from there
abbrev pub after : Option State → List Symbol → Option State
after o [] = o
after o (t ∷ w) = after (step_of o t) w

-- where they lead from before `path`
abbrev pub reached : List Symbol → Option State
reached w = after (some outside) w

pub after_append : (o : Option State) (u v : List Symbol) → after o (u ++ v) ≡ after (after o u) v
after_append o [] v = refl
after_append o (t ∷ u) v = after_append (step_of o t) u v

-- without a state there is none later
pub none_after_none : (w : List Symbol) → after none w ≡ none
none_after_none [] = refl
none_after_none (t ∷ w) = none_after_none w
