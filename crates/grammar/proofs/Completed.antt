-- Whatever the machine has run through is the beginning of a text of the grammar, and all of one when it has finished: what lies behind a
-- state says so, and from each state a few symbols lead to the end.
use mathlib.Core.Path.{◌≡◌, refl, subst}
use mathlib.Core.List.{List, [], ◌∷◌, ◌++◌, append_assoc, append-nil}
use mathlib.Core.Option.{Option, some, none}
use Rattle.meaning.specs.Names.{Name}
use Rattle.meaning.specs.Words.{Expr}
use Rattle.meaning.specs.Words.Expr.{name as name_of}
use Rattle.grammar.specs.Symbols.{Symbol}
use Rattle.grammar.specs.Symbols.Symbol.{closing, path, end, name}
use Rattle.grammar.specs.Grammar.{Whole}
use Rattle.grammar.specs.Machine.{Left, nothing_left, sum_to, State, step_to, start_step, want_step, have_step}
use Rattle.grammar.specs.Machine.State.{outside, wanting, having, finished}
use Rattle.grammar.proofs.Runs.{Held, step_of, after, reached}
use Rattle.grammar.proofs.Behind.{Reached, step_keeps}
use Rattle.grammar.proofs.Behind.Reached.{nowhere, through}

-- a run keeps what is behind, as its steps do
step_of_keeps : (w : List Symbol) (o : Option State) → Held (Reached w) o → (t : Symbol) → Held (Reached (w ++ t ∷ [])) (step_of o t)
step_of_keeps w none h t = tt
step_of_keeps w (some s) h t = step_keeps w s h t

after_keeps : (p : List Symbol) (o : Option State) → Held (Reached p) o → (w : List Symbol) → Held (Reached (p ++ w)) (after o w)
after_keeps p o h [] = rw append-nil h
after_keeps p o h (t ∷ w) = rw append_assoc at (after_keeps (p ++ t ∷ []) (step_of o t) (step_of_keeps p o h t) w)

reached_behind : (w : List Symbol) (s : State) → reached w ≡ some s → Reached w s
reached_behind w s e = subst (Held (Reached w)) e (after_keeps [] (some outside) (nowhere refl) w)

behind_finished : {w : List Symbol} {e : Expr} → Reached w (finished e) → Whole w e
behind_finished (through d) = d

pub finished_whole : (w : List Symbol) (e : Expr) → reached w ≡ some (finished e) → Whole w e
finished_whole w e ends = behind_finished (reached_behind w (finished e) ends)

-- some text of the grammar starts with w
abbrev pub Starts : List Symbol → Type 0
Starts w = (v : List Symbol) × (e : Expr) × Whole (w ++ v) e

starts_before : (w : List Symbol) (t : Symbol) → Starts (w ++ t ∷ []) → Starts w
starts_before w t (v, e, d) = (t ∷ v, e, rw append_assoc at d)

-- each `(` that is open is closed, and then the text ends
having_starts : (ks : List Left) (w : List Symbol) (l : Left) (f : Expr) → Reached w (having l f ks) → Starts w
unfolding step_to have_step
having_starts [] w l f r = (end ∷ [], sum_to l f, behind_finished (step_keeps w (having l f []) r end))
having_starts (k ∷ ks) w l f r =
    starts_before w closing (having_starts ks (w ++ closing ∷ []) k (sum_to l f) (step_keeps w (having l f (k ∷ ks)) r closing))

-- a factor that has to come may be the name `a`
wanting_starts : (w : List Symbol) (l : Left) (ks : List Left) → Reached w (wanting l ks) → Starts w
unfolding step_to want_step
wanting_starts w l ks r =
    let n : Name = 97 ∷ [] in
    starts_before w (name n) (having_starts ks (w ++ name n ∷ []) l (name_of n) (step_keeps w (wanting l ks) r (name n)))

state_starts : (w : List Symbol) (s : State) → Reached w s → Starts w
unfolding step_to start_step
state_starts w outside r = starts_before w path (wanting_starts (w ++ path ∷ []) nothing_left [] (step_keeps w outside r path))
state_starts w (wanting l ks) r = wanting_starts w l ks r
state_starts w (having l f ks) r = having_starts ks w l f r
state_starts w (finished e) r = ([], e, rw append-nil (behind_finished r))

pub reached_starts : (w : List Symbol) (s : State) → reached w ≡ some s → Starts w
reached_starts w s e = state_starts w s (reached_behind w s e)
