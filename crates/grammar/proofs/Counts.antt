-- What is counted along the symbols: parentheses and names, piece by piece; and that the machine's stack is as deep as there are
-- parentheses open.
use mathlib.Core.Path.{◌≡◌, refl, sym, subst}
use mathlib.Core.List.{List, [], ◌∷◌, ◌++◌, append_assoc, append-nil}
use mathlib.Core.Option.{some}
use Prim.Native.Nat.{ℕ, ◌+◌}
use native.Mathlib.Omega.{arith}
use Rattle.meaning.specs.Names.{Name}
use Rattle.meaning.specs.Words.{Expr}
use Rattle.grammar.specs.Symbols.{Symbol}
use Rattle.grammar.specs.Symbols.Symbol.{semicolon, plus, asterisk, opening, closing, path, end, name}
use Rattle.grammar.specs.Refusals.{opened, closed, names_in}
use Rattle.grammar.specs.Machine.{Left, State, start_step, want_step, have_step, step_to, depth_of, names_on}
use Rattle.grammar.specs.Machine.State.{outside, wanting, having, finished}
use Rattle.grammar.proofs.Runs.{Held}

-- w is counted as u and v are
record Joined (w u v : List Symbol) : Type 0 where
  opens : opened w ≡ opened u + opened v
  closes : closed w ≡ closed u + closed v
  names : names_in w ≡ names_in u ++ names_in v

first_joined : (t : Symbol) (w : List Symbol) → Joined (t ∷ w) (t ∷ []) w
unfolding opened closed names_in
first_joined semicolon w = record { opens = omega arith; closes = omega arith; names = refl }
first_joined plus w = record { opens = omega arith; closes = omega arith; names = refl }
first_joined asterisk w = record { opens = omega arith; closes = omega arith; names = refl }
first_joined opening w = record { opens = omega arith; closes = omega arith; names = refl }
first_joined closing w = record { opens = omega arith; closes = omega arith; names = refl }
first_joined path w = record { opens = omega arith; closes = omega arith; names = refl }
first_joined end w = record { opens = omega arith; closes = omega arith; names = refl }
first_joined (name n) w = record { opens = omega arith; closes = omega arith; names = refl }

joined : (u v : List Symbol) → Joined (u ++ v) u v
unfolding opened closed names_in
joined [] v = record { opens = omega arith; closes = omega arith; names = refl }
joined (t ∷ u) v =
    let all = first_joined t (u ++ v) in
    let front = first_joined t u in
    let rest = joined u v in
    record {
      opens = omega arith;
      closes = omega arith;
      names = rw (all.names, front.names, rest.names) (sym (append_assoc (names_in (t ∷ [])) (names_in u) (names_in v)));
    }

pub opened_append : (u v : List Symbol) → opened (u ++ v) ≡ opened u + opened v
opened_append u v = (joined u v).opens

pub closed_append : (u v : List Symbol) → closed (u ++ v) ≡ closed u + closed v
closed_append u v = (joined u v).closes

pub names_append : (u v : List Symbol) → names_in (u ++ v) ≡ names_in u ++ names_in v
names_append u v = (joined u v).names

-- the machine collects the names of the symbols
names_on_told : (ns : List Name) (t : Symbol) → ns ++ names_in (t ∷ []) ≡ names_on ns t
unfolding names_on names_in
names_on_told ns (name n) = refl
names_on_told ns semicolon = append-nil ns
names_on_told ns plus = append-nil ns
names_on_told ns asterisk = append-nil ns
names_on_told ns opening = append-nil ns
names_on_told ns closing = append-nil ns
names_on_told ns path = append-nil ns
names_on_told ns end = append-nil ns

pub names_after : (u : List Symbol) (t : Symbol) → names_in (u ++ t ∷ []) ≡ names_on (names_in u) t
names_after u t = rw (names_append u (t ∷ [])) (names_on_told (names_in u) t)

-- from depth d the symbol t leads to this state
abbrev Deep : ℕ → Symbol → State → Type 0
Deep d t s = depth_of s + closed (t ∷ []) ≡ d + opened (t ∷ [])

start_deep : (t : Symbol) → Held (Deep 0 t) (start_step t)
unfolding start_step depth_of opened closed
start_deep path = refl
start_deep (name n) = tt
start_deep opening = tt
start_deep semicolon = tt
start_deep plus = tt
start_deep asterisk = tt
start_deep closing = tt
start_deep end = tt

want_deep : (l : Left) (ks : List Left) (t : Symbol) → Held (Deep (depth_of (wanting l ks)) t) (want_step l ks t)
unfolding want_step depth_of opened closed
want_deep l ks (name n) = refl
want_deep l ks opening = omega arith
want_deep l ks semicolon = tt
want_deep l ks plus = tt
want_deep l ks asterisk = tt
want_deep l ks closing = tt
want_deep l ks path = tt
want_deep l ks end = tt

have_deep : (l : Left) (f : Expr) (ks : List Left) (t : Symbol) → Held (Deep (depth_of (having l f ks)) t) (have_step l f ks t)
unfolding have_step depth_of opened closed
have_deep l f ks (name n) = refl
have_deep l f ks opening = omega arith
have_deep l f ks semicolon = refl
have_deep l f ks plus = refl
have_deep l f ks asterisk = refl
have_deep l f [] closing = tt
have_deep l f (k ∷ ks) closing = omega arith
have_deep l f ks path = tt
have_deep l f [] end = refl
have_deep l f (k ∷ ks) end = tt

any_deep : (s : State) (t : Symbol) → Held (Deep (depth_of s) t) (step_to s t)
unfolding step_to depth_of
any_deep outside t = start_deep t
any_deep (wanting l ks) t = want_deep l ks t
any_deep (having l f ks) t = have_deep l f ks t
any_deep (finished e) t = tt

pub step_deep : (s : State) (t : Symbol) (s' : State) → step_to s t ≡ some s' → depth_of s' + closed (t ∷ []) ≡ depth_of s + opened (t ∷ [])
step_deep s t s' e = subst (Held (Deep (depth_of s) t)) e (any_deep s t)
