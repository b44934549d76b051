-- What derivations lie behind a state of the machine: whole ones for what has ended, and in between the signs that go on. Each step of the
-- machine keeps that true.
use mathlib.Core.Path.{◌≡◌, refl}
use mathlib.Core.List.{List, [], ◌∷◌, ◌++◌, append_assoc, append-nil}
use mathlib.Core.Option.{Option, some, none}
use Rattle.meaning.specs.Words.{Expr}
use Rattle.grammar.specs.Symbols.{Symbol}
use Rattle.grammar.specs.Symbols.Symbol.{semicolon, plus, asterisk, opening, closing, path, end, name}
use Rattle.grammar.specs.Grammar.{Expression, Sequence, Factor, Whole}
use Rattle.grammar.specs.Grammar.Expression.{one_sequence, and_another}
use Rattle.grammar.specs.Grammar.Sequence.{one_factor, and_then, and_next}
use Rattle.grammar.specs.Grammar.Factor.{a_name, in_parentheses, starred}
use Rattle.grammar.specs.Machine.{Left, nothing_left, then_after, or_after, sum_to, onward, upward, State, step_to, start_step, want_step, have_step}
use Rattle.grammar.specs.Machine.State.{outside, wanting, having, finished}
use Rattle.grammar.proofs.Runs.{Held}

-- the symbols of a sum that goes on behind its last `+`, and of a sequence that goes on, perhaps behind a `;`
pub data Summed : List Symbol → Option Expr → Type 0 where
  no_sum : {w : List Symbol} → w ≡ [] → Summed w none
  sum : {w : List Symbol} (u : List Symbol) {a : Expr} → Expression u a → w ≡ u ++ plus ∷ [] → Summed w (some a)

pub data Running : List Symbol → Option Expr → Type 0 where
  no_run : {w : List Symbol} → w ≡ [] → Running w none
  run : {w : List Symbol} {a : Expr} → Sequence w a → Running w (some a)
  run_then : {w : List Symbol} (u : List Symbol) {a : Expr} → Sequence u a → w ≡ u ++ semicolon ∷ [] → Running w (some a)

-- the symbols of what stands to the left within one pair of parentheses
pub data Lefts (w : List Symbol) (l : Left) : Type 0 where
  lefts : (p q : List Symbol) → Summed p l.sum → Running q l.run → w ≡ p ++ q → Lefts w l

-- the symbols up to the last `(` that is open
pub data Stacked : List Symbol → List Left → Type 0 where
  none_open : {w : List Symbol} → w ≡ path ∷ [] → Stacked w []
  one_more : {w : List Symbol} {l : Left} {ks : List Left} (p q : List Symbol) → Stacked p ks → Lefts q l → w ≡ p ++ q ++ opening ∷ []
      → Stacked w (l ∷ ks)

-- the symbols in front of a factor
pub data Ahead (w : List Symbol) (l : Left) (ks : List Left) : Type 0 where
  ahead : (p q : List Symbol) → Stacked p ks → Lefts q l → w ≡ p ++ q → Ahead w l ks

-- the symbols that lead to a state
pub data Reached : List Symbol → State → Type 0 where
  nowhere : {w : List Symbol} → w ≡ [] → Reached w outside
  before : {w : List Symbol} {l : Left} {ks : List Left} → Ahead w l ks → Reached w (wanting l ks)
  behind : {w : List Symbol} {l : Left} {f : Expr} {ks : List Left} (u v : List Symbol) → Ahead u l ks → Factor v f → w ≡ u ++ v
      → Reached w (having l f ks)
  through : {w : List Symbol} {e : Expr} → Whole w e → Reached w (finished e)

lefts_nothing : Lefts [] nothing_left
lefts_nothing = lefts [] [] (no_sum refl) (no_run refl) refl

-- a factor ends the sequence, and the sequence the sum
ends_run : {o : Option Expr} {q v : List Symbol} {f : Expr} → Running q o → Factor v f → Sequence (q ++ v) (then_after o f)
ends_run (no_run e) d = rw e (one_factor d)
ends_run {q = q} {v = v} (run s) d = and_next q v s d refl
ends_run {v = v} (run_then u s e) d = rw (e, append_assoc) (and_then u v s d refl)

ends_sum : {o : Option Expr} {p v : List Symbol} {b : Expr} → Summed p o → Sequence v b → Expression (p ++ v) (or_after o b)
ends_sum (no_sum e) d = rw e (one_sequence d)
ends_sum {v = v} (sum u s e) d = rw (e, append_assoc) (and_another u v s d refl)

module _ {l : Left} {v : List Symbol} {f : Expr} (d : Factor v f) where
  ends_expression_told : {q : List Symbol} → Lefts q l → Expression (q ++ v) (sum_to l f)
  ends_expression_told (lefts s r hs hr e) = rw (e, append_assoc s r v) (ends_sum hs (ends_run hr d))

  -- what is to the left behind the factor: if another follows, behind a `;`, behind a `+`
  lefts_next : {q : List Symbol} → Lefts q l → Lefts (q ++ v) (onward l f)
  lefts_next (lefts s r hs hr e) = lefts s (r ++ v) hs (run (ends_run hr d)) (rw e (append_assoc s r v))

  lefts_then : {q : List Symbol} → Lefts q l → Lefts (q ++ (v ++ semicolon ∷ [])) (onward l f)
  lefts_then (lefts s r hs hr e) = lefts s _ hs (run_then (r ++ v) (ends_run hr d) refl) (rw e (simp append_assoc))

  lefts_plus : {q : List Symbol} → Lefts q l → Lefts (q ++ (v ++ plus ∷ [])) (upward l f)
  lefts_plus {q} h = lefts _ [] (sum (q ++ v) (ends_expression_told h) refl) (no_run refl) (simp (append_assoc, append-nil))

-- what is ahead of a factor moves on with what is to its left
ahead_moves : {w : List Symbol} {l l' : Left} {ks : List Left} (x : List Symbol) → ((q : List Symbol) → Lefts q l → Lefts (q ++ x) l')
    → Ahead w l ks → Ahead (w ++ x) l' ks
ahead_moves x move (ahead p q hp hq e) = ahead p (q ++ x) hp (move q hq) (rw e (append_assoc p q x))

-- a `(` puts aside what is to the left
ahead_opens : {w : List Symbol} {l : Left} {ks : List Left} → Ahead w l ks → Ahead (w ++ opening ∷ []) nothing_left (l ∷ ks)
ahead_opens (ahead p q hp hq e) = rw e (ahead _ [] (one_more p q hp hq refl) lefts_nothing (rw append-nil))

-- a `)` makes a factor of what is within
closes : {u v : List Symbol} {l k : Left} {f : Expr} {ks : List Left} → Ahead u l (k ∷ ks) → Factor v f
    → Reached (u ++ v ++ closing ∷ []) (having k (sum_to l f) ks)
closes {u} {v} (ahead p q (one_more p' q' hs hk e) hq e') d =
    let within = q ++ v in
    let regrouped : u ++ v ++ closing ∷ [] ≡ p' ++ q' ++ (opening ∷ within ++ closing ∷ []) = rw (e', e) (simp append_assoc) in
    behind (p' ++ q') (opening ∷ within ++ closing ∷ []) (ahead p' q' hs hk refl) (in_parentheses within (ends_expression_told d hq)
    refl) regrouped

-- `end` makes a whole text of it
ends : {u v : List Symbol} {l : Left} {f : Expr} → Ahead u l [] → Factor v f → Whole (u ++ v ++ end ∷ []) (sum_to l f)
ends {v = v} (ahead p q (none_open e) hq e') d = (q ++ v, ends_expression_told d hq, rw (e', e))

-- each step keeps what is behind
start_keeps : {w : List Symbol} → Reached w outside → (t : Symbol) → Held (Reached (w ++ t ∷ [])) (start_step t)
unfolding start_step
start_keeps (nowhere e) path = rw e (before (ahead (path ∷ []) [] (none_open refl) lefts_nothing refl))
start_keeps r (name n) = tt
start_keeps r opening = tt
start_keeps r semicolon = tt
start_keeps r plus = tt
start_keeps r asterisk = tt
start_keeps r closing = tt
start_keeps r end = tt

want_keeps : {w : List Symbol} {l : Left} {ks : List Left} → Ahead w l ks → (t : Symbol) → Held (Reached (w ++ t ∷ [])) (want_step l ks t)
unfolding want_step
want_keeps {w} h (name n) = behind w (name n ∷ []) h (a_name n refl) refl
want_keeps h opening = before (ahead_opens h)
want_keeps h semicolon = tt
want_keeps h plus = tt
want_keeps h asterisk = tt
want_keeps h closing = tt
want_keeps h path = tt
want_keeps h end = tt

have_keeps : (l : Left) (f : Expr) (ks : List Left) {u v : List Symbol} → Ahead u l ks → Factor v f → (t : Symbol)
    → Held (Reached (u ++ v ++ t ∷ [])) (have_step l f ks t)
unfolding have_step
have_keeps l f ks {u} {v} h d (name n) = behind (u ++ v) (name n ∷ []) (ahead_moves v (λ q. lefts_next d) h) (a_name n refl) refl
have_keeps l f ks {v = v} h d opening = before (ahead_opens (ahead_moves v (λ q. lefts_next d) h))
have_keeps l f ks h d semicolon = rw append_assoc (before (ahead_moves _ (λ q. lefts_then d) h))
have_keeps l f ks h d plus = rw append_assoc (before (ahead_moves _ (λ q. lefts_plus d) h))
have_keeps l f ks {u} {v} h d asterisk = rw append_assoc (behind u (v ++ asterisk ∷ []) h (starred v d refl) refl)
have_keeps l f [] h d closing = tt
have_keeps l f (k ∷ ks) h d closing = closes h d
have_keeps l f ks h d path = tt
have_keeps l f [] h d end = through (ends h d)
have_keeps l f (k ∷ ks) h d end = tt

pub step_keeps : (w : List Symbol) (s : State) → Reached w s → (t : Symbol) → Held (Reached (w ++ t ∷ [])) (step_to s t)
unfolding step_to
step_keeps w outside r t = start_keeps r t
step_keeps w (wanting l ks) (before h) t = want_keeps h t
step_keeps w (having l f ks) (behind u v h d e) t = rw e (have_keeps l f ks h d t)
step_keeps w (finished e) r t = tt
