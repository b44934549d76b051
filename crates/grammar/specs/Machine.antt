-- The grammar and the refusals, symbol by symbol from the left: what a reader with a stack does. Nothing here needs to be believed: Promises.antt says
-- that it accepts and refuses exactly as Refusals.antt says. The compiler's readers follow it.
use Rattle.std.specs.Prelude.{cond, not, ◌&&◌, List, [], ◌∷◌, ◌++◌, ℕ, zero, suc, ltb, leb, length}
use Rattle.std.proofs.Math.Option.{Option, some, none}
use Rattle.meaning.specs.Names.{Name, key}
use Rattle.meaning.specs.Words.{Expr}
use Rattle.meaning.specs.Words.Expr.{name as name_of, seq, choice, star}
use Rattle.meaning.specs.Operations.{holds, distinct}
use Rattle.grammar.specs.Symbols.{Symbol, Lexeme, Item, items}
use Rattle.grammar.specs.Symbols.Symbol.{semicolon, plus, asterisk, opening, closing, path, end, name}
use Rattle.grammar.specs.Symbols.Lexeme.{symbol, bad, long}

-- what stands to the left within one pair of parentheses: the sum before the last `+`, and the sequence behind it
pub record Left : Type 0 where
  pub sum : Option Expr
  pub run : Option Expr

abbrev pub nothing_left : Left
nothing_left = record { sum = none; run = none }

-- a, if there is any, and then b; a, if there is any, or b
abbrev pub then_after : Option Expr → Expr → Expr
then_after none b = b
then_after (some a) b = seq a b

abbrev pub or_after : Option Expr → Expr → Expr
or_after none b = b
or_after (some a) b = choice a b

-- all that was read within the parentheses, with the factor f at its end: as a sequence, and as an expression
abbrev pub run_to : Left → Expr → Expr
run_to l f = then_after l.run f

abbrev pub sum_to : Left → Expr → Expr
sum_to l f = or_after l.sum (run_to l f)

-- before `path`; where a factor has to come; where a factor has ended; after `end`. The stack holds what is left of each `(`.
pub data State : Type 0 where
  outside : State
  wanting : Left → List Left → State
  having : Left → Expr → List Left → State
  finished : Expr → State

-- the factor f has ended, and another begins
abbrev pub onward : Left → Expr → Left
onward l f = record { sum = l.sum; run = some (run_to l f) }

-- f has ended, and another sequence begins
abbrev pub upward : Left → Expr → Left
upward l f = record { sum = some (sum_to l f); run = none }

abbrev pub close_step : Left → Expr → List Left → Option State
close_step l f [] = none
close_step l f (k ∷ ks) = some (having k (sum_to l f) ks)

abbrev pub end_step : Left → Expr → List Left → Option State
end_step l f [] = some (finished (sum_to l f))
end_step l f (k ∷ ks) = none

unfoldable pub want_step : Left → List Left → Symbol → Option State
want_step l ks (name n) = some (having l (name_of n) ks)
want_step l ks opening = some (wanting nothing_left (l ∷ ks))
want_step l ks semicolon = none
want_step l ks plus = none
want_step l ks asterisk = none
want_step l ks closing = none
want_step l ks path = none
want_step l ks end = none

unfoldable pub have_step : Left → Expr → List Left → Symbol → Option State
have_step l f ks (name n) = some (having (onward l f) (name_of n) ks)
have_step l f ks opening = some (wanting nothing_left (onward l f ∷ ks))
have_step l f ks semicolon = some (wanting (onward l f) ks)
have_step l f ks plus = some (wanting (upward l f) ks)
have_step l f ks asterisk = some (having l (star f) ks)
have_step l f ks closing = close_step l f ks
have_step l f ks path = none
have_step l f ks end = end_step l f ks

unfoldable pub start_step : Symbol → Option State
start_step path = some (wanting nothing_left [])
start_step (name n) = none
start_step opening = none
start_step semicolon = none
start_step plus = none
start_step asterisk = none
start_step closing = none
start_step end = none

-- the state after a symbol, or none where no text goes on so
unfoldable pub step_to : State → Symbol → Option State
step_to outside t = start_step t
step_to (wanting l ks) t = want_step l ks t
step_to (having l f ks) t = have_step l f ks t
step_to (finished e) t = none

-- how many parentheses are open
unfoldable pub depth_of : State → ℕ
depth_of outside = 0
depth_of (wanting l ks) = length ks
depth_of (having l f ks) = length ks
depth_of (finished e) = 0

-- the limit that a symbol passes, by its number, behind the names ns and with d open; 0 if none
unfoldable pub limit_at : ℕ → List Name → Symbol → ℕ
limit_at d ns opening = cond (leb 16 d) 5 0
limit_at d ns (name n) = cond (leb 64 (length ns)) 6 (cond (not (holds (distinct ns) (key n)) && leb 32 (length (distinct ns))) 7 0)
limit_at d ns semicolon = 0
limit_at d ns plus = 0
limit_at d ns asterisk = 0
limit_at d ns closing = 0
limit_at d ns path = 0
limit_at d ns end = 0

unfoldable pub names_on : List Name → Symbol → List Name
names_on ns (name n) = ns ++ n ∷ []
names_on ns opening = ns
names_on ns semicolon = ns
names_on ns plus = ns
names_on ns asterisk = ns
names_on ns closing = ns
names_on ns path = ns
names_on ns end = ns

-- what comes of a text: its expression, or a number and a place
pub data Verdict : Type 0 where
  accepted : Expr → Verdict
  refused : ℕ → ℕ → Verdict

-- the text ends at `size`
unfoldable pub at_end : ℕ → State → Verdict
at_end size outside = refused 4 size
at_end size (wanting l ks) = refused 4 size
at_end size (having l f ks) = refused 4 size
at_end size (finished e) = accepted e

-- at place k: refused by 4 where there is no step, by a limit where it is not 0, else on it goes
unfoldable pub limited : ℕ → ℕ → Verdict → Verdict
limited zero k v = v
limited (suc n) k v = refused (suc n) k

unfoldable pub stepped : ℕ → ℕ → Option State → (State → Verdict) → Verdict
stepped n k none go = refused 4 k
stepped n k (some s) go = limited n k (go s)

-- an item is read in state s behind the names ns; `go` judges what comes after it
unfoldable pub judge_item : State → List Name → ℕ → Lexeme → (State → List Name → Verdict) → Verdict
judge_item s ns k bad go = refused 2 k
judge_item s ns k long go = refused 3 k
judge_item s ns k (symbol t) go = stepped (limit_at (depth_of s) ns t) k (step_to s t) (λ s'. go s' (names_on ns t))

unfoldable pub judge_from : ℕ → List Item → State → List Name → Verdict
judge_from size [] s ns = at_end size s
judge_from size (x ∷ xs) s ns = judge_item s ns x.place x.lexeme (λ s' ns'. judge_from size xs s' ns')

-- "Refusal 1 comes first; then tokens are taken from the left"
unfoldable pub judge : List ℕ → Verdict
judge text = cond (ltb 4096 (length text)) (refused 1 4096) (judge_from (length text) (items text) outside [])
