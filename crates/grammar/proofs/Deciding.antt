-- One item behind symbols that the machine has come through (`Kept`): it refuses the item by the least row that does, or no row refuses it and
-- the machine comes through it too. A symbol without a step starts no text, since what the grammar derives the machine runs through; one with
-- a step starts some, since what the machine has run through can be completed.
use mathlib.Core.Path.{◌≡◌, refl}
use mathlib.Core.List.{List, [], ◌∷◌, ◌++◌}
use mathlib.Core.Option.{Option, some, none}
use Prim.Native.Nat.{ℕ, zero, suc, ◌≤◌, ◌<◌}
use native.Mathlib.Omega.{arith}
use Rattle.meaning.specs.Names.{Name}
use Rattle.meaning.specs.Operations.{distinct, distinct_after}
use Rattle.grammar.specs.Symbols.{Symbol, Lexeme}
use Rattle.grammar.specs.Symbols.Lexeme.{symbol, bad, long}
use Rattle.grammar.specs.Refusals.{opened, closed, names_in, StartsNoText, Row}
use Rattle.grammar.specs.Refusals.Row.{bad_byte, long_name, no_text, too_deep, one_position_too_many, one_name_too_many}
use Rattle.grammar.specs.Machine.{State, step_to, depth_of, limit_at, Verdict, limited, stepped, judge_item}
use Rattle.grammar.specs.Machine.State.{outside}
use Rattle.grammar.specs.Machine.Verdict.{refused}
use Rattle.grammar.proofs.Runs.{reached, after_append, none_after_none}
use Rattle.grammar.proofs.Derived.{whole_runs}
use Rattle.grammar.proofs.Completed.{reached_starts}
use Rattle.grammar.proofs.Counts.{opened_append, closed_append, names_after, step_deep}
use Rattle.grammar.proofs.Limits.{Under, limit_row, row_limit, limit_keeps}

-- the symbols u lead to state s and pass no limit
pub record Kept (u : List Symbol) (s : State) : Type 0 where
  pub leads : reached u ≡ some s
  pub under : Under u (depth_of s)

pub kept_none : Kept [] outside
unfolding depth_of opened closed names_in distinct distinct_after
kept_none = record { leads = refl; under = record { deep = refl; shallow = omega arith; positions = omega arith; names = omega arith } }

-- the state behind one symbol more
step_leads : (u : List Symbol) (s : State) (t : Symbol) → reached u ≡ some s → reached (u ++ t ∷ []) ≡ step_to s t
step_leads u s t e = rw (after_append (some outside) u (t ∷ []), e)

-- symbols that lead nowhere start no text, and those that lead somewhere do
pub stuck_starts_none : (w : List Symbol) → reached w ≡ none → StartsNoText w
stuck_starts_none w e v x d =
    let runs = whole_runs d in
    let stuck : reached (w ++ v) ≡ none = rw (after_append (some outside) w v, e) (none_after_none v) in
    let z : ◌≡◌ {A = ℕ} 0 1 = cc in
    omega arith

pub state_starts_some : (w : List Symbol) (s : State) → reached w ≡ some s → ¬ StartsNoText w
state_starts_some w s e none-starts = let (v, x, d) = reached_starts w s e in none-starts v x d

-- number n is the least that a row gives x behind u
abbrev pub Least : List Symbol → Lexeme → ℕ → Type 0
Least u x n = Row u x n × ((m : ℕ) → m < n → ¬ Row u x m)

-- what becomes of an item behind u, in state s; `go` judges what comes after it, and k is its place
pub data Decided (u : List Symbol) (s : State) : Lexeme → Type 0 where
  refuses : {x : Lexeme} (n : ℕ) → Least u x n
      → ((k : ℕ) (go : State → List Name → Verdict) → judge_item s (names_in u) k x go ≡ refused n k) → Decided u s x
  goes_on : {t : Symbol} (s' : State) → ((n : ℕ) → ¬ Row u (symbol t) n) → Kept (u ++ t ∷ []) s'
      → ((k : ℕ) (go : State → List Name → Verdict) → judge_item s (names_in u) k (symbol t) go ≡ go s' (names_in (u ++ t ∷ [])))
      → Decided u s (symbol t)

-- the lowest number that a row can give
abbrev lowest : Lexeme → ℕ
lowest bad = 2
lowest long = 3
lowest (symbol t) = 4

row_above : {u : List Symbol} {x : Lexeme} {m : ℕ} → Row u x m → lowest x ≤ m
row_above (bad_byte e) = rw e (omega arith)
row_above (long_name e) = rw e (omega arith)
row_above (no_text t e stops) = rw e (omega arith)
row_above (too_deep e h) = rw e (omega arith)
row_above (one_position_too_many n e h) = rw e (omega arith)
row_above (one_name_too_many n e new h) = rw e (omega arith)

lowest_least : (u : List Symbol) (x : Lexeme) → Row u x (lowest x) → Least u x (lowest x)
lowest_least u x r = (r, λ m below other. omega (arith, row_above other))

module _ (u : List Symbol) (s : State) (kept : Kept u s) where
  -- a symbol that has a step and passes no limit
  module _ (t : Symbol) (s' : State) (step : step_to s t ≡ some s') where
    kept_step : limit_at (depth_of s) (names_in u) t ≡ 0 → Kept (u ++ t ∷ []) s'
    kept_step none_passed =
        let keeps = limit_keeps u (depth_of s) kept.under t none_passed in
        let deep = step_deep s t s' step in
        record {
          leads = rw (step_leads u s t kept.leads) step;
          under =
              record {
                deep = omega (arith, kept.under.deep, opened_append u (t ∷ []), closed_append u (t ∷ []));
                shallow = omega arith;
                positions = rw (names_after u t) keeps.1;
                names = rw (names_after u t) keeps.2;
              };
        }

    some_starts : ¬ StartsNoText (u ++ t ∷ [])
    some_starts = state_starts_some (u ++ t ∷ []) s' (rw (step_leads u s t kept.leads) step)

    decides_limit : (n : ℕ) → limit_at (depth_of s) (names_in u) t ≡ n → Decided u s (symbol t)
    unfolding judge_item stepped limited
    decides_limit zero e =
        goes_on {t = t} s' (λ n r. omega (arith, row_limit u (depth_of s) kept.under t r some_starts)) (kept_step e)
        (λ k go. rw (step, e, names_after u t))
    decides_limit (suc n) e =
        refuses (suc n) (
          rw e at (limit_row u (depth_of s) kept.under t (omega arith)),
          λ m below r. omega (arith, row_limit u (depth_of s) kept.under t r some_starts),
        )
        (λ k go. rw (step, e))

  decides_step : (t : Symbol) (o : Option State) → step_to s t ≡ o → Decided u s (symbol t)
  unfolding judge_item stepped
  decides_step t none e =
      refuses 4 (lowest_least u (symbol t) (no_text t refl (stuck_starts_none (u ++ t ∷ []) (rw (step_leads u s t kept.leads) e))))
      (λ k go. rw e)
  decides_step t (some s') e = decides_limit t s' e (limit_at (depth_of s) (names_in u) t) refl

  pub decides : (x : Lexeme) → Decided u s x
  unfolding judge_item
  decides bad = refuses 2 (lowest_least u bad (bad_byte refl)) (λ k go. refl)
  decides long = refuses 3 (lowest_least u long (long_name refl)) (λ k go. refl)
  decides (symbol t) = decides_step t (step_to s t) refl
