-- Runs of calls: one goes on with what the calls before left; any calls can be made from an opening over a sound table, since each call of
-- lines that are alike has an answer; and they have one outcome, since no call has two.
use mathlib.Core.Path.{◌≡◌, refl, sym, ap, ap₂, ◌∙◌}
use mathlib.Core.List.{List, [], ◌∷◌}
use Prim.Native.Nat.{ℕ, ◌≤◌}
use native.Mathlib.Omega.{arith}
use lib.ListN.{length}
use Rattle.meaning.specs.Calls.{Call}
use Rattle.meaning.specs.Line.{Line, opening}
use Rattle.table.specs.Soundness.{Sound as TableSound}
use Rattle.table.specs.declared.cells.Table.{Table}
use Rattle.standing.specs.declared.entries.Entry.{Entry}
use Rattle.standing.specs.declared.records.Session.{Session}
use Rattle.standing.specs.Lists.{blanked}
use Rattle.std.specs.Prelude.{Ok}
use Rattle.steps.specs.Calling.{Opens}
use Rattle.steps.specs.Calling.Serves.{does}
use Rattle.steps.specs.Steps.{open_step}
use Rattle.steps.specs.Steps as built
use Rattle.steps.proofs.OpenServed.{open_rows_left}
use Rattle.simulation.specs.Runs.{Made, calls_of, Run}
use Rattle.simulation.specs.Likeness.{Alike}
use Rattle.simulation.specs.Promises.{RunGoesOn, CallsCanBeMade, RunsDetermined}
use Rattle.simulation.proofs.Leaving.{made_one}
use Rattle.simulation.proofs.CallsAlike.{call_alike}
use Rattle.simulation.proofs.RunsAlike.{opened_so, opening_alike}

pub run_goes_on : RunGoesOn
unfolding Run
run_goes_on s s'' l l'' [] ns = (
  λ run. (s, l, (refl, refl), run),
  λ (s', l', (is, il), run). rw (is, il) at run,
)
run_goes_on s s'' l l'' (m ∷ ms) ns = (
  λ (s₁, l₁, by, run). let (s', l', first, rest) = (run_goes_on s₁ s'' l₁ l'' ms ns).0 run in (s', l', (s₁, l₁, by, first), rest),
  λ (s', l', (s₁, l₁, by, first), rest). (s₁, l₁, by, (run_goes_on s₁ s'' l₁ l'' ms ns).1 (s', l', first, rest)),
)

-- some calls can be made of record s and list l
record Makes (s : Session) (l : List Entry) (cs : List Call) : Type 0 where
  made : List Made
  session : Session
  list : List Entry
  run : Run s l made session list
  those_calls : calls_of made ≡ cs

makes_any : (t : Table) (s : Session) (l : List Entry) (i : Line) → Alike t s l i → (cs : List Call) → Makes s l cs
unfolding Run
makes_any t s l i a [] = record { made = []; session = s; list = l; run = (refl, refl); those_calls = refl }
makes_any t s l i a (c ∷ cs) =
    let one = call_alike t s l i a c in
    let rest = makes_any t one.session one.list _ one.still_alike cs in
    record {
      made = record { call = c; reply = one.reply } ∷ rest.made;
      session = rest.session;
      list = rest.list;
      run = (one.session, one.list, one.leaves, rest.run);
      those_calls = ap (λ (ds : List Call). c ∷ ds) rest.those_calls;
    }

-- over a sound table, on a list that is long enough, no opening is refused
opens_always : (t : Table) (s : Session) (l : List Entry) → TableSound t → 64 ≤ length l
    → Opens s l t (Ok tt) (built.opening t) (blanked 64 l)
unfolding open_step
opens_always t s l sound long = does (λ m row. (open_rows_left t l row).2 long sound) refl

pub calls_can_be_made : CallsCanBeMade
calls_can_be_made t sound s l long cs =
    let opens = opens_always t s l sound long in
    let first = built.opening t in
    let all = makes_any t first (blanked 64 l) opening (opening_alike t s first l (blanked 64 l) opens) cs in
    record {
      made = all.made;
      session = all.session;
      list = all.list;
      run = record { lent = s; list = l; opened = first; blanked = blanked 64 l; opens = opens; runs = all.run };
      on_that_record = refl;
      on_that_list = refl;
      those_calls = all.those_calls;
    }

-- equal calls of one record and list leave the same
runs_one : (s s₁ s₂ : Session) (l l₁ l₂ : List Entry) (ms₁ ms₂ : List Made) → Run s l ms₁ s₁ l₁ → Run s l ms₂ s₂ l₂
    → calls_of ms₁ ≡ calls_of ms₂ → (ms₁ ≡ ms₂) × (s₁ ≡ s₂) × (l₁ ≡ l₂)
unfolding Run
runs_one s s₁ s₂ l l₁ l₂ [] [] (is, il) (js, jl) e = (refl, is ∙ sym js, il ∙ sym jl)
runs_one s s₁ s₂ l l₁ l₂ [] (m ∷ ms) run₁ run₂ e = let z : ◌≡◌ {A = ℕ} 0 1 = cc in absurd (omega arith)
runs_one s s₁ s₂ l l₁ l₂ (m ∷ ms) [] run₁ run₂ e = let z : ◌≡◌ {A = ℕ} 0 1 = cc in absurd (omega arith)
runs_one s s₁ s₂ l l₁ l₂ (m ∷ ms) (d ∷ ds) (s₃, l₃, by, run₁) (s₄, l₄, by', run₂) e =
    let first : m.call ≡ d.call = cc in
    let others : calls_of ms ≡ calls_of ds = cc in
    let (same, records, lists) = made_one s s₃ s₄ l l₃ l₄ m d first by by' in
    let (rest, ends, left) = runs_one s₄ s₁ s₂ l₄ l₁ l₂ ms ds (rw (records, lists) at run₁) run₂ others in
    (ap₂ (λ (x : Made) (xs : List Made). x ∷ xs) same rest, ends, left)

pub runs_determined : RunsDetermined
runs_determined t ms₁ ms₂ s₁ s₂ l₁ l₂ run₁ run₂ lists calls =
    let (is, il) = opened_so t run₁.lent run₁.opened run₁.list run₁.blanked run₁.opens in
    let (js, jl) = opened_so t run₂.lent run₂.opened run₂.list run₂.blanked run₂.opens in
    let same-record : run₁.opened ≡ run₂.opened = is ∙ sym js in
    let same-list : run₁.blanked ≡ run₂.blanked = il ∙ rw lists (sym jl) in
    runs_one run₂.opened s₁ s₂ run₂.blanked l₁ l₂ ms₁ ms₂ (rw (same-record, same-list) at run₁.runs) run₂.runs calls
