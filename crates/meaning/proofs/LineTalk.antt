-- What holds of any line: a call's reply tells its refusal and a refusal leaves the line, talks go on call by call and show their calls, a
-- split of the exchanges is one of the calls, equal parameters give equal talks: by whether the call is refused, and by induction on the calls.
use mathlib.Core.Path.{◌≡◌, refl, ap, ap₂, fun_ext}
use mathlib.Core.Bool.{Bool}
use mathlib.Core.List.{List, [], ◌∷◌, ◌++◌, map, nil≢cons}
use mathlib.Core.Option.{Option, some, none}
use Prim.Native.Nat.{ℕ}
use Rattle.meaning.specs.Names.{Name}
use Rattle.meaning.specs.Calls.{Call, Exchange, call_in, refusal_of, refusal_in}
use Rattle.meaning.specs.Calls.Call.{ask, finish, withdraw}
use Rattle.meaning.specs.Line.{Line, tested, refusal, step, talk, after}
use Rattle.meaning.specs.LinePromises.{SameHistoriesSameLines}

tested_tells : {A : Type 0} (l : Line) (o : Option ℕ) (r : A × Line) → refusal_of (tested l o r).0 ≡ o
tested_tells l none r = refl
tested_tells l (some m) r = refl

module _ (permitted : List Name → Bool) (known : Name → Bool) where
  pub step_tells : (l : Line) (c : Call) → refusal_in (step permitted known l c).0 ≡ refusal permitted known l c
  unfolding step
  step_tells l (ask t n) = tested_tells l _ _
  step_tells l (finish t) = tested_tells l _ _
  step_tells l (withdraw t) = tested_tells l _ _

  refused_leaves : (l : Line) (c : Call) (m : ℕ) → refusal permitted known l c ≡ some m → (step permitted known l c).1 ≡ l
  unfolding step
  refused_leaves l (ask t n) m e = rw e
  refused_leaves l (finish t) m e = rw e
  refused_leaves l (withdraw t) m e = rw e

  pub refused_changes_nothing : (l : Line) (c : Call) (m : ℕ) → refusal_in (step permitted known l c).0 ≡ some m
      → (step permitted known l c).1 ≡ l
  refused_changes_nothing l c m e = refused_leaves l c m (rw step_tells at e)

  pub talk_goes_on : (l : Line) (cs : List Call) (c : Call)
      → talk permitted known l (cs ++ c ∷ []) ≡ talk permitted known l cs ++ (step permitted known (after permitted known l cs) c).0 ∷ []
  unfolding talk after
  talk_goes_on l [] c = refl
  talk_goes_on l (d ∷ cs) c = ap (λ (xs : List Exchange). (step permitted known l d).0 ∷ xs) (talk_goes_on (step permitted known l d).1 cs c)

  -- an exchange shows its call, and a talk its calls
  step_calls : (l : Line) (c : Call) → call_in (step permitted known l c).0 ≡ c
  unfolding step
  step_calls l (ask t n) = refl
  step_calls l (finish t) = refl
  step_calls l (withdraw t) = refl

  pub talk_calls : (l : Line) (cs : List Call) → map call_in (talk permitted known l cs) ≡ cs
  unfolding talk
  talk_calls l [] = refl
  talk_calls l (c ∷ cs) = ap₂ ◌∷◌ (step_calls l c) (talk_calls (step permitted known l c).1 cs)

  -- where exchanges come in two parts, so do their calls
  pub talk_splits : (l : Line) (cs : List Call) (xs ys : List Exchange) → talk permitted known l cs ≡ xs ++ ys
      → (bs ds : List Call) × (talk permitted known l bs ≡ xs) × (talk permitted known (after permitted known l bs) ds ≡ ys)
  unfolding talk after
  talk_splits l cs [] ys e = ([], cs, refl, e)
  talk_splits l [] (x ∷ xs) ys e = absurd (nil≢cons e)
  talk_splits l (c ∷ cs) (x ∷ xs) ys e =
      let (bs, ds, p, q) = talk_splits (step permitted known l c).1 cs xs ys cc in
      (c ∷ bs, ds, cc, q)

  -- the first exchange is what its call is told
  pub first_told : (l : Line) (cs : List Call) (x : Exchange) (xs : List Exchange) → talk permitted known l cs ≡ x ∷ xs
      → (step permitted known l (call_in x)).0 ≡ x
  unfolding talk
  first_told l [] x xs e = absurd (nil≢cons e)
  first_told l (c ∷ cs) x xs e = let h : (step permitted known l c).0 ≡ x = cc in rw (← h, step_calls)

pub same_histories_same_lines : SameHistoriesSameLines
same_histories_same_lines permitted permitted' known known' p k l cs =
    (ap₂ (λ x y. talk x y l cs) (fun_ext p) (fun_ext k), ap₂ (λ x y. after x y l cs) (fun_ext p) (fun_ext k))
