-- The entries in use, read by name, beside the ideal line's: a search finds the same place in both, an entry put at the end of one is at
-- the end of the other, and one that is taken out is missing in both.
use mathlib.Core.Path.{◌≡◌, refl, ap}
use mathlib.Core.Bool.{Bool, true, false, cond}
use mathlib.Core.List.{List, [], ◌∷◌, map}
use Prim.Native.Nat.{ℕ, zero, suc, ◌-◌, ◌<◌, ◌≤◌}
use native.Mathlib.Nat.{not-suc-le-zero, le_of_suc-le-suc}
use native.Mathlib.Omega.{arith}
use lib.ListN.{length, get_or, take, length-map}
use lib.Seq.{length-take-le}
use Rattle.meaning.specs.Waiting.{Entry as Named, Found as Finding, behind as further, seek as look, place_of as placed, put, without}
use Rattle.meaning.specs.Waiting.Found.{nobody, at}
use Rattle.std.specs.Prelude.{Option as RustOption, Some, None}
use Rattle.standing.specs.declared.searches.Waiter.{Waiter}
use Rattle.standing.specs.declared.entries.Entry.{Entry}
use Rattle.standing.specs.Lists.{blank_entry, place_of, put_at, moved_up, taken_out, behind, seek}

-- entries are read by f
module _ (f : Entry → Named) where
  -- what was found, read so
  abbrev pub found_heard : RustOption Waiter → Finding
  found_heard None = nobody
  found_heard (Some w) = at w.place (f w.entry)

  further_heard : (b : Bool) (e : Entry) (r : RustOption Waiter)
      → cond b (at 0 (f e)) (further (found_heard r)) ≡ found_heard (cond b (Some (record { place = 0; entry = e })) (behind r))
  further_heard true e r = refl
  further_heard false e None = refl
  further_heard false e (Some w) = refl

  pub seek_heard : (test : Entry → Bool) (told : Named → Bool) (es : List Entry)
      → ((i : ℕ) → i < length es → told (f (get_or es i blank_entry)) ≡ test (get_or es i blank_entry))
      → look told (map f es) ≡ found_heard (seek test es)
  unfolding look seek
  seek_heard test told [] same = refl
  seek_heard test told (e ∷ es) same =
      rw (same 0 (omega arith), seek_heard test told es (λ i l. same (suc i) (omega (arith, l))))
      (further_heard (test e) e (seek test es))

  -- a new entry gets the same place, and stands there in both
  pub place_heard : (es : List Entry) (e : Entry) → placed (map f es) (f e) ≡ place_of es e
  place_heard es e = rw length-map

  put_last_heard : (n : ℕ) (l : List Entry) (e : Entry) → n < length l
      → map f (take (suc n) (put_at n e l)) ≡ put (length (map f (take n l))) (f e) (map f (take n l))
  unfolding put
  put_last_heard n [] e h = absurd (not-suc-le-zero h)
  put_last_heard zero (d ∷ l) e h = refl
  put_last_heard (suc n) (d ∷ l) e h = rw (put_last_heard n l e (le_of_suc-le-suc h))

  pub put_heard : (n : ℕ) (l : List Entry) (e : Entry) → n < length l
      → map f (take (suc n) (put_at (place_of (take n l) e) e l)) ≡ put (placed (map f (take n l)) (f e)) (f e) (map f (take n l))
  put_heard n l e h = rw (length-take-le n l (omega arith)) (put_last_heard n l e h)

  moved_heard : (n : ℕ) (l : List Entry) → n ≤ length l → map f (take n (moved_up n l)) ≡ map f (take n l)
  unfolding moved_up
  moved_heard zero l h = refl
  moved_heard (suc n) [] h = absurd (not-suc-le-zero h)
  moved_heard (suc n) (d ∷ l) h = rw (moved_heard n l (le_of_suc-le-suc h))

  pub taken_heard : (n p : ℕ) (l : List Entry) → p < n → n ≤ length l
      → map f (take (n - 1) (taken_out n p l)) ≡ without p (map f (take n l))
  unfolding taken_out without
  taken_heard zero p l here fits = absurd (not-suc-le-zero here)
  taken_heard (suc n) p [] here fits = absurd (not-suc-le-zero fits)
  taken_heard (suc n) zero (e ∷ l) here fits =
      let fewer : suc n - 1 ≡ n = omega arith in
      rw fewer (moved_heard n l (le_of_suc-le-suc fits))
  taken_heard (suc zero) (suc p) (e ∷ l) here fits = absurd (omega arith)
  taken_heard (suc (suc n)) (suc p) (e ∷ l) here fits =
      let fewer : suc (suc n) - 1 ≡ suc n = omega arith in
      let left : suc n - 1 ≡ n = omega arith in
      rw fewer (ap (λ (es : List Named). f e ∷ es) (rw left at (taken_heard (suc n) p l (le_of_suc-le-suc here) (le_of_suc-le-suc fits))))
