-- The waiting list: what a search finds, and that among distinct terminals an entry is found by its own. A found entry splits the list into
-- those ahead and those after; all is by induction on the list, or on those ahead.
use mathlib.Core.Path.{◌≡◌, refl, sym, ap, ◌∙◌}
use mathlib.Core.Bool.{Bool, true, false, cond, false≢true}
use mathlib.Core.List.Memᴰ
use mathlib.Core.List.{List, [], ◌∷◌, ◌++◌, map-append, Memᴰ}
use mathlib.Core.Logic.{◌↔◌, ⊎_elim}
use Prim.Native.Nat.{ℕ, suc}
use lib.Dec.{eqb}
use lib.ListN.{length}
use borrow.Author.Tests.{eqb-true, eq-eqb, ne_eqb}
use Rattle.meaning.specs.Waiting.{Entry, terminals_of, Found, behind, seek, entry_of, put, without}
use Rattle.meaning.specs.Waiting.Found.{nobody, at}
use Rattle.meaning.specs.Line.{waits}

-- no entry passes the test
abbrev pub Fails : (Entry → Bool) → List Entry → Type 0
Fails test es = (d : Entry) → Memᴰ d es → ¬ (test d ≡ true)

pub not_true : {b : Bool} → b ≡ false → ¬ (b ≡ true)
not_true e t = false≢true (sym e ∙ t)

-- e is the first of es to pass the test, and stands at place p
pub record First (test : Entry → Bool) (es : List Entry) (p : ℕ) (e : Entry) : Type 0 where
  pub ahead : List Entry
  pub after : List Entry
  pub listed : es ≡ ahead ++ e ∷ after
  pub place : p ≡ length ahead
  pub others : Fails test ahead
  pub passes : test e ≡ true

-- what it means to have found f in es
abbrev pub Finds : (Entry → Bool) → List Entry → Found → Type 0
Finds test es nobody = Fails test es
Finds test es (at p e) = First test es p e

fails_first : (test : Entry → Bool) (d : Entry) (es : List Entry) → test d ≡ false → Fails test es → Fails test (d ∷ es)
fails_first test d es e h c m = ⊎_elim (λ q. not_true (ap test q ∙ e)) (h c) (Memᴰ.cases_cons m)

finds_after : (test : Entry → Bool) (d : Entry) (es : List Entry) (b : Bool) → test d ≡ b → (f : Found) → Finds test es f
    → Finds test (d ∷ es) (cond b (at 0 d) (behind f))
finds_after test d es true e f h =
    record { ahead = []; after = es; listed = refl; place = refl; others = λ c m. absurd (Memᴰ.not-nil m); passes = e }
finds_after test d es false e nobody h = fails_first test d es e h
finds_after test d es false e (at p c) h =
    record {
      ahead = d ∷ h.ahead;
      after = h.after;
      listed = rw h.listed;
      place = ap suc h.place;
      others = fails_first test d h.ahead e h.others;
      passes = h.passes;
    }

pub seek_finds : (test : Entry → Bool) (es : List Entry) → Finds test es (seek test es)
unfolding seek
seek_finds test [] = λ d m. absurd (Memᴰ.not-nil m)
seek_finds test (d ∷ es) = finds_after test d es (test d) refl (seek test es) (seek_finds test es)

-- whoever stands in a list without one stands in the list
pub member_around {ℓ} : {A : Type ℓ} {x : A} (xs ys : List A) (y : A) → Memᴰ x (xs ++ ys) → Memᴰ x (xs ++ y ∷ ys)
member_around xs ys y m =
    ⊎_elim (λ k. Memᴰ.append_left (y ∷ ys) k) (λ k. Memᴰ.append_right xs (Memᴰ.tail k)) (Memᴰ.append_cases xs m)

-- an entry stands in the list that it splits, and so does its terminal
pub stands_between : {es : List Entry} (ahead after : List Entry) (e : Entry) → es ≡ ahead ++ e ∷ after → Memᴰ e es
stands_between ahead after e l = rw l (Memᴰ.append_right ahead (Memᴰ.head refl))

terminal_between : {t : ℕ} (ahead after : List Entry) (e : Entry) → t ≡ e.terminal → Memᴰ t (terminals_of (ahead ++ e ∷ after))
terminal_between ahead after e q = Memᴰ.cast q (Memᴰ.map (λ (d : Entry). d.terminal) (stands_between ahead after e refl))

-- a terminal waits if its entry is found
found_waits : (t : ℕ) (es : List Entry) (f : Found) → Finds (λ e. eqb e.terminal t) es f → (waits f ≡ true) ↔ Memᴰ t (terminals_of es)
found_waits t es nobody h = (
  λ e. absurd (false≢true e),
  λ m. let (d, k, q) = Memᴰ.of_map (λ (e : Entry). e.terminal) es m in absurd (h d k (eq-eqb d.terminal t q)),
)
found_waits t es (at p e) h = (
  λ z. rw h.listed (terminal_between h.ahead h.after e (sym (eqb-true e.terminal t h.passes))),
  λ m. refl,
)

pub waits_reads : (t : ℕ) (es : List Entry) → (waits (entry_of t es) ≡ true) ↔ Memᴰ t (terminals_of es)
waits_reads t es = found_waits t es (entry_of t es) (seek_finds _ es)

-- no terminal stands twice
abbrev pub Distinct : List ℕ → Type 0
Distinct [] = Unit
Distinct (t ∷ ts) = ¬ Memᴰ t ts × Distinct ts

distinct_around : (ts us : List ℕ) (u : ℕ) → Distinct (ts ++ u ∷ us) → Distinct (ts ++ us)
distinct_around [] us u d = d.1
distinct_around (t ∷ ts) us u d = (λ m. d.0 (member_around ts us u m), distinct_around ts us u d.1)

pub distinct_with : (ts : List ℕ) (t : ℕ) → Distinct ts → ¬ Memᴰ t ts → Distinct (ts ++ t ∷ [])
distinct_with [] t d h = (h, tt)
distinct_with (u ∷ ts) t d h = (
  λ m. ⊎_elim d.0 (λ k. h (Memᴰ.head (sym (Memᴰ.eq_of_singleton k)))) (Memᴰ.append_cases ts m),
  distinct_with ts t d.1 (λ m. h (Memᴰ.tail m)),
)

distinct_ahead : (ts us : List ℕ) (u : ℕ) → Distinct (ts ++ u ∷ us) → ¬ Memᴰ u ts
distinct_ahead [] us u d m = Memᴰ.not-nil m
distinct_ahead (t ∷ ts) us u d m =
    ⊎_elim (λ q. d.0 (Memᴰ.append_right ts (Memᴰ.head (sym q)))) (distinct_ahead ts us u d.1) (Memᴰ.cases_cons m)

-- among distinct terminals an entry is the entry of its terminal
own_found : (ahead after : List Entry) (e : Entry) → Distinct (terminals_of (ahead ++ e ∷ after))
    → entry_of e.terminal (ahead ++ e ∷ after) ≡ at (length ahead) e
unfolding seek
own_found [] after e d = rw (eq-eqb e.terminal e.terminal refl)
own_found (c ∷ ahead) after e d =
    rw (ne_eqb c.terminal e.terminal (λ q. d.0 (terminal_between ahead after e q))) (ap behind (own_found ahead after e d.1))

without_between : (ahead after : List Entry) (e : Entry) → without (length ahead) (ahead ++ e ∷ after) ≡ ahead ++ after
unfolding without
without_between [] after e = refl
without_between (d ∷ ahead) after e = rw (without_between ahead after e)

-- an entry of es, with those ahead of it and those after
module _ {es : List Entry} (ahead after : List Entry) (e : Entry) (listed : es ≡ ahead ++ e ∷ after) where
  pub own_entry : Distinct (terminals_of es) → entry_of e.terminal es ≡ at (length ahead) e
  own_entry d = rw listed (own_found ahead after e (rw listed at d))

  pub none_own_ahead : Distinct (terminals_of es) → ¬ Memᴰ e.terminal (terminals_of ahead)
  none_own_ahead d = distinct_ahead (terminals_of ahead) (terminals_of after) e.terminal (rw (listed, map-append) at d)

  pub without_own : without (length ahead) es ≡ ahead ++ after
  without_own = rw listed (without_between ahead after e)

  pub distinct_without : Distinct (terminals_of es) → Distinct (terminals_of (ahead ++ after))
  distinct_without d = rw map-append (distinct_around (terminals_of ahead) (terminals_of after) e.terminal (rw (listed, map-append) at d))

pub fails_with : (test : Entry → Bool) (es : List Entry) (e : Entry) → Fails test es → ¬ (test e ≡ true) → Fails test (es ++ e ∷ [])
fails_with test es e h q d m = ⊎_elim (h d) (λ k t. q (ap test (sym (Memᴰ.eq_of_singleton k)) ∙ t)) (Memᴰ.append_cases es m)

pub put_last : (es : List Entry) (e : Entry) → put (length es) e es ≡ es ++ e ∷ []
unfolding put
put_last [] e = refl
put_last (d ∷ es) e = rw (put_last es e)
