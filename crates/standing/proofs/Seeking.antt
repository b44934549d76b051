-- What a search through a list of entries finds: the first entry that passes the test, by its place; or nobody, and then every
-- entry fails it. By induction on the list. In the entries in use, places are those of the whole list.
use mathlib.Core.Path.{◌≡◌, refl, sym, ◌∙◌}
use mathlib.Core.Bool.{Bool, true, false, cond}
use mathlib.Core.List.{List, [], ◌∷◌}
use Prim.Native.Nat.{ℕ, zero, suc, ◌<◌, ◌≤◌}
use native.Mathlib.Nat.{not-suc-le-zero, le_of_suc-le-suc}
use native.Mathlib.Omega.{arith}
use lib.ListN.{length, get_or}
use lib.Seq.{length-take-le, get_or-take}
use Rattle.std.specs.Prelude.{Option, Some, None}
use Rattle.standing.specs.declared.entries.Entry.{Entry}
use Rattle.standing.specs.declared.records.Session.{Session}
use Rattle.standing.specs.declared.searches.Waiter.{Waiter}
use Rattle.standing.specs.Lists.{blank_entry, in_use, behind, seek}

-- the entries before place n fail the test
abbrev pub FailBefore : (Entry → Bool) → List Entry → ℕ → Type 0
FailBefore test es n = (i : ℕ) → i < n → test (get_or es i blank_entry) ≡ false

-- w is the first of the entries to pass the test
pub record Earliest (test : Entry → Bool) (es : List Entry) (w : Waiter) : Type 0 where
  pub there : w.place < length es
  pub entry_there : get_or es w.place blank_entry ≡ w.entry
  pub passes : test w.entry ≡ true
  pub others : FailBefore test es w.place

-- what it means to have found f
abbrev pub Finds : (Entry → Bool) → List Entry → Option Waiter → Type 0
Finds test es None = FailBefore test es (length es)
Finds test es (Some w) = Earliest test es w

module _ (test : Entry → Bool) (e : Entry) (es : List Entry) where
  fail_from_first : (n : ℕ) → test e ≡ false → FailBefore test es n → FailBefore test (e ∷ es) (suc n)
  fail_from_first n q h zero l = q
  fail_from_first n q h (suc i) l = h i (le_of_suc-le-suc l)

  finds_behind : (b : Bool) → test e ≡ b → (f : Option Waiter) → Finds test es f
      → Finds test (e ∷ es) (cond b (Some (record { place = 0; entry = e })) (behind f))
  finds_behind true q f h =
      record { there = omega arith; entry_there = refl; passes = q; others = λ i l. absurd (not-suc-le-zero l) }
  finds_behind false q None h = fail_from_first (length es) q h
  finds_behind false q (Some w) h =
      record {
        there = omega (arith, h.there);
        entry_there = h.entry_there;
        passes = h.passes;
        others = fail_from_first w.place q h.others;
      }

pub seek_finds : (test : Entry → Bool) (es : List Entry) → Finds test es (seek test es)
unfolding seek
seek_finds test [] = λ i l. absurd (not-suc-le-zero l)
seek_finds test (e ∷ es) = finds_behind test e es (test e) refl (seek test es) (seek_finds test es)

-- the same in the whole list, of which some are in use
module _ (s : Session) (l : List Entry) (fits : s.waiting ≤ length l) (test : Entry → Bool) where
  pub found_in_use : (w : Waiter) → Earliest test (in_use s l) w
      → (w.place < s.waiting) × (get_or l w.place blank_entry ≡ w.entry)
  found_in_use w first =
      let here : w.place < s.waiting = omega (arith, first.there, length-take-le s.waiting l fits) in
      (here, sym (get_or-take s.waiting l w.place blank_entry here) ∙ first.entry_there)

  pub nobody_in_use : Finds test (in_use s l) None → FailBefore test l s.waiting
  nobody_in_use none i h = rw get_or-take at (none i (omega (arith, length-take-le s.waiting l fits)))
