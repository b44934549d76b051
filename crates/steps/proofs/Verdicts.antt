-- The tests that every call makes: 8, 9 and 10 are given exactly where their rows apply and none before them; past them, the list is long
-- enough, record and list are sound and the terminal is one of 64. And who runs and who waits, as the program tests it.
use mathlib.Core.Path.{◌≡◌, refl, sym, ap, ◌∙◌}
use mathlib.Core.Bool.{Bool, true, false, false≢true}
use mathlib.Core.List.{List}
use mathlib.Core.Logic.{◌↔◌, ⊎_elim}
use Prim.Native.Nat.{ℕ, ◌≤◌, ◌<◌}
use native.Mathlib.Omega.{arith}
use borrow.Author.Tests.{eqb-true, eq-eqb, lt-ltb, le-ltb}
use lib.Dec.{eqb}
use lib.ListN.{length, get_or}
use lib.Seq.{get_or-take}
use Rattle.meaning.specs.Calls.{Call}
use Rattle.meaning.proofs.SetLaws.{below_or_not}
use Rattle.standing.specs.declared.searches.Waiter.{Waiter}
use Rattle.standing.specs.declared.numbers.Terminal.{Terminal}
use Rattle.standing.specs.declared.entries.Entry.{Entry}
use Rattle.standing.specs.declared.records.Session.{Session}
use Rattle.standing.specs.declared.searches.Search.{Search}
use Rattle.standing.specs.Lists.{blank_entry, in_use, seek}
use Rattle.standing.specs.Searching.{searching, looked}
use Rattle.standing.specs.Soundness.{RecordSound, Sound}
use Rattle.std.specs.Prelude.{Result, Ok, Err, Option, Some, None, is_some}
use Rattle.steps.specs.declared.replies.CallRefusal.{CallRefusal}
use Rattle.steps.specs.declared.replies.CallRefusal.TheVariants.{ShortList, Unsound, NoTerminal}
use Rattle.steps.specs.Answers.{number_of}
use Rattle.steps.specs.Refusals.{Row, First, terminal_of, Waits}
use Rattle.steps.specs.Refusals.Row.{short_list, unsound, terminal_above_63}
use Rattle.steps.specs.Values.{first_refusal, runs_in}
use Rattle.standing.proofs.Looking.{looked_own}
use Rattle.steps.proofs.RowNumbers.{rows_left}
use Rattle.standing.proofs.Seeking.{Finds, seek_finds}
use Rattle.standing.proofs.SoundLists.{length_in_use, looking_decides}
use Rattle.standing.proofs.States.{free_not_running, same_runner}

-- the running terminal
pub runs_says : (st : Option Terminal) (t : Terminal) → (runs_in st t ≡ true) ↔ (st ≡ Some t)
runs_says None t = (λ h. absurd (false≢true h), λ e. free_not_running t e)
runs_says (Some u) t = (
  λ h. ap (λ (n : ℕ). Some (record { 0 = n })) (eqb-true u.0 t.0 h),
  λ e. eq-eqb u.0 t.0 (same_runner u t e),
)

-- what is found says whether some entry passes the test
found_says : (test : Entry → Bool) (es : List Entry) (f : Option Waiter) → Finds test es f
    → (is_some f ≡ true) ↔ ((i : ℕ) × (i < length es) × (test (get_or es i blank_entry) ≡ true))
found_says test es None finds = (λ h. absurd (false≢true h), λ h. absurd (false≢true (sym (finds h.0 h.1) ∙ h.2)))
found_says test es (Some w) finds = (λ h. (w.place, finds.there, rw finds.entry_there finds.passes), λ h. refl)

-- a terminal waits if its entry is found among those in use
pub entry_waits : (s : Session) (l : List Entry) (u : ℕ) → 64 ≤ length l → RecordSound s
    → (is_some (seek (λ e. eqb e.terminal.0 u) (in_use s l)) ≡ true) ↔ Waits s l u
entry_waits s l u long r =
    let test : Entry → Bool = λ e. eqb e.terminal.0 u in
    let says = found_says test (in_use s l) (seek test (in_use s l)) (seek_finds test (in_use s l)) in
    let count = length_in_use s l (record { 0 = u }) 0 long r in (
      λ h.
          let i = says.0 h in
          let there : i.0 < s.waiting = omega (arith, i.1, count) in (
            i.0,
            there,
            ap (λ (e : Entry). e.terminal.0) (sym (get_or-take s.waiting l i.0 blank_entry there)) ∙ eqb-true _ _ i.2,
          ),
      λ h.
          says.1 (
            h.0,
            omega (arith, h.1, count),
            eq-eqb _ _ (ap (λ (e : Entry). e.terminal.0) (get_or-take s.waiting l h.0 blank_entry h.1) ∙ h.2),
          ),
    )

module _ (s : Session) (l : List Entry) (t : Terminal) (w : ℕ) where
  abbrev pub found : Search
  found = looked 0 (searching s t w) (in_use s l)

  pub own_found : found.own ≡ seek (λ e. eqb e.terminal.0 t.0) (in_use s l)
  unfolding searching
  own_found = looked_own (searching s t w) (in_use s l) refl

  -- the waiting terminals
  pub waits_says : 64 ≤ length l → RecordSound s → (is_some found.own ≡ true) ↔ Waits s l t.0
  waits_says long r = rw own_found (entry_waits s l t.0 long r)

  -- what holds of a call that is past 8, 9 and 10
  pub record Passed : Type 0 where
    pub long : 64 ≤ length l
    pub is_sound : Sound s l
    pub below : t.0 < 64

  module _ (sound : Bool) (says : (sound ≡ true) ↔ RecordSound s) where
    abbrev verdict : Result (Unit {0}) CallRefusal
    verdict = first_refusal sound (length l) found t

    -- the first of 8, 9 and 10 that applies to a call, or none
    pub data Common (c : Call) : Type 0 where
      stops : (r : CallRefusal) → verdict ≡ Err r → First (Row s l c) (number_of r) → Common c
      goes : verdict ≡ Ok tt → Passed → Common c

    module _ (c : Call) (whose : terminal_of c ≡ t.0) where
      past_sound : (long : 64 ≤ length l) → sound ≡ true → RecordSound s → (b : Bool) → found.fits ≡ b → Common c
      unfolding first_refusal
      past_sound long e r false fits =
          stops Unsound (rw (le-ltb (length l) 64 long, e, fits))
          (record {
            applies = unsound (λ d. false≢true (sym fits ∙ (looking_decides s l t w long r).1 d));
            none_before = λ k before row. absurd (omega (arith, before, (rows_left s l row).1 long));
          })
      past_sound long e r true fits =
          let d = (looking_decides s l t w long r).0 fits in
          ⊎_elim
          (λ below.
          goes (rw (le-ltb (length l) 64 long, e, fits, le-ltb 63 t.0 (omega (arith, below))))
          (record { long = long; is_sound = d; below = below }))
          (λ above.
          stops NoTerminal (rw (le-ltb (length l) 64 long, e, fits, lt-ltb 63 t.0 (omega (arith, above))))
          (record {
            applies = terminal_above_63 (omega (arith, above, whose));
            none_before = λ k before row. absurd (omega (arith, before, (rows_left s l row).2 long d));
          }))
          (below_or_not t.0 64)

      past_length : (long : 64 ≤ length l) → (b : Bool) → sound ≡ b → Common c
      unfolding first_refusal
      past_length long false e =
          stops Unsound (rw (le-ltb (length l) 64 long, e))
          (record {
            applies = unsound (λ d. false≢true (sym e ∙ says.1 d.record_sound));
            none_before = λ k before row. absurd (omega (arith, before, (rows_left s l row).1 long));
          })
      past_length long true e = past_sound long e (says.0 e) found.fits refl

      pub common : Common c
      unfolding first_refusal
      common =
          ⊎_elim
          (λ short.
          stops ShortList (rw (lt-ltb (length l) 64 short))
          (record {
            applies = short_list short;
            none_before = λ k before row. absurd (omega (arith, before, (rows_left s l row).0));
          }))
          (λ long. past_length long sound refl)
          (below_or_not (length l) 64)
