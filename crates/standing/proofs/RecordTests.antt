-- The tests of a record decide its soundness, clause by clause.
use mathlib.Core.Path.{◌≡◌, refl, sym, ap, subst, ◌∙◌}
use mathlib.Core.Bool.{Bool, true, ◌&&◌, and-eq-true_iff}
use mathlib.Core.List.{List}
use mathlib.Core.Logic.{◌↔◌}
use Prim.Native.Nat.{ℕ, ◌<◌}
use native.Mathlib.Omega.{arith}
use borrow.Author.Tests.{ltb-true, lt-ltb, leb-true, le-leb}
use lib.Dec.{ltb, leb}
use lib.ListN.{length, take, length-take}
use lib.Seq.{get_or-take}
use Rattle.std.specs.Int.{is_power_of_two}
use Rattle.meaning.specs.Sets.{In}
use Rattle.meaning.proofs.SetLaws.{member, in_below}
use Rattle.table.specs.Cells.{operation_at}
use Rattle.table.specs.Soundness.{Fit, Sound as TableSound}
use Rattle.table.specs.Tests.{fit_test}
use Rattle.table.specs.declared.numbers.Operation.{Operation}
use Rattle.table.proofs.SoundSets.{fit_says}
use Rattle.std.specs.Prelude.{Option, Some, None}
use Rattle.standing.specs.declared.numbers.Terminal.{Terminal}
use Rattle.standing.specs.declared.records.Session.{Session}
use Rattle.standing.specs.Searching.{running_fits, operations_in, operations_by}
use Rattle.standing.specs.Soundness.{RecordSound}
use Rattle.standing.proofs.Meeting.{in_operations, operations_below}
use Rattle.standing.proofs.Single.{sole_says}
use Rattle.standing.proofs.States.{free_not_running, same_runner}

-- while running: what holds of one that runs, where P is what is asked of the set
running_says : (st : Option Terminal) (os : ℕ) (P : Type 0) → (is_power_of_two os ≡ true) ↔ P
    → (running_fits st os ≡ true) ↔ (((t : Terminal) → st ≡ Some t → t.0 < 64) × ((t : Terminal) → st ≡ Some t → P))
running_says None os P sole = (λ h. (λ t e. free_not_running t e, λ t e. free_not_running t e), λ h. refl)
running_says (Some u) os P sole = (
  λ h.
      let both = (and-eq-true_iff (ltb u.0 64) (is_power_of_two os)).0 h in
      (λ t e. subst (λ (n : ℕ). n < 64) (same_runner u t e) (ltb-true u.0 64 both.0), λ t e. sole.0 both.1),
  λ h. (and-eq-true_iff (ltb u.0 64) (is_power_of_two os)).1 (lt-ltb u.0 64 (h.0 u refl), sole.1 (h.1 u refl)),
)

module _ (s : Session) (all : length s.table.operations ≡ 64) (sound : TableSound s.table) (fit : Fit s.table s.set) where
  abbrev os : List Operation
  os = take s.table.positions s.table.operations

  places : length os ≡ s.table.positions
  places = omega (arith, length-take s.table.positions s.table.operations, all, sound.positions_most)

  -- the operation of each position of the set is one of those that meet it
  in_met : (p : ℕ) → In p s.set → In (operation_at s.table p) (operations_in os s.set)
  in_met p i =
      let there = fit.existing p i in
      let few : operation_at s.table p < 64 = omega (arith, sound.operations_exist p there, sound.names_most) in
      (in_operations os s.set (operation_at s.table p) few).1
      (p, omega (arith, places, there), i, ap (λ (o : Operation). o.0) (get_or-take s.table.positions s.table.operations p _ there))

  -- one operation's positions only: one operation meets the set
  one_operation : (is_power_of_two (operations_in os s.set) ≡ true)
      ↔ ((o : ℕ) × ((p : ℕ) → In p s.set → operation_at s.table p ≡ o))
  one_operation =
      let says = sole_says 64 (operations_in os s.set) (operations_below os s.set) in (
        λ h. let sole = says.0 h in (sole.0, λ p i. sole.2 (operation_at s.table p) (in_met p i)),
        λ h.
            let m = member s.set fit.not_empty in
            says.1 (
              h.0,
              subst (λ (o : ℕ). In o (operations_in os s.set)) (h.1 m.0 m.1) (in_met m.0 m.1),
              λ q i.
                  let placed = (in_operations os s.set q (in_below q 64 _ (operations_below os s.set) i)).0 i in
                  sym placed.3
                  ∙ ap (λ (o : Operation). o.0)
                  (get_or-take s.table.positions s.table.operations placed.0 _ (fit.existing placed.0 placed.2))
                  ∙ h.1 placed.0 placed.2,
            ),
      )

-- what the program finds of the table, the set, who runs and the count, where b says whether the table is sound
abbrev pub record_test : Session → Bool → Bool
record_test s b =
    b && fit_test s.set s.table.positions && running_fits s.running (operations_by s s.set) && leb s.waiting 64

module _ (s : Session) (all : length s.table.operations ≡ 64) (b : Bool) (table-says : (b ≡ true) ↔ TableSound s.table) where
  tested_sound : record_test s b ≡ true → RecordSound s
  tested_sound h =
      let set_fits = fit_test s.set s.table.positions in
      let running-fits = running_fits s.running (operations_by s s.set) in
      let count = (and-eq-true_iff (b && set_fits && running-fits) (leb s.waiting 64)).0 h in
      let running = (and-eq-true_iff (b && set_fits) running-fits).0 count.0 in
      let table = (and-eq-true_iff b set_fits).0 running.0 in
      let sound = table-says.0 table.0 in
      let fits = (fit_says s.set s.table.positions).0 table.1 in
      let fit : Fit s.table s.set = record { not_empty = fits.0; existing = fits.1 } in
      let runs = (running_says s.running _ _ (one_operation s all sound fit)).0 running.1 in
      record {
        table_sound = sound;
        set_fits = fit;
        running_below = runs.0;
        running_one = runs.1;
        count_most = leb-true s.waiting 64 count.1;
      }

  sound_tested : RecordSound s → record_test s b ≡ true
  sound_tested r =
      let fit = r.set_fits in
      rw (
        table-says.1 r.table_sound,
        (fit_says s.set s.table.positions).1 (fit.not_empty, fit.existing),
        (running_says s.running _ _ (one_operation s all r.table_sound fit)).1 (r.running_below, r.running_one),
      )
      (le-leb s.waiting 64 r.count_most)

  pub tests_decide : (r : Bool) → r ≡ record_test s b → (r ≡ true) ↔ RecordSound s
  tests_decide r e = rw e (tested_sound, sound_tested)
