-- `standing::soundness::record_is_sound` meets its contract: the answer is what the tests say, of which one that fails decides, and
-- the tests decide soundness.
use mathlib.Core.Path.{◌≡◌, refl, ◌∙◌}
use mathlib.Core.Bool.{◌&&◌}
use Rattle.table.specs.Tests.{fit_test}
use Rattle.standing.specs.Searching.{running_fits, operations_by}
use Rattle.standing.proofs.Cases.{first_passes, first_fails}
use Rattle.standing.proofs.RecordTests.{tests_decide}
use Rattle.standing.proofs.Lengths.{operations_length}
use Rattle.standing.proofs.soundness.record_is_sound.Goals as goal
use Rattle.standing.proofs.soundness.record_is_sound.Goals.{then-is_sound, else-is_sound, then-fits, else-fits}

pub returns-then-running_fits : goal.returns-then-running_fits
returns-then-running_fits c =
    let s = c.args.session in
    let table : c.if-is_sound.value ≡ c.is_sound.result && fit_test s.set s.table.positions =
    elim c.if-is_sound.branch [
      | then-is_sound w ↦ first_passes _ w.if-is_sound.true (w.value-is ∙ w.fits.ensures)
      | else-is_sound w ↦ first_fails _ w.if-is_sound.false (w.value-is ∙ w.if-is_sound.false)
    ] in
    let running : c.if-fits.value ≡ c.if-is_sound.value && running_fits s.running (operations_by s s.set) =
    elim c.if-fits.branch [
      | then-fits w ↦ first_passes _ w.if-fits.true (w.value-is ∙ rw w.operations_in.ensures at w.running_fits.ensures)
      | else-fits w ↦ first_fails _ w.if-fits.false (w.value-is ∙ w.if-fits.false)
    ] in
    tests_decide s (operations_length s _ c.well_formed.0) c.is_sound.result c.is_sound.ensures _
    (rw (← table, ← running) (first_passes _ c.if-running_fits.true refl))

pub returns-else-running_fits : goal.returns-else-running_fits
returns-else-running_fits c =
    let s = c.args.session in
    let table : c.if-is_sound.value ≡ c.is_sound.result && fit_test s.set s.table.positions =
    elim c.if-is_sound.branch [
      | then-is_sound w ↦ first_passes _ w.if-is_sound.true (w.value-is ∙ w.fits.ensures)
      | else-is_sound w ↦ first_fails _ w.if-is_sound.false (w.value-is ∙ w.if-is_sound.false)
    ] in
    let running : c.if-fits.value ≡ c.if-is_sound.value && running_fits s.running (operations_by s s.set) =
    elim c.if-fits.branch [
      | then-fits w ↦ first_passes _ w.if-fits.true (w.value-is ∙ rw w.operations_in.ensures at w.running_fits.ensures)
      | else-fits w ↦ first_fails _ w.if-fits.false (w.value-is ∙ w.if-fits.false)
    ] in
    tests_decide s (operations_length s _ c.well_formed.0) c.is_sound.result c.is_sound.ensures _
    (rw (← table, ← running) (first_fails _ c.if-running_fits.false c.if-running_fits.false))
