-- `readers::stars` meets its contract. The invariant: some stars were read, and the machine has gone on over them (`StarsSoFar`).
use native.Mathlib.Omega.{arith}
use Rattle.compiler.proofs.Stars.{no_stars_yet, star_fits, star_is_some, star_more}
use Rattle.compiler.proofs.readers.stars.Goals as goal

pub loop-used-init : goal.loop-used-init
loop-used-init c = no_stars_yet _

pub overflow_add-used : goal.overflow_add-used
overflow_add-used c =
    let l = c.loop-used in
    omega (
      arith,
      star_fits _ _ l.invariant _ c.next-r.ensures,
      c.well_formed,
    )

pub loop-used-smaller : goal.loop-used-smaller
loop-used-smaller c =
    let l = c.loop-used in
    let told = c.next-r.ensures in
    omega (arith, star_fits _ _ l.invariant _ told, star_is_some _ _ l.invariant _ told c.in-Star.is)

pub loop-used-preserved : goal.loop-used-preserved
loop-used-preserved c = star_more _ _ c.loop-used.invariant _
    c.next-r.ensures c.in-Star.is
