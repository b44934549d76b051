-- What the tests of a table's operations say: those in use exist, each has a position, and the others are zero.
use mathlib.Core.Path.{◌≡◌, refl, sym, ap, ◌∙◌}
use mathlib.Core.Bool.{true}
use mathlib.Core.List.{List}
use mathlib.Core.Logic.{◌↔◌}
use Prim.Native.Nat.{ℕ, ◌≤◌, ◌<◌}
use native.Mathlib.Omega.{arith}
use borrow.Author.Tests.{eqb-true, eq-eqb, ltb-true, lt-ltb}
use lib.Dec.{eqb, ltb}
use lib.ListN.{length, take, get_or}
use lib.Seq.{length-take-le, get_or-take}
use Rattle.meaning.specs.Sets.{In}
use Rattle.table.specs.declared.numbers.Operation.{Operation}
use Rattle.table.specs.Tests.{operations_test, placed_in, each_placed_test}
use Rattle.table.proofs.InUse.{cells_say}
use Rattle.table.proofs.Placed.{in_placed, placed_in_told, first_all_in}

module _ (os : List Operation) (n names : ℕ) (all : length os ≡ 64) (few : n ≤ 64) where
  abbrev at : ℕ → ℕ
  at p = (get_or os p (record { 0 = 0 })).0

  pub operations_say : (operations_test os n names ≡ true)
      ↔ (((p : ℕ) → p < n → at p < names) × ((p : ℕ) → n ≤ p → at p ≡ 0))
  operations_say =
      let cells = cells_say (record { 0 = 0 }) (λ o. ltb o.0 names) (λ o. eqb o.0 0) os n 64 all few refl in (
        λ t. (λ p h. ltb-true _ _ ((cells.0 t).0 p h), λ p h. eqb-true _ _ ((cells.0 t).1 p h)),
        λ says. cells.1 (λ p h. lt-ltb _ _ (says.0 p h), λ p h. eq-eqb _ _ (says.1 p h)),
      )

  -- operation o has a position in use
  abbrev pub Placed : ℕ → Type 0
  Placed o = (p : ℕ) × (p < n) × (at p ≡ o)

  counted : length (take n os) ≡ n
  counted = length-take-le n os (omega arith)

  at_in_use : (p : ℕ) → p < n → (get_or (take n os) p (record { 0 = 0 })).0 ≡ at p
  at_in_use p h = ap (λ (x : Operation). x.0) (get_or-take n os p (record { 0 = 0 }) h)

  placed_says : (o : ℕ) → In o (placed_in (take n os)) ↔ Placed o
  placed_says o = (
    λ i.
        let (p, there, e) = in_placed (take n os) (record { 0 = 0 }) o i in
        let h : p < n = omega (arith, counted) in
        (p, h, sym (at_in_use p h) ∙ e),
    λ (p, h, e). placed_in_told (take n os) (record { 0 = 0 }) o p (omega (arith, counted)) (at_in_use p h ∙ e),
  )

  pub each_placed_says : (each_placed_test os n names ≡ true) ↔ ((o : ℕ) → o < names → Placed o)
  unfolding each_placed_test
  each_placed_says =
      let has = first_all_in names (placed_in (take n os)) in (
        λ t o h. (placed_says o).0 (has.0 t o h),
        λ says. has.1 (λ o h. (placed_says o).1 (says o h)),
      )
