-- A test of every cell of an array, one way where the cell is in use and another where it is not, says both of the list: of the
-- first n elements the first, and of all behind them the second, since what is not there reads as unused.
use mathlib.Core.Path.{◌≡◌}
use mathlib.Core.Bool.{Bool, true, cond}
use mathlib.Core.List.{List}
use mathlib.Core.Logic.{◌↔◌, ⊎_elim}
use Prim.Native.Nat.{ℕ, ◌≤◌, ◌<◌}
use native.Mathlib.Omega.{arith}
use borrow.Author.Tests.{lt-ltb, le-ltb}
use lib.Dec.{ltb}
use lib.ListN.{length, get_or, get_or-eq_default}
use Rattle.meaning.proofs.SetLaws.{below_or_not}
use Rattle.table.specs.Tests.{each}
use Rattle.table.proofs.Passing.{each_says, each_said}

module _ {A : Type 0} (d : A) (used unused : A → Bool) (xs : List A) (n size : ℕ) where
  abbrev cell_test : ℕ → Bool
  cell_test p = cond (ltb p n) (used (get_or xs p d)) (unused (get_or xs p d))

  pub cells_say : length xs ≡ size → n ≤ size → unused d ≡ true
      → (each cell_test 0 size ≡ true)
      ↔ (((p : ℕ) → p < n → used (get_or xs p d) ≡ true) × ((p : ℕ) → n ≤ p → unused (get_or xs p d) ≡ true))
  cells_say all few absent = (
    λ t. (
      λ p h. rw (lt-ltb p n h) at (each_says cell_test 0 size p t (omega arith) (omega arith)),
      λ p h.
          ⊎_elim
          (λ l. rw (le-ltb p n h) at (each_says cell_test 0 size p t (omega arith) l))
          (λ l. rw (get_or-eq_default xs d {n = p} (omega arith)) absent)
          (below_or_not p size),
    ),
    λ says. each_said cell_test 0 size (λ p l h.
        ⊎_elim
        (λ length_in_use. rw (lt-ltb p n length_in_use) (says.0 p length_in_use))
        (λ not-in-use. rw (le-ltb p n not-in-use) (says.1 p not-in-use))
        (below_or_not p n)),
  )
