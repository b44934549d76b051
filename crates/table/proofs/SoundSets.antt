-- What the tests of a table's sets say: a set is not empty and names only existing positions; the rows in use are such sets, and
-- the others are zero. A set that names only the first n positions is a number below 2 ^ n.
use mathlib.Core.Path.{◌≡◌, refl}
use mathlib.Core.Bool.{true, not, and-eq-true_iff}
use mathlib.Core.List.{List}
use mathlib.Core.Logic.{◌↔◌, ◌≢◌}
use Prim.Native.Nat.{ℕ, ◌^◌, ◌≤◌, ◌<◌}
use borrow.Author.Tests.{eqb-true, eq-eqb, ltb-true, lt-ltb}
use lib.Dec.{eqb, ltb}
use lib.ListN.{length, get_or}
use Rattle.meaning.specs.Sets.{In}
use Rattle.meaning.proofs.SetLaws.{in_below, members_below, not_empty_says}
use Rattle.table.specs.Tests.{fit_test, rows_test}
use Rattle.table.proofs.InUse.{cells_say}

-- a set "is not empty and names only existing positions", of n
abbrev pub FitsIn : ℕ → ℕ → Type 0
FitsIn n s = (s ≢ 0) × ((p : ℕ) → In p s → p < n)

pub fit_says : (s n : ℕ) → (fit_test s n ≡ true) ↔ FitsIn n s
unfolding fit_test
fit_says s n = (
  λ t.
      let both = (and-eq-true_iff (not (eqb s 0)) (ltb s (2 ^ n))).0 t in
      ((not_empty_says s).0 both.0, λ p i. in_below p n s (ltb-true s (2 ^ n) both.1) i),
  λ f. rw ((not_empty_says s).1 f.0) (lt-ltb s (2 ^ n) (members_below n s f.1)),
)

pub rows_say : (rows : List ℕ) (n : ℕ) → length rows ≡ 64 → n ≤ 64
    → (rows_test rows n ≡ true)
    ↔ (((p : ℕ) → p < n → FitsIn n (get_or rows p 0)) × ((p : ℕ) → n ≤ p → get_or rows p 0 ≡ 0))
rows_say rows n all few =
    let cells = cells_say 0 (λ row. fit_test row n) (λ row. eqb row 0) rows n 64 all few refl in (
      λ t. (λ p h. (fit_says _ n).0 ((cells.0 t).0 p h), λ p h. eqb-true _ _ ((cells.0 t).1 p h)),
      λ says. cells.1 (λ p h. (fit_says _ n).1 (says.0 p h), λ p h. eq-eqb _ _ (says.1 p h)),
    )
