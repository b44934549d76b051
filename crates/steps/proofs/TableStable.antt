-- A table that is not unsound is sound: of an opening that no row refuses only the former is given. Each clause compares
-- numbers, which decides it; the one that asks for a position is decided by looking through the positions.
use mathlib.Core.Path.{◌≡◌, sym, ap, ◌∙◌}
use mathlib.Core.Bool.{Bool-discrete}
use mathlib.Core.HLevel.{Stable, dec→stable}
use mathlib.Core.Logic.{◌≢◌}
use Prim.Native.Nat.{ℕ, zero, suc, ◌<◌, ◌≤◌}
use native.Mathlib.Decide.{ℕ_discrete, dec_le}
use native.Mathlib.Nat.{not-suc-le-zero}
use native.Mathlib.Omega.{arith}
use Rattle.table.specs.Cells.{operation_at, row_at}
use Rattle.table.specs.Soundness.{Fit, Sound}
use Rattle.table.specs.declared.cells.Table.{Table}

-- some number below n at which f is o
abbrev SomeBelow : (ℕ → ℕ) → ℕ → ℕ → Type 0
SomeBelow f o n = (p : ℕ) × (p < n) × (f p ≡ o)

look : (f : ℕ → ℕ) (o n : ℕ) → Dec (SomeBelow f o n)
look f o zero = no (λ h. not-suc-le-zero h.1)
look f o (suc n) = go (ℕ_discrete (f n) o) (look f o n)
  where
    go : Dec (f n ≡ o) → Dec (SomeBelow f o n) → Dec (SomeBelow f o (suc n))
    go (yes e) before = yes (n, omega arith, e)
    go (no other) (yes h) = yes (h.0, omega (arith, h.1), h.2)
    go (no other) (no before) = no (λ h.
        let not_last : h.0 ≢ n = λ q. other (ap f (sym q) ∙ h.2) in
        before (h.0, omega (arith, h.1), h.2))

at_most : (m n : ℕ) → Stable (m ≤ n)
at_most m n = dec→stable (dec_le m n)

equal : (m n : ℕ) → Stable (m ≡ n)
equal m n = dec→stable (ℕ_discrete m n)

fit_stable : (t : Table) (s : ℕ) → Stable (Fit t s)
fit_stable t s h =
    record {
      not_empty = λ e. h (λ fit. fit.not_empty e);
      existing = λ p i. at_most _ _ (λ k. h (λ fit. k (fit.existing p i)));
    }

module _ (t : Table) (not-unsound : ¬ ¬ Sound t) where
  clause : {A : Type 0} → Stable A → (Sound t → A) → A
  clause stable of = stable (λ k. not-unsound (λ sound. k (of sound)))

  pub table_stable : Sound t
  table_stable =
      record {
        positions_some = clause (at_most _ _) (λ sound. sound.positions_some);
        positions_most = clause (at_most _ _) (λ sound. sound.positions_most);
        names_some = clause (at_most _ _) (λ sound. sound.names_some);
        names_most = clause (at_most _ _) (λ sound. sound.names_most);
        operations_exist = λ p l. clause (at_most _ _) (λ sound. sound.operations_exist p l);
        operations_placed =
            λ o l. clause (dec→stable (look (operation_at t) o t.positions)) (λ sound. sound.operations_placed o l);
        start_fits = clause (fit_stable t t.start) (λ sound. sound.start_fits);
        rows_fit = λ p l. clause (fit_stable t (row_at t p)) (λ sound. sound.rows_fit p l);
        names_distinct = λ i j k l e. clause (equal i j) (λ sound. sound.names_distinct i j k l e);
        names_well_formed = λ i l. (
          clause (at_most _ _) (λ sound. (sound.names_well_formed i l).0),
          clause (dec→stable (Bool-discrete _ _)) (λ sound. (sound.names_well_formed i l).1),
        );
        unused_operations = λ p l. clause (equal _ _) (λ sound. sound.unused_operations p l);
        unused_rows = λ p l. clause (equal _ _) (λ sound. sound.unused_rows p l);
        unused_lengths = λ i l. clause (equal _ _) (λ sound. sound.unused_lengths i l);
        unused_bytes = λ i k l m. clause (equal _ _) (λ sound. sound.unused_bytes i k l m);
        mark_agrees = clause (equal _ _) (λ sound. sound.mark_agrees);
      }
