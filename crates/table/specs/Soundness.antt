-- "A table is sound if .."
use Rattle.std.specs.Prelude.{◌≡◌, true, List, [], ◌≢◌, ℕ, ◌+◌, ◌*◌, ◌≤◌, ◌<◌, get_or}
use Rattle.meaning.specs.Names.{key}
use Rattle.meaning.specs.Sets.{In}
use Rattle.text.specs.Tokens.{well_formed}
use Rattle.table.specs.Cells.{operation_at, row_at, length_at, byte_at, spellings}
use Rattle.table.specs.Marks.{mark_of}
use Rattle.table.specs.declared.cells.Table.{Table}

-- the name of operation i, by its length and bytes
abbrev pub spelling : Table → ℕ → List ℕ
spelling t i = get_or (spellings t.lengths t.bytes) i []

-- a set "is not empty and names only existing positions"
pub record Fit (t : Table) (s : ℕ) : Type 0 where
  pub not_empty : s ≢ 0
  pub existing : (p : ℕ) → In p s → p < t.positions

pub record Sound (t : Table) : Type 0 where
  -- "it has 1 to 64 positions and 1 to 32 names"
  pub positions_some : 1 ≤ t.positions
  pub positions_most : t.positions ≤ 64
  pub names_some : 1 ≤ t.names
  pub names_most : t.names ≤ 32
  -- "each position's operation is below the name count, and each operation has a position"
  pub operations_exist : (p : ℕ) → p < t.positions → operation_at t p < t.names
  pub operations_placed : (o : ℕ) → o < t.names → (p : ℕ) × (p < t.positions) × (operation_at t p ≡ o)
  -- "start set and rows are not empty and name only existing positions"
  pub start_fits : Fit t t.start
  pub rows_fit : (p : ℕ) → p < t.positions → Fit t (row_at t p)
  -- "names are distinct and well formed"; a length above 16 could run past the last byte, where `spelling` would not show it
  pub names_distinct : (i j : ℕ) → i < t.names → j < t.names → key (spelling t i) ≡ key (spelling t j) → i ≡ j
  pub names_well_formed : (i : ℕ) → i < t.names → (length_at t i ≤ 16) × (well_formed (spelling t i) ≡ true)
  -- "unused cells are zero"
  pub unused_operations : (p : ℕ) → t.positions ≤ p → operation_at t p ≡ 0
  pub unused_rows : (p : ℕ) → t.positions ≤ p → row_at t p ≡ 0
  pub unused_lengths : (i : ℕ) → t.names ≤ i → length_at t i ≡ 0
  pub unused_bytes : (i k : ℕ) → k < 16 → length_at t i ≤ k → byte_at t (16 * i + k) ≡ 0
  -- "the mark agrees with its rule"
  pub mark_agrees : t.mark ≡ mark_of t
