-- The cells of a table.
use Rattle.std.specs.Prelude.{List, [], ◌∷◌, ℕ, get_or, replicate, take, drop}
use Rattle.meaning.specs.Names.{Name}
use Rattle.table.specs.declared.cells.Table.{Table}

-- "the table of zeros"
abbrev pub zeros : Table
zeros =
    record {
      positions = 0;
      names = 0;
      start = 0;
      operations = replicate 64 (record { 0 = 0 });
      rows = replicate 64 0;
      lengths = replicate 32 0;
      bytes = replicate 512 0;
      mark = 0;
    }

-- "each position's operation and row", by bits from 0; a cell that is not there reads 0
abbrev pub operation_at : Table → ℕ → ℕ
operation_at t p = (get_or t.operations p (record { 0 = 0 })).0

abbrev pub row_at : Table → ℕ → ℕ
row_at t p = get_or t.rows p 0

-- "each name and its length": 16 bytes are kept for each name
abbrev pub length_at : Table → ℕ → ℕ
length_at t i = get_or t.lengths i 0

abbrev pub byte_at : Table → ℕ → ℕ
byte_at t k = get_or t.bytes k 0

-- the names, by their lengths, from bytes that start with the first of them
unfoldable pub spellings : List ℕ → List ℕ → List Name
spellings [] bs = []
spellings (l ∷ ls) bs = take l bs ∷ spellings ls (drop 16 bs)

-- the names of a table, in order
unfoldable pub names_of : Table → List Name
names_of t = take t.names (spellings t.lengths t.bytes)
