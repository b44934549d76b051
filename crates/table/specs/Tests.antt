-- The clauses of soundness as tests, one for each private function of the program. Nothing here needs to be believed: the contract
-- of `is_sound` speaks of Soundness.antt alone.
use Rattle.std.specs.Prelude.{Bool, true, cond, not, ◌&&◌, List, [], ◌∷◌, ℕ, zero, suc, ◌+◌, ◌-◌, ◌*◌, ◌^◌, ◌<◌, eqb, ltb, leb, length, take, drop, get_or}
use Rattle.std.specs.Int.Bits.{bit_or, bit_and}
use Rattle.meaning.specs.Names.{Name, key}
use Rattle.text.specs.Tokens.{well_formed}
use Rattle.table.specs.declared.numbers.Operation.{Operation}
use Rattle.std.specs.Prelude.{is_none}
use Rattle.table.specs.declared.cells.Table.{Table}
use Rattle.table.specs.Cells.{spellings}
use Rattle.table.specs.Following.{found_in}
use Rattle.table.specs.Marks.{mark_of}

-- the k numbers from p on pass a test
unfoldable pub passing : (ℕ → Bool) → ℕ → ℕ → Bool
passing test p zero = true
passing test p (suc k) = test p && passing test (suc p) k

-- every number from `from` up to `to` passes
abbrev pub each : (ℕ → Bool) → ℕ → ℕ → Bool
each test from to = passing test from (to - from)

abbrev pub counts_test : ℕ → ℕ → Bool
counts_test positions names = leb 1 positions && leb positions 64 && leb 1 names && leb names 32

-- a set that is not empty and names only the first n positions
unfoldable pub fit_test : ℕ → ℕ → Bool
fit_test s n = not (eqb s 0) && ltb s (2 ^ n)

-- the row at p, in use or not; and all rows
abbrev pub row_test : ℕ → ℕ → ℕ → Bool
row_test row p n = cond (ltb p n) (fit_test row n) (eqb row 0)

abbrev pub row_at_test : List ℕ → ℕ → ℕ → Bool
row_at_test rows n p = row_test (get_or rows p 0) p n

abbrev pub rows_test : List ℕ → ℕ → Bool
rows_test rows n = each (row_at_test rows n) 0 64

-- the operation at p, in use or not; and all operations
abbrev pub operation_test : ℕ → ℕ → ℕ → ℕ → Bool
operation_test o p n names = cond (ltb p n) (ltb o names) (eqb o 0)

abbrev pub operation_at_test : List Operation → ℕ → ℕ → ℕ → Bool
operation_at_test os n names p = operation_test (get_or os p (record { 0 = 0 })).0 p n names

abbrev pub operations_test : List Operation → ℕ → ℕ → Bool
operations_test os n names = each (operation_at_test os n names) 0 64

-- operations that a set of 64 bits has room for
abbrev pub BitsSuffice : List Operation → Type 0
BitsSuffice os = (p : ℕ) → p < length os → (get_or os p (record { 0 = 0 })).0 < 64

-- the operations of a list, as a set: operation o is bit o
unfoldable pub placed_in : List Operation → ℕ
placed_in [] = 0
placed_in (x ∷ xs) = bit_or (2 ^ x.0) (placed_in xs)

-- every operation below the name count has a position among the first n
unfoldable pub each_placed_test : List Operation → ℕ → ℕ → Bool
each_placed_test os n names = eqb (bit_and (placed_in (take n os)) (2 ^ names - 1)) (2 ^ names - 1)

-- byte k is zero
abbrev pub zero_test : List ℕ → ℕ → Bool
zero_test bytes k = eqb (get_or bytes k 0) 0

abbrev pub zeros_test : List ℕ → ℕ → ℕ → Bool
zeros_test bytes from to = each (zero_test bytes) from to

-- a name that is well formed, and not among those before it
unfoldable pub fresh_test : Name → List Name → Bool
fresh_test name before = well_formed name && is_none (found_in before (key name))

-- name i, of n bytes: in use, or not
abbrev pub used_test : ℕ → ℕ → ℕ → List ℕ → List ℕ → Bool
used_test i n names lengths bytes =
    cond (ltb i names) (fresh_test (take n (drop (16 * i) bytes)) (take i (spellings lengths bytes))) (eqb n 0)

-- name i, of n bytes, with what is behind it of its 16 bytes
unfoldable pub name_test : ℕ → ℕ → ℕ → List ℕ → List ℕ → Bool
name_test i n names lengths bytes =
    leb n 16 && used_test i n names lengths bytes && zeros_test bytes (16 * i + n) (16 * i + 16)

abbrev pub name_at_test : ℕ → List ℕ → List ℕ → ℕ → Bool
name_at_test names lengths bytes i = name_test i (get_or lengths i 0) names lengths bytes

abbrev pub names_test : ℕ → List ℕ → List ℕ → Bool
names_test names lengths bytes = each (name_at_test names lengths bytes) 0 32

-- all of them, in the program's order
unfoldable pub sound_test : Table → Bool
sound_test t =
    counts_test t.positions t.names
    && operations_test t.operations t.positions t.names
    && each_placed_test t.operations t.positions t.names
    && fit_test t.start t.positions
    && rows_test t.rows t.positions
    && names_test t.names t.lengths t.bytes
    && eqb t.mark (mark_of t)
