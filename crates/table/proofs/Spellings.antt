-- The names in a table's cells: there is one for each length, and name i has its bytes from byte 16 i on. A name whose length
-- runs past the last byte ends there.
use mathlib.Core.Path.{◌≡◌, refl, ap}
use mathlib.Core.List.{List, [], ◌∷◌}
use Prim.Native.Nat.{ℕ, zero, suc, ◌+◌, ◌-◌, ◌*◌, ◌<◌, min}
use native.Mathlib.Nat.{le_of_suc-le-suc}
use native.Mathlib.Omega.{arith}
use lib.ListN.{length, take, drop, get_or, length-drop}
use lib.Seq.{drop-drop}
use Rattle.table.specs.Cells.{spellings}
use Rattle.std.proofs.lemmas.List.{take_min}

pub length_spellings : (lengths bytes : List ℕ) → length (spellings lengths bytes) ≡ length lengths
unfolding spellings
length_spellings [] bytes = refl
length_spellings (l ∷ lengths) bytes = ap suc (length_spellings lengths (drop 16 bytes))

pub spelling_at : (lengths bytes : List ℕ) (i : ℕ) → i < length lengths
    → get_or (spellings lengths bytes) i [] ≡ take (get_or lengths i 0) (drop (16 * i) bytes)
unfolding spellings
spelling_at [] bytes i h = absurd (omega arith)
spelling_at (l ∷ lengths) bytes zero h = refl
spelling_at (l ∷ lengths) bytes (suc i) h =
    let place : 16 * suc i ≡ 16 + 16 * i = omega arith in
    rw (place, ← (drop-drop (16 * i) 16 bytes)) (spelling_at lengths (drop 16 bytes) i (le_of_suc-le-suc h))

-- the bytes of name i, as the program reads them
pub spelling_read : (i to : ℕ) (lengths bytes : List ℕ) → length lengths ≡ 32 → length bytes ≡ 512 → i < 32
    → to ≡ min (16 * i + get_or lengths i 0) 512
    → take (to - 16 * i) (drop (16 * i) bytes) ≡ get_or (spellings lengths bytes) i []
spelling_read i to lengths bytes all every there e =
    let n = get_or lengths i 0 in
    let count : to - 16 * i ≡ min n (length (drop (16 * i) bytes)) = simp length-drop (omega arith) in
    rw (spelling_at lengths bytes i (omega arith), count) (take_min n (drop (16 * i) bytes))
