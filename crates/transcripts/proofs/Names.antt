-- The names of a table, as far as there are any: what has no place among them is empty.
use mathlib.Core.Path.{◌≡◌}
use mathlib.Core.List.{List, []}
use Prim.Native.Nat.{ℕ, ◌≤◌, min}
use native.Mathlib.Omega.{arith}
use lib.ListN.{length, take, get_or, length-take, get_or-eq_default}
use Rattle.table.specs.Cells.{spellings}
use Rattle.table.proofs.Spellings.{length_spellings}

pub no_name : (names o : ℕ) (lengths bytes : List ℕ) → min names (length lengths) ≤ o
    → get_or (take names (spellings lengths bytes)) o [] ≡ []
no_name names o lengths bytes h =
    let long : length (take names (spellings lengths bytes)) ≡ min names (length lengths) =
    rw (← (length_spellings lengths bytes)) (length-take names (spellings lengths bytes))
    in
    get_or-eq_default (take names (spellings lengths bytes)) [] (omega (arith, h, long))
