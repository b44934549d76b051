-- Blanking the first n entries: as many blank ones as there are of them, and then those behind.
use mathlib.Core.Path.{◌≡◌, ◌∙◌, ap}
use Prim.Native.Nat.{ℕ, zero, suc, min}
use native.Mathlib.Omega.{arith}
use native.Mathlib.Nat.{zero-min, min-zero, suc-min-suc}
use mathlib.Core.List.{List, [], ◌∷◌, ◌++◌}
use lib.ListN.{length, drop, replicate, take, length-take}
use Rattle.standing.specs.declared.entries.Entry.{Entry}
use Rattle.standing.specs.Lists.{blank_entry, blanked}

-- n entries blank, and those behind them
abbrev blanks : ℕ → List Entry → List Entry
blanks n l = replicate n blank_entry ++ drop n l

-- no more entries become blank than there are
filled : (n : ℕ) (l : List Entry) → blanks (min n (length l)) l ≡ blanked n l
unfolding blanked
filled zero l = ap (λ (k : ℕ). blanks k l) (zero-min (length l))
filled (suc n) [] = ap (λ (k : ℕ). blanks k []) (min-zero (suc n))
filled (suc n) (e ∷ l) =
    ap (λ (k : ℕ). blanks k (e ∷ l)) (suc-min-suc n (length l)) ∙ ap (λ (r : List Entry). blank_entry ∷ r) (filled n l)

pub blanked_by_fill : (n end : ℕ) (l new : List Entry) → end ≡ min n (length l) → new ≡ replicate (length (take end l)) blank_entry
    → new ++ drop end l ≡ blanked n l
blanked_by_fill n end l new is fills =
    let count : length (take end l) ≡ min n (length l) = omega (arith, length-take end l, is) in
    rw (fills, count, is) (filled n l)
