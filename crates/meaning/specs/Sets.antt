-- Sets of positions as numbers. "A set of positions is a 64-bit number in which position p is bit p - 1": all definitions
-- here and beside this file speak of bits, counted from 0. The empty set is 0, bit p alone is 2 ^ p, a union is `bit_or` and
-- what two sets share is `bit_and`, the meaning of the program's own `|` and `&`.
use Rattle.std.specs.Prelude.{◌≡◌, Bool, true, cond, not, List, [], ◌∷◌, ℕ, zero, suc, ◌/◌, ◌%◌, eqb}
use Rattle.std.specs.Int.Bits.{bit_or, bit_and}

-- bit p is in s
unfoldable pub mem : ℕ → ℕ → Bool
mem zero s = eqb (s % 2) 1
mem (suc p) s = mem p (s / 2)

abbrev pub In : ℕ → ℕ → Type 0
In p s = mem p s ≡ true

-- two sets "meet": they share a position
abbrev pub meeting : ℕ → ℕ → Bool
meeting s t = not (eqb (bit_and s t) 0)

-- "the union of the rows of its positions": of the rows in order, those whose bit is in s
unfoldable pub union_of : List ℕ → ℕ → ℕ
union_of [] s = 0
union_of (r ∷ rs) s = bit_or (cond (mem 0 s) r 0) (union_of rs (s / 2))
