-- Small sets as numbers: a bit that a shift shows, the set of one number, and the operations of a set of positions.
use mathlib.Core.Path.{◌≡◌, refl}
use mathlib.Core.List.{List, [], ◌∷◌, map}
use Prim.Native.Nat.{ℕ, zero, suc, ◌^◌, ◌*◌, ◌/◌, ◌%◌, ◌<◌, ◌≤◌}
use native.Mathlib.Nat.{one-mul, mod-eq_of_lt, not-suc-le-zero, le_of_suc-le-suc, div-one, pow-succ', pow-zero, div-div-eq-div-mul}
use native.Mathlib.Omega.{arith}
use lib.Dec.{eqb}
use lib.ListN.{length, get_or, length-map}
use lib.Pow.{pow-lt}
use borrow.Author.Tests.{lt-ltb, le-ltb}
use Rattle.meaning.specs.Sets.{mem}
use Rattle.table.specs.declared.numbers.Operation.{Operation}
use Rattle.standing.specs.Searching.{bit_of}

pub mem_shifted : (n s : ℕ) → eqb (s / 2 ^ n % 2) 1 ≡ mem n s
unfolding mem
mem_shifted zero s = rw (pow-zero 2, div-one s) refl
mem_shifted (suc n) s = rw (pow-succ' 2 n, ← div-div-eq-div-mul s 2 (2 ^ n)) (mem_shifted n (s / 2))

-- the set of one number, as the program shifts it
pub bit_shifted : (n : ℕ) → n ≤ 63 → 1 * 2 ^ n % 18446744073709551616 ≡ bit_of n
unfolding bit_of
bit_shifted n h = rw (one-mul (2 ^ n), lt-ltb n 64 (omega arith)) (mod-eq_of_lt (pow-lt {j = 64} (omega arith)))

pub bit_beyond : (n : ℕ) → 63 < n → bit_of n ≡ 0
unfolding bit_of
bit_beyond n h = rw (le-ltb n 64 (omega arith)) refl

-- in a list's own places, what is read of a mapped list does not depend on what stands for the others
pub mapped_at : {A : Type 0} (f : A → ℕ) (xs : List A) (z : A) (p : ℕ) → p < length xs → get_or (map f xs) p 0 ≡ f (get_or xs p z)
mapped_at f [] z p h = absurd (not-suc-le-zero h)
mapped_at f (x ∷ xs) z zero h = refl
mapped_at f (x ∷ xs) z (suc p) h = mapped_at f xs z p (le_of_suc-le-suc h)

-- the bits of some operations, of which a set of positions picks some
abbrev pub bits_of : List Operation → List ℕ
bits_of used = map (λ o. bit_of o.0) used

pub length_bits : (used : List Operation) → length (bits_of used) ≡ length used
length_bits used = length-map used (λ o. bit_of o.0)

pub bit_at : (used : List Operation) (p : ℕ) → p < length used → get_or (bits_of used) p 0 ≡ bit_of (get_or used p (record { 0 = 0 })).0
bit_at used p h = mapped_at (λ o. bit_of o.0) used (record { 0 = 0 }) p h
