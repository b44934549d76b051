-- Bytes that are put into a lent output, and numbers as they are printed.
use Rattle.std.specs.Prelude.{◌≡◌, cond, List, [], ◌∷◌, ◌++◌, ℕ, zero, suc, ◌+◌, ◌/◌, ◌%◌, min, ltb, length, set}
use Rattle.wording.specs.declared.writing.Output.{Output}

-- the output with bytes put over its own, from place `at` on; a byte that has no place there is left out
unfoldable pub put_over : List ℕ → ℕ → List ℕ → List ℕ
put_over out at [] = out
put_over out at (b ∷ s) = put_over (set out at b) (suc at) s

-- what putting bytes does: the output after it, and the place behind the bytes, the output's end at most
pub record Puts (out : List ℕ) (at : ℕ) (s : List ℕ) (behind : ℕ) (after : List ℕ) : Type 0 where
  pub output : after ≡ put_over out at s
  pub place : behind ≡ min (at + length s) (length out)

-- the contract of what writes bytes: they are put into the output from its place on, and it still holds the same lent memory
pub record Writes (before : Output) (s : List ℕ) (after : Output) : Type 0 where
  pub puts : Puts before.bytes.now before.at s after.at after.bytes.now
  pub same_lent : after.bytes.ghost_name ≡ before.bytes.ghost_name

-- the sign of a digit
abbrev pub digit_of : ℕ → ℕ
digit_of n = 48 + n

-- the digits of n. The first number only counts down; it never runs out, for a tenth of a number is less than the number
unfoldable pub digits_in : ℕ → ℕ → List ℕ
digits_in zero n = []
digits_in (suc k) n = cond (ltb n 10) (digit_of n ∷ []) (digits_in k (n / 10) ++ digit_of (n % 10) ∷ [])

-- "Numbers are printed without leading zeros"
unfoldable pub decimal : ℕ → List ℕ
decimal n = digits_in (suc n) n
