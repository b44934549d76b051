-- Lists padded to a fixed number of cells: how long they are, what they read, where the next element goes. A padded list is the list
-- and then copies of the padding, so each law is one of an append at the list's own length.
use mathlib.Core.Path.{◌≡◌, refl}
use mathlib.Core.List.{List, [], ◌∷◌, ◌++◌}
use Prim.Native.Nat.{ℕ, zero, suc, ◌-◌, ◌≤◌, ◌<◌}
use native.Mathlib.Omega.{arith}
use lib.ListN.{length, get_or, take, set, replicate, length-append, length-replicate}
use lib.Seq.{take-append_seam, set-append_seam, append_snoc}
use Rattle.table.specs.Rules.{padded}

module _ {A : Type 0} where
  -- copies of z read z, inside and outside
  copies_at : (m : ℕ) (z : A) (i : ℕ) → get_or (replicate m z) i z ≡ z
  copies_at zero z i = refl
  copies_at (suc m) z zero = refl
  copies_at (suc m) z (suc i) = copies_at m z i

  -- so behind a list they read as nothing does
  copies_behind_at : (xs : List A) (m : ℕ) (z : A) (i : ℕ) → get_or (xs ++ replicate m z) i z ≡ get_or xs i z
  copies_behind_at [] m z i = copies_at m z i
  copies_behind_at (x ∷ xs) m z zero = refl
  copies_behind_at (x ∷ xs) m z (suc i) = copies_behind_at xs m z i

  pub length_padded : (n : ℕ) (z : A) (xs : List A) → length xs ≤ n → length (padded n z xs) ≡ n
  unfolding padded
  length_padded n z xs h =
      omega (arith, length-append xs (replicate (n - length xs) z), length-replicate (n - length xs) z)

  pub padded_at : (n : ℕ) (z : A) (xs : List A) (i : ℕ) → get_or (padded n z xs) i z ≡ get_or xs i z
  unfolding padded
  padded_at n z xs i = copies_behind_at xs (n - length xs) z i

  pub take_padded : (n : ℕ) (z : A) (xs : List A) → take (length xs) (padded n z xs) ≡ xs
  unfolding padded
  take_padded n z xs = take-append_seam xs (replicate (n - length xs) z)

  -- the first cell of the padding holds the next element
  pub padded_snoc : (n : ℕ) (z v : A) (xs : List A) → length xs < n → set (padded n z xs) (length xs) v ≡ padded n z (xs ++ v ∷ [])
  unfolding padded
  padded_snoc n z v xs h =
      let more : n - length xs ≡ suc (n - suc (length xs)) = omega arith in
      let fewer : n - length (xs ++ v ∷ []) ≡ n - suc (length xs) = omega (arith, length-append xs (v ∷ [])) in
      rw (more, fewer, append_snoc, set-append_seam)
