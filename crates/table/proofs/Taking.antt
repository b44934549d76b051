-- What a list in use, and a bit as a byte, come to.
use mathlib.Core.Path.{◌≡◌, refl}
use mathlib.Core.Bool.{Bool, true, false, cond}
use mir.Val.{bool_byte}
use mathlib.Core.List.{List}
use Rattle.std.proofs.lemmas.List.{take_min}
use Prim.Native.Nat.{ℕ, min}
use lib.ListN.{length, take}

-- the first of a list of known length, as many as there are
pub take_fitting : {A : Type 0} (n k : ℕ) (xs : List A) (size : ℕ) → length xs ≡ size → k ≡ min n size → take k xs ≡ take n xs
take_fitting n k xs size all e =
    let fits : k ≡ min n (length xs) = rw all e in
    rw fits (take_min n xs)

-- a bit as a byte
pub byte_of_bit : (b : Bool) → bool_byte b ≡ cond b 1 0
byte_of_bit true = refl
byte_of_bit false = refl
