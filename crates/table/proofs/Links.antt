-- One turn of a loop that links row after row: the rows passed are done, and `linked` of the others, at what is left of the set,
-- is what is to come.
use mathlib.Core.Path.{◌≡◌, ◌∙◌}
use mathlib.Core.Bool.{cond}
use mathlib.Core.List.{List, ◌++◌, append_assoc, append-nil}
use Prim.Native.Nat.{ℕ, suc, ◌+◌, ◌<◌, ◌≤◌, ◌/◌}
use native.Mathlib.Nat.{lt-suc_self}
use native.Mathlib.Numerals.{add-one}
use native.Mathlib.Omega.{arith}
use lib.Bits.{bit_or}
use lib.ListN.{length, take, drop, set, get_or, length-set, drop_of_length-le}
use lib.Seq.{take_all, drop-cons, take-suc-set, drop-set-lt}
use Rattle.meaning.specs.Sets.{mem}
use Rattle.table.specs.Linking.{linked}

-- what the loop keeps: `whole` is what it is to make, `out` are the rows so far, `rest` is left of the set, p rows are passed
abbrev pub Linking : List ℕ → ℕ → List ℕ → ℕ → ℕ → Type 0
Linking whole first out rest p =
    (p ≤ length out) × (whole ≡ take p out ++ linked (drop p out) rest first)

-- row p is done: v is what `linked` puts there
row_linked : (out : List ℕ) (p rest first v : ℕ) → p < length out
    → v ≡ cond (mem 0 rest) (bit_or (get_or out p 0) first) (get_or out p 0)
    → take p out ++ linked (drop p out) rest first
    ≡ take (p + 1) (set out p v) ++ linked (drop (p + 1) (set out p v)) (rest / 2) first
unfolding linked
row_linked out p rest first v h e =
    rw (
      add-one,
      take-suc-set out p v h,
      drop-set-lt (suc p) out p v (lt-suc_self p),
      drop-cons out p 0 h,
      append_assoc,
      e,
    )

pub turn_linked : (whole out out' : List ℕ) (p rest first v : ℕ) → p < length out → Linking whole first out rest p
    → v ≡ cond (mem 0 rest) (bit_or (get_or out p 0) first) (get_or out p 0) → out' ≡ set out p v
    → Linking whole first out' (rest / 2) (p + 1)
turn_linked whole out out' p rest first v h i e s =
    rw s (simp length-set (omega arith), i.1 ∙ row_linked out p rest first v h e)

pub all_linked : (whole out : List ℕ) (p rest first : ℕ) → length out ≤ p → Linking whole first out rest p → out ≡ whole
unfolding linked
all_linked whole out p rest first past i = rw (i.1, take_all p out past, drop_of_length-le out past, append-nil)
