-- One turn of a loop that unites row after row: the union is what the rows passed gave, joined with the union of the others.
use mathlib.Core.Path.{◌≡◌, sym, ◌∙◌}
use mathlib.Core.Bool.{cond}
use mathlib.Core.List.{List}
use Prim.Native.Nat.{ℕ, ◌+◌, ◌<◌, ◌≤◌, ◌/◌}
use native.Mathlib.Numerals.{add-one}
use native.Mathlib.Omega.{arith}
use lib.Bits.{bit_or, or_zero_r}
use lib.ListN.{length, drop, get_or, drop_of_length-le}
use lib.Seq.{drop-cons}
use Rattle.meaning.specs.Sets.{mem, union_of}
use Rattle.meaning.proofs.SetLaws.{union_assoc}

-- what the loop keeps: `whole` is the union of all rows, `out` that of the p rows passed, `rest` is left of the set
abbrev pub Uniting : List ℕ → ℕ → ℕ → ℕ → ℕ → Type 0
Uniting rows whole out rest p = (p ≤ length rows) × (whole ≡ bit_or out (union_of (drop p rows) rest))

module _ (rows : List ℕ) (whole out rest p : ℕ) (i : Uniting rows whole out rest p) where
  pub turn_united : (out' : ℕ) → p < length rows → out' ≡ bit_or out (cond (mem 0 rest) (get_or rows p 0) 0)
      → Uniting rows whole out' (rest / 2) (p + 1)
  unfolding union_of
  turn_united out' h e =
      let row = cond (mem 0 rest) (get_or rows p 0) 0 in
      (omega arith, i.1 ∙ rw (e, add-one p, drop-cons rows p 0 h) (sym (union_assoc out row _)))

  pub all_united : length rows ≤ p → out ≡ whole
  unfolding union_of
  all_united h = rw (i.1, drop_of_length-le rows h, or_zero_r out)
