-- What is left of a text, and what is left of that: every slice that a reader is handed is a tail of the whole text.
use mathlib.Core.Path.{◌≡◌, refl, sym, ap, ◌∙◌}
use mathlib.Core.List.{List}
use Prim.Native.Nat.{ℕ, ◌+◌, ◌-◌, ◌≤◌}
use native.Mathlib.Omega.{arith}
use borrow.Author.Rules.{part_to_end}
use lib.ListN.{length, take, drop, length-drop}
use lib.Seq.{drop-drop}
use Rattle.compiler.specs.Reading.{rest, Tail}

-- what the slice `&s[k..]` holds
abbrev pub slice : List ℕ → ℕ → List ℕ
slice s k = take (length s - k) (drop k s)

pub slice_drops : (s : List ℕ) (k : ℕ) → slice s k ≡ drop k s
slice_drops s k = part_to_end s k

pub slice_size : (s : List ℕ) (k : ℕ) → length (slice s k) ≡ length s - k
slice_size s k = ap length (slice_drops s k) ∙ length-drop k s

pub tail_whole : (text : List ℕ) → Tail text text
tail_whole text =
    let none : length text - length text ≡ 0 = omega arith in
    record { within = omega arith; same = rw none refl }

module _ (text s : List ℕ) (h : Tail text s) where
  -- behind j bytes of s
  pub tail_behind : (j : ℕ) → j ≤ length s → drop j s ≡ rest text (length s - j)
  tail_behind j fits =
      let far : length text - length s + j ≡ length text - (length s - j) = omega (arith, h.within) in
      ap (drop j) h.same ∙ drop-drop j (length text - length s) text ∙ ap (λ (n : ℕ). drop n text) far

  pub tail_drop : (j : ℕ) → j ≤ length s → Tail text (drop j s)
  tail_drop j fits =
      let far = length-drop j s in
      record { within = omega (arith, h.within); same = tail_behind j fits ∙ ap (rest text) (sym far) }
