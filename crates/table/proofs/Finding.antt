-- Searching a list of names from the front: while none of the first i is the one, the search goes on; the first that is the one
-- is where `found_in` finds it.
use mathlib.Core.Path.{◌≡◌, refl, ap, ◌∙◌}
use mathlib.Core.Bool.{true, false}
use mathlib.Core.List.{List, []}
use Prim.Native.Nat.{ℕ, ◌+◌, ◌≤◌, ◌<◌}
use native.Mathlib.Numerals.{add-one}
use native.Mathlib.Omega.{arith}
use lib.ListN.{length, take, get_or}
use lib.Seq.{take_all, take-suc, split_at, length-take-le}
use Rattle.meaning.specs.Names.{Name, key, same}
use Rattle.meaning.specs.Operations.{holds, number_of}
use Rattle.meaning.proofs.OperationLaws.{holds_append}
use Rattle.meaning.proofs.NumberLaws.{number_append}
use Rattle.std.specs.Prelude.{Some, None}
use Rattle.table.specs.Following.{found_in}

first_here : (ns : List Name) (k : Name) (i : ℕ) → i < length ns
    → holds (take i ns) k ≡ false → same (key (get_or ns i [])) k ≡ true → (holds ns k ≡ true) × (number_of ns k ≡ i)
unfolding holds number_of
first_here ns k i h none here =
    let whole = split_at ns i [] h in (
      ap (λ (ms : List Name). holds ms k) whole ∙ rw (holds_append, none, here),
      ap (λ (ms : List Name). number_of ms k) whole ∙ rw (number_append, none, here) (omega (arith, length-take-le i ns (omega arith))),
    )

module _ (ns : List Name) (k : Name) where
  -- what the search keeps: none of the first i names is the one
  abbrev pub Unfound : ℕ → Type 0
  Unfound i = (i ≤ length ns) × (holds (take i ns) k ≡ false)

  pub none_searched : Unfound 0
  unfolding holds
  none_searched = (omega arith, refl)

  module _ (i : ℕ) (u : Unfound i) where
    pub one_more_searched : i < length ns → same (key (get_or ns i [])) k ≡ false → Unfound (i + 1)
    unfolding holds
    one_more_searched h other = (omega arith, rw (add-one i, take-suc ns i [] h, holds_append, u.1, other))

    pub found_here : i < length ns → same (key (get_or ns i [])) k ≡ true → Some (record { 0 = i }) ≡ found_in ns k
    unfolding found_in
    found_here h here =
        let first = first_here ns k i h u.1 here in
        rw (first.0, first.1)

    pub found_nowhere : length ns ≤ i → None ≡ found_in ns k
    unfolding found_in
    found_nowhere h =
        let none : holds ns k ≡ false = rw (take_all i ns h) at u.1 in
        rw none
