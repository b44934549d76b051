-- No operation stands twice, place by place: none stands again behind its place.
use mathlib.Core.Path.{◌≡◌, refl, sym, ap, ◌∙◌}
use mathlib.Core.Bool.{Bool, not}
use mathlib.Core.List.{List, [], ◌∷◌}
use Prim.Native.Nat.{ℕ, ◌+◌, ◌-◌, ◌<◌}
use native.Mathlib.Numerals.{add-one}
use Rattle.std.specs.Prelude.{nat_eq}
use Rattle.std.specs.List.{list_any, list_all, enumerate_from}
use lib.ListN.{length, take, drop, get_or}
use lib.Seq.{drop-cons, drop-drop}
use borrow.Author.Rules.{part_to_end}
use Rattle.table.specs.declared.numbers.Operation.{Operation}
use Rattle.table.specs.Marks.{among, none_twice}

-- what `contains` looks for
pub stands_among : (xs : List Operation) (o : ℕ) → list_any (λ (y : Operation). nat_eq y.0 o) xs ≡ among xs o
unfolding among
stands_among [] o = refl
stands_among (x ∷ xs) o = rw (stands_among xs o) refl

-- the operation at p, and the places from p on
module _ (operations : List Operation) (p : ℕ) (used : p < length operations) where
  pub here_and_behind : drop p operations ≡ get_or operations p (record { 0 = 0 }) ∷ drop (p + 1) operations
  here_and_behind = rw (add-one p, drop-cons operations p (record { 0 = 0 }) used)

-- the operation at a place does not stand among those behind it
abbrev pub none_behind : List Operation → ℕ × Operation → Bool
none_behind os q = not (list_any (λ (y : Operation). nat_eq y.0 q.1.0) (take (length os - (q.0 + 1)) (drop (q.0 + 1) os)))

apart_from : (os xs : List Operation) (n : ℕ) → drop n os ≡ xs → list_all (none_behind os) (enumerate_from n xs) ≡ none_twice xs
unfolding none_twice
apart_from os [] n e = refl
apart_from os (x ∷ xs) n e =
    let rest : drop (n + 1) os ≡ xs = sym (drop-drop 1 n os) ∙ ap (drop 1) e in
    rw (part_to_end os (n + 1), rest, stands_among xs x.0, apart_from os xs (n + 1) rest) refl

-- none stands behind its own place exactly if none stands twice
pub all_apart : (os : List Operation) → list_all (none_behind os) (enumerate_from 0 os) ≡ none_twice os
all_apart os = apart_from os os 0 refl
