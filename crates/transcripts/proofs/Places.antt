-- The place that is returned with a refused text stands in the text, and its number is one of the table's.
use mathlib.Core.Path.{subst}
use mathlib.Core.List.{List, [], ◌∷◌, ◌++◌}
use Prim.Native.Nat.{ℕ, zero, suc, ◌+◌, ◌≤◌}
use native.Mathlib.Omega.{arith}
use lib.ListN.{length, drop, length-drop}
use Rattle.text.specs.Tokens.{next_token}
use Rattle.text.specs.declared.tokens.Token.{Token}
use Rattle.text.specs.declared.tokens.Token.TheVariants.{Semicolon, Plus, Star, Open, Close, Path, End, Name, TextEnd, Bad, Long}
use Rattle.text.proofs.Reading.{start_within_used, used_within_text}
use Rattle.grammar.specs.Symbols.{Symbol, Lexeme, Item, items_by, items_within, items_from, items}
use Rattle.grammar.specs.Refusals.{Row, Refused}
use Rattle.grammar.specs.Refusals.Row.{bad_byte, long_name, no_text, too_deep, one_position_too_many, one_name_too_many}
use Rattle.grammar.specs.Refusals.Refused.{too_long, at_a_token, stops_short}

-- no item stands behind place n
unfoldable Within : ℕ → List Item → Type 0
Within n [] = Unit {0}
Within n (x ∷ xs) = (x.place ≤ n) × Within n xs

by_within : (n : ℕ) (t : Token) (k : ℕ) (s : List ℕ) (rest : List Item) → k ≤ n → Within n rest → Within n (items_by t k s rest)
unfolding Within items_by
by_within n Semicolon k s rest h w = (h, w)
by_within n Plus k s rest h w = (h, w)
by_within n Star k s rest h w = (h, w)
by_within n Open k s rest h w = (h, w)
by_within n Close k s rest h w = (h, w)
by_within n Path k s rest h w = (h, w)
by_within n End k s rest h w = (h, w)
by_within n (Name m) k s rest h w = (h, w)
by_within n TextEnd k s rest h w = tt
by_within n Bad k s rest h w = (h, w)
by_within n Long k s rest h w = (h, w)

items_within_told : (n f k : ℕ) (s : List ℕ) → k + length s ≤ n → Within n (items_within f k s)
unfolding Within items_within
items_within_told n zero k s h = tt
items_within_told n (suc f) k s h =
    let starts = start_within_used s in
    let ends = used_within_text s in
    let left = length-drop (next_token s).used s in
    by_within n (next_token s).token (k + (next_token s).start) _ _ (omega (arith, h, starts, ends))
    (items_within_told n f (k + (next_token s).used) (drop (next_token s).used s) (omega (arith, h, ends, left)))

one_within : (n : ℕ) (before after : List Item) (x : Item) → Within n (before ++ x ∷ after) → x.place ≤ n
unfolding Within
one_within n [] after x w = w.0
one_within n (y ∷ before) after x w = one_within n before after x w.1

row_most : {u : List Symbol} {x : Lexeme} {n : ℕ} → Row u x n → n ≤ 7
row_most (bad_byte e) = omega arith
row_most (long_name e) = omega arith
row_most (no_text t e none) = omega arith
row_most (too_deep e deep) = omega arith
row_most (one_position_too_many n e full) = omega arith
row_most (one_name_too_many n e new full) = omega arith

pub refused_small : (text : List ℕ) (n k : ℕ) → Refused text n k → (n ≤ 7) × (k ≤ 4096)
unfolding items_from items
refused_small text n k (too_long h) = (omega arith, omega arith)
refused_small text n k (at_a_token before after x so_far m short is read ok row least) =
    let all : Within (length text) (items text) = items_within_told (length text) (suc (length text)) 0 text (omega arith) in
    let here = one_within (length text) before after x (subst (Within (length text)) is all) in
    (row_most row, omega (arith, here, short))
refused_small text n k (stops_short so_far short read ok none) = (omega arith, short)
