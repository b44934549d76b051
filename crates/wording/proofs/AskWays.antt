-- The ways through `read_ask`, in the places of the line that it computes: each is a law of the fields.
use mathlib.Core.Path.{◌≡◌, sym, ap, subst, ◌∙◌}
use mathlib.Core.List.{List, ◌∷◌}
use Prim.Native.Nat.{ℕ, ◌+◌, ◌-◌, ◌≤◌, ◌<◌}
use native.Mathlib.Omega.{arith}
use borrow.Author.Rules.{part_to_end}
use borrow.Author.Tests.{ltb-true, ltb-false}
use mathlib.Core.Bool.{Bool, true, false}
use lib.Dec.{eqb, ltb}
use Rattle.std.specs.List.{list_any}
use Rattle.std.specs.Prelude.{Option, None}
use lib.ListN.{length, take, drop, length-drop, drop_of_length-le}
use lib.Seq.{drop-drop}
use Rattle.text.proofs.Spans.{span_within}
use Rattle.wording.specs.Lines.{space, before, fields_of}
use Rattle.wording.specs.Orders.{ask_word, number_in, three_read, ReadsAs}
use Rattle.wording.specs.declared.orders.Order.{Order}
use Rattle.wording.proofs.Firsts.{has_first}
use Rattle.wording.proofs.Fields.{ask_without_name, ask_for_nothing, ask_for_more, asks}

module _ (line : List ℕ) (from k : ℕ) (fits : from ≤ length line)
    (told : k ≡ before space (take (length line - from) (drop from line))) where
  -- the fields behind the word `ask`
  abbrev rest : List ℕ
  rest = drop from line

  long : length rest ≡ length line - from
  long = length-drop from line

  k_is : k ≡ before space rest
  k_is = told ∙ ap (λ s. before space s) (part_to_end line from)

  pub end_within : from + k ≤ length line
  end_within =
      let most : before space rest ≤ length rest = span_within _ rest in
      omega (arith, fits, k_is, long, most)

  pub no_name : length line ≤ from + k → ReadsAs line (ask_word ∷ fields_of rest) None
  no_name h = ask_without_name line rest (omega (arith, h, k_is, long))

  module _ (inside : from + k < length line) where
    first_inside : before space rest < length rest
    first_inside = omega (arith, inside, k_is, long)

    abbrev at : ℕ
    at = from + k + 1

    -- the bytes behind the second space
    name_is : drop at line ≡ drop (before space rest + 1) rest
    name_is =
        let place : at ≡ from + (before space rest + 1) = omega (arith, k_is) in
        ap (λ j. drop j line) place ∙ sym (drop-drop (before space rest + 1) from line)

    name_long : length (drop (before space rest + 1) rest) ≡ length line - at
    name_long = ap length (sym name_is) ∙ length-drop at line

    pub empty_name : length line ≤ at → ReadsAs line (ask_word ∷ fields_of rest) None
    empty_name h = ask_for_nothing line rest first_inside (sym name_is ∙ drop_of_length-le line h)

    -- behind the name's start: whether there is a space
    abbrev found : Bool
    found = list_any (λ b. eqb b space) (take (length line - at) (drop at line))

    found_is : found ≡ ltb (before space (drop (before space rest + 1) rest)) (length (drop (before space rest + 1) rest))
    found_is = ap (λ s. list_any (λ b. eqb b space) s) (part_to_end line at ∙ name_is) ∙ has_first space (drop (before space rest + 1) rest)

    pub space_in_name : found ≡ true → ReadsAs line (ask_word ∷ fields_of rest) None
    space_in_name h = ask_for_more line rest first_inside (ltb-true _ _ (sym found_is ∙ h))

    pub whole_ask : at < length line → found ≡ false → (r : Option Order)
        → r ≡ three_read (number_in (take (from + k - from) rest)) at → ReadsAs line (ask_word ∷ fields_of rest) r
    whole_ask some h r e =
        let digits : from + k - from ≡ before space rest = omega (arith, k_is) in
        subst (λ o. ReadsAs line (ask_word ∷ fields_of rest) o)
        (sym (e ∙ ap (λ j. three_read (number_in (take j rest)) at) digits))
        (asks line rest first_inside at (ltb-false _ _ (sym found_is ∙ h))
        (λ none. let short = ap length none in absurd (omega (arith, short, name_long, some))) name_is (omega (arith, some)))
