-- The ways through `read_line`, by the place of the line's first space.
use mathlib.Core.Path.{◌≡◌, sym, ap, subst, ◌∙◌}
use mathlib.Core.Bool.{true, false}
use mathlib.Core.List.{List, ◌∷◌}
use Prim.Native.Nat.{ℕ, ◌+◌, ◌-◌, ◌≤◌, ◌<◌}
use native.Mathlib.Omega.{arith}
use borrow.Author.Rules.{part_to_end}
use lib.ListN.{length, take, drop}
use Rattle.std.specs.Prelude.{Option, None}
use Rattle.meaning.specs.Names.{same}
use Rattle.meaning.proofs.NameLaws.{same_equal}
use Rattle.wording.specs.Lines.{space, before, fields_of}
use Rattle.wording.specs.Orders.{ask_word, number_in, two_read, ReadsAs}
use Rattle.wording.specs.declared.orders.Order.{Order}
use Rattle.wording.proofs.Fields.{more_fields, no_second_field, reads_two}

module _ (line : List ℕ) (k : ℕ) (told : k ≡ before space line) where
  pub one_field_only : length line ≤ k → ReadsAs line (fields_of line) None
  one_field_only h = no_second_field line (omega (arith, h, told))

  module _ (inside : k < length line) where
    fields_are : fields_of line ≡ take k line ∷ fields_of (drop (k + 1) line)
    fields_are =
        more_fields line (omega (arith, inside, told))
        ∙ ap (λ j. take j line ∷ fields_of (drop (j + 1) line)) (sym told)

    pub word_is_ask : same (take k line) ask_word ≡ true → (r : Option Order) → ReadsAs line (ask_word ∷ fields_of (drop (k + 1) line)) r
        → ReadsAs line (fields_of line) r
    word_is_ask e r so =
        subst (λ fs. ReadsAs line fs r)
        (sym (fields_are ∙ ap (λ w. w ∷ fields_of (drop (k + 1) line)) (same_equal (take k line) ask_word e))) so

    pub word_is_not_ask : same (take k line) ask_word ≡ false → (r : Option Order)
        → r ≡ two_read (take k line) (number_in (take (length line - (k + 1)) (drop (k + 1) line))) → ReadsAs line (fields_of line) r
    word_is_not_ask e r is =
        let reads = reads_two line (take k line) e (drop (k + 1) line) in
        let r-is = is ∙ ap (λ s. two_read (take k line) (number_in s)) (part_to_end line (k + 1)) in
        subst (λ fs. ReadsAs line fs r) (sym fields_are) (subst (λ o. ReadsAs line (take k line ∷ fields_of (drop (k + 1) line)) o) (sym r-is) reads)
