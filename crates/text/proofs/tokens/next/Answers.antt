-- `text::tokens::next` meets its contract: each `return` is one of the three ways of `Ways.antt`, with what the calls ensure
-- put in. A span is within its list, so the parts of the slice are there and the sums fit.
use mathlib.Core.Path.{sym, ap}
use mathlib.Core.List.{List}
use Prim.Native.Nat.{ℕ, ◌-◌}
use native.Mathlib.Omega.{arith}
use borrow.Author.Rules.{part_to_end}
use lib.ListN.{length, take, drop, length-drop}
use lib.Seq.{length-take-le}
use Rattle.text.specs.Tokens.{blank_byte, name_byte}
use Rattle.text.proofs.Spans.{span_within}
use Rattle.text.proofs.Ways.{way_nothing, way_word, way_sign, first_byte, no_first_byte, no_letter}
use Rattle.text.proofs.tokens.next.Goals as goal

-- what is left of a text behind its first k bytes
abbrev left : List ℕ → ℕ → List ℕ
left s k = take (length s - k) (drop k s)

pub slice_bounds-rest-count : goal.slice_bounds-rest-count
slice_bounds-rest-count c = omega (arith, span_within blank_byte c.args.s.now)

pub slice_bounds-rest-start : goal.slice_bounds-rest-start
slice_bounds-rest-start c = omega (arith, span_within blank_byte c.args.s.now)

pub returns-in_default : goal.returns-in_default
returns-in_default c =
    let rest = left c.args.s.now c.blanks-start.result in
    way_nothing _ _ c.blanks-start.ensures rest (part_to_end c.args.s.now _) (no_first_byte rest c.in_default.ensures.value)

pub slice_bounds-word_token-end : goal.slice_bounds-word_token-end
slice_bounds-word_token-end c =
    let rest = left c.args.s.now c.blanks-start.result in
    sym (length-take-le _ rest (omega (arith, span_within name_byte rest, c.run-n.ensures)))

pub overflow_add-result : goal.overflow_add-result
overflow_add-result c =
    let k = c.blanks-start.result in
    omega (
      arith,
      span_within name_byte (left c.args.s.now k),
      span_within blank_byte c.args.s.now,
      ap length (part_to_end c.args.s.now k),
      length-drop k c.args.s.now,
    )

pub returns-in-Letter : goal.returns-in-Letter
returns-in-Letter c =
    let rest = left c.args.s.now c.blanks-start.result in
    let (some, first) = first_byte rest c.in-Some.first.now c.in-Some.ensures.value in
    way_word _ _ c.blanks-start.ensures rest c.class.result _ _
    (part_to_end c.args.s.now _)
    some
    (rw first at c.class.ensures)
    c.in-Letter.is
    c.run-n.ensures
    c.word_token.ensures

pub returns-in_default-class : goal.returns-in_default-class
returns-in_default-class c =
    let rest = left c.args.s.now c.blanks-start.result in
    let (some, first) = first_byte rest c.in-Some.first.now c.in-Some.ensures.value in
    way_sign _ _ c.blanks-start.ensures rest c.class.result _
    (part_to_end c.args.s.now _)
    some
    (rw first at c.class.ensures)
    (no_letter c.class.result c.in_default-class.not-Letter)
    c.sign_token.ensures
