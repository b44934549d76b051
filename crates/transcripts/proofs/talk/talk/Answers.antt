-- `talk::talk` meets its contract. The invariant: what is printed so far is told of the lines that were cut off (`Told`).
use Rattle.std.proofs.Common.{rules, refl, ◌∙◌, eqb}
use Rattle.std.specs.Slice.Iter.{split_inclusive_rest}
use Rattle.std.proofs.lemmas.List.Sorted.{answers_always}
use borrow.Author.Tests.{tests}
use Rattle.wording.specs.Lines.{lf}
use Rattle.wording.proofs.Putting.{writes_nothing}
use Rattle.transcripts.proofs.Cuts.{line_cut, piece_without_end, no_lines_left}
use Rattle.transcripts.proofs.Onward.{none_told, all_told, one_more_told}
use Rattle.transcripts.proofs.talk.talk.Goals as goal

pub loop-text-init : goal.loop-text-init
loop-text-init c =
    let rest = c.split_inclusive-text-items.ensures.rest in
    rw (c.into_iter-text-iterator.ensures.into_iter_gives, rest) (none_told _ _ _ _ _ (writes_nothing _ c.requires))

pub loop-text-preserved : goal.loop-text-preserved
loop-text-preserved c =
    let cut = c.in-Some.ensures.steps in
    let found = cut.1.2 (λ y. eqb y lf) (answers_always _ _ _ (λ f a r g h. search (rules, tests))) in
    let lines = line_cut _ _ _ _ _ cut.0 cut.1.1 found.1 cut.2 refl in
    let text = c.without_end.ensures ∙ piece_without_end _ _ _ _ cut.0 cut.1.1 found.1 in
    one_more_told _ _ (rw (lines, ← text) at c.loop-text.invariant) c.take_turn.ensures

pub returns : goal.returns
returns c =
    let none_left = no_lines_left (split_inclusive_rest c.loop-text.text-iterator) c.in-None.ensures.steps.0 in
    all_told (rw none_left at c.loop-text.invariant)
