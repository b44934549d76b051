-- `talk::talk` meets its contract. The invariant: what is printed so far is told of the lines that were cut off (`Told`).
use Rattle.std.specs.Slice.Iter.{split_inclusive_rest}
use Rattle.wording.specs.Lines.{lines_of}
use Rattle.transcripts.proofs.Onward.{Told}
use Rattle.transcripts.proofs.talk.talk.Given as goal

abbrev pub invariant-loop-text : goal.invariant-loop-text
invariant-loop-text l =
    Told l.initial.line.session l.initial.line.list (lines_of l.lines) l.initial.out l.line.session l.line.list (lines_of (split_inclusive_rest l.text-iterator)) l.out
