-- `transcript::put_transcript` meets its contract: the input is too long, its path is refused, or it is accepted (Wholes.antt).
use mathlib.Core.Path.{sym}
use native.Mathlib.Omega.{arith}
use lib.Seq.{length-take-le}
use borrow.Author.Rules.{part_to_end}
use Rattle.transcripts.proofs.Wholes.{end_within, table_sound, printed_accepted, printed_refused}
use Rattle.transcripts.proofs.transcript.put_transcript.Goals as goal

pub slice_bounds-compile-end : goal.slice_bounds-compile-end
slice_bounds-compile-end c = sym (length-take-le _ _ (end_within _ _ c.bytes_before-end.ensures))

pub run-requires : goal.run-requires
run-requires c =
    table_sound _ _ c.bytes_before-end.ensures _
    c.compile-compiled.ensures c.in-Ok.is

pub returns-in-Ok : goal.returns-in-Ok
returns-in-Ok c =
    printed_accepted _ _ c.bytes_before-end.ensures _
    c.compile-compiled.ensures
    (omega arith)
    c.in-Ok.is _ c.min.ensures
    (rw (part_to_end c.args.input.now c.min.result) at c.run.ensures)

pub returns-in-Err : goal.returns-in-Err
returns-in-Err c =
    printed_refused _ _ c.bytes_before-end.ensures _
    c.compile-compiled.ensures
    (omega arith) _
    c.in-Err.is c.put_refused_path.ensures
