use Rattle.std.proofs.Common.{◌+◌, ◌-◌, ◌++◌, rules, arith, length, take, ap, sym, ◌∙◌, subst, le_refl}
use Rattle.std.proofs.lemmas.Slice.{take-put_mid_below}
use Rattle.std.specs.Io.KnownBytes.{Consumes}
use Rattle.std.proofs.KnownBytes.{Consumes-trans}
use borrow.Rule.Slice.PartMut.{put_mid}
use Rattle.inputs.proofs.Pieces.{front_more, part_of_put}
use Rattle.inputs.proofs.read_full.Goals as goal

pub loop-done-preserved : goal.loop-done-preserved
loop-done-preserved g c =
    let from = c.loop-done.done in
    let room = length c.loop-done.buffer - from in
    let within = c.loop-done.invariant.1 in
    let part = part_of_put from room c.in_ok-n.n c.loop-done.buffer c.read.new.buf within c.in_ok-n.ensures.bound.0 in
    let joined =
    front_more from (from + c.in_ok-n.n) c.loop-done.buffer (put_mid from room c.loop-done.buffer c.read.new.buf) (omega arith)
    (take-put_mid_below _ _ _ _ _ (le_refl _) within)
    in (
      search rules,
      search rules,
      subst (Consumes _ _) (ap (λ l. take from c.loop-done.buffer ++ l) (sym part) ∙ joined)
          (Consumes-trans _ _ _ _ _ c.loop-done.invariant.2 c.in_ok-n.ensures.bytes.0),
    )
