-- The readers' cycle: what the code leaves to be shown, each by a lemma of Expressions, Sequences, FactorPaths or Onwards.
use Rattle.std.proofs.Common.{arith, rules, ◌≡◌, refl, sym, ◌∙◌}
use borrow.Author.Rules.{part_to_end}
use lib.ListN.{length-drop}
use Rattle.std.specs.Prelude.{Err}
use Rattle.compiler.specs.Reading.{seen, read_so, part_read}
use Rattle.compiler.proofs.Onwards.{sequence_follows, factor_follows}
use Rattle.compiler.proofs.Expressions as expressions
use Rattle.compiler.proofs.Sequences as sequences
use Rattle.compiler.proofs.Arms.{begins_none}
use Rattle.compiler.proofs.FactorPaths as factors
use Rattle.compiler.proofs.Refusing.{halts_by, halted_some}
use Rattle.compiler.proofs.Starry.{starry_refused}
use Rattle.compiler.proofs.readers.+expression_factor_sequence.Goals as goal

pub expression-next_sequence-requires : goal.expression-next_sequence-requires
expression-next_sequence-requires t c =
    let given = c.loop-from.invariant c.args.t.now (expressions.expression_starts c.args.s.now c.args.depth c.args.t.now (read_so c.in_ok-e.e) c.in_ok-e.ensures) in
    given.within

pub expression-slice_bounds-sequence-count : goal.expression-slice_bounds-sequence-count
expression-slice_bounds-sequence-count t c =
    let given = c.loop-from.invariant c.args.t.now (expressions.expression_starts c.args.s.now c.args.depth c.args.t.now (read_so c.in_ok-e.e) c.in_ok-e.ensures) in
    let on = sequence_follows c.args.s.now (read_so c.loop-from.e) given.within c.in-Some.from (sym c.next_sequence.ensures ∙ c.in-Some.is) in
    on.fits

pub expression-slice_bounds-sequence-start : goal.expression-slice_bounds-sequence-start
expression-slice_bounds-sequence-start t c =
    let given = c.loop-from.invariant c.args.t.now (expressions.expression_starts c.args.s.now c.args.depth c.args.t.now (read_so c.in_ok-e.e) c.in_ok-e.ensures) in
    let on = sequence_follows c.args.s.now (read_so c.loop-from.e) given.within c.in-Some.from (sym c.next_sequence.ensures ∙ c.in-Some.is) in
    on.fits

pub expression-returns-in_err-q : goal.expression-returns-in_err-q
expression-returns-in_err-q t c =
    let given = c.loop-from.invariant c.args.t.now (expressions.expression_starts c.args.s.now c.args.depth c.args.t.now (read_so c.in_ok-e.e) c.in_ok-e.ensures) in
    let on = sequence_follows c.args.s.now (read_so c.loop-from.e) given.within c.in-Some.from (sym c.next_sequence.ensures ∙ c.in-Some.is) in
    let same : c.from_residual-in_err-q.result ≡ c.sequence-in-Some.result = search rules in
    rw same
    (expressions.sequence_is_refused c.args.s.now c.args.depth c.args.t.now (read_so c.loop-from.e) given refl c.in-Some.from on _ refl _
    c.sequence-in-Some.ensures (halted_some _ _ c.in_err-q.was))

pub expression-loop-from-preserved : goal.expression-loop-from-preserved
expression-loop-from-preserved t c =
    let given = c.loop-from.invariant c.args.t.now (expressions.expression_starts c.args.s.now c.args.depth c.args.t.now (read_so c.in_ok-e.e) c.in_ok-e.ensures) in
    let on = sequence_follows c.args.s.now (read_so c.loop-from.e) given.within c.in-Some.from (sym c.next_sequence.ensures ∙ c.in-Some.is) in
    λ t' h.
    expressions.expression_grows c.args.s.now c.args.depth t' (read_so c.loop-from.e) (c.loop-from.invariant t' h) refl c.in-Some.from on _ refl
    (read_so c.in_ok-q.q) c.in_ok-q.ensures refl _ c.or_read-e.ensures

pub expression-returns : goal.expression-returns
expression-returns t c =
    let given = c.loop-from.invariant c.args.t.now (expressions.expression_starts c.args.s.now c.args.depth c.args.t.now (read_so c.in_ok-e.e) c.in_ok-e.ensures) in
    expressions.expression_ends c.args.s.now c.args.depth c.args.t.now (read_so c.loop-from.e) given refl
    (sym c.next_sequence.ensures ∙ c.in_default.is)

pub sequence-next_factor-requires : goal.sequence-next_factor-requires
sequence-next_factor-requires t c =
    let given = c.loop-from.invariant c.args.t.now (sequences.sequence_starts c.args.s.now c.args.depth c.args.t.now (read_so c.in_ok-q.q) c.in_ok-q.ensures) in
    given.within

pub sequence-slice_bounds-factor-count : goal.sequence-slice_bounds-factor-count
sequence-slice_bounds-factor-count t c =
    let given = c.loop-from.invariant c.args.t.now (sequences.sequence_starts c.args.s.now c.args.depth c.args.t.now (read_so c.in_ok-q.q) c.in_ok-q.ensures) in
    let on = factor_follows c.args.s.now (read_so c.loop-from.q) given.within c.in-Some.from (sym c.next_factor.ensures ∙ c.in-Some.is) in
    on.fits

pub sequence-slice_bounds-factor-start : goal.sequence-slice_bounds-factor-start
sequence-slice_bounds-factor-start t c =
    let given = c.loop-from.invariant c.args.t.now (sequences.sequence_starts c.args.s.now c.args.depth c.args.t.now (read_so c.in_ok-q.q) c.in_ok-q.ensures) in
    let on = factor_follows c.args.s.now (read_so c.loop-from.q) given.within c.in-Some.from (sym c.next_factor.ensures ∙ c.in-Some.is) in
    on.fits

pub sequence-returns-in_err-f : goal.sequence-returns-in_err-f
sequence-returns-in_err-f t c =
    let given = c.loop-from.invariant c.args.t.now (sequences.sequence_starts c.args.s.now c.args.depth c.args.t.now (read_so c.in_ok-q.q) c.in_ok-q.ensures) in
    let on = factor_follows c.args.s.now (read_so c.loop-from.q) given.within c.in-Some.from (sym c.next_factor.ensures ∙ c.in-Some.is) in
    let same : c.from_residual-in_err-f.result ≡ c.factor-in-Some.result = search rules in
    rw same
    (sequences.factor_refused c.args.s.now c.args.depth c.args.t.now (read_so c.loop-from.q) given refl c.in-Some.from on _ refl _
    c.factor-in-Some.ensures (halted_some _ _ c.in_err-f.was))

pub sequence-loop-from-preserved : goal.sequence-loop-from-preserved
sequence-loop-from-preserved t c =
    let given = c.loop-from.invariant c.args.t.now (sequences.sequence_starts c.args.s.now c.args.depth c.args.t.now (read_so c.in_ok-q.q) c.in_ok-q.ensures) in
    let on = factor_follows c.args.s.now (read_so c.loop-from.q) given.within c.in-Some.from (sym c.next_factor.ensures ∙ c.in-Some.is) in
    λ t' h.
    sequences.sequence_grows c.args.s.now c.args.depth t' (read_so c.loop-from.q) (c.loop-from.invariant t' h) refl c.in-Some.from on _ refl
    (read_so c.in_ok-f.f) c.in_ok-f.ensures refl _ c.then_read-q.ensures

pub sequence-returns : goal.sequence-returns
sequence-returns t c =
    let given = c.loop-from.invariant c.args.t.now (sequences.sequence_starts c.args.s.now c.args.depth c.args.t.now (read_so c.in_ok-q.q) c.in_ok-q.ensures) in
    sequences.sequence_ends c.args.s.now c.args.depth c.args.t.now (read_so c.loop-from.q) given refl
    (sym c.next_factor.ensures ∙ c.in_default.is)

pub factor-overflow_sub-result : goal.factor-overflow_sub-result
factor-overflow_sub-result t c = factors.start_fits c.args.s.now c.next-r.result c.next-r.ensures

pub factor-overflow_sub-result-in_default : goal.factor-overflow_sub-result-in_default
factor-overflow_sub-result-in_default t c = factors.start_fits c.args.s.now c.next-r.result c.next-r.ensures

pub factor-returns-in-Name : goal.factor-returns-in-Name
factor-returns-in-Name t c = c.named.ensures c.args.depth

pub factor-returns-then-depth-ge16 : goal.factor-returns-then-depth-ge16
factor-returns-then-depth-ge16 t c =
    factors.reads_deep _ _ c.next-r.ensures _ _ _ c.in-Open.is c.if-depth-ge16.true refl

pub factor-slice_bounds-expression-count : goal.factor-slice_bounds-expression-count
factor-slice_bounds-expression-count t c = factors.used_fits c.args.s.now c.next-r.result c.next-r.ensures

pub factor-slice_bounds-expression-start : goal.factor-slice_bounds-expression-start
factor-slice_bounds-expression-start t c = factors.used_fits c.args.s.now c.next-r.result c.next-r.ensures

pub factor-expression-requires : goal.factor-expression-requires
factor-expression-requires t c = (
  rw (part_to_end, length-drop) (omega (
    arith,
    c.decreases,
    factors.used_fits c.args.s.now c.next-r.result c.next-r.ensures,
    factors.open_used c.args.s.now c.next-r.result c.next-r.ensures c.in-Open.is,
  )),
  tt,
)

pub factor-returns-in_err-e-in-Open : goal.factor-returns-in_err-e-in-Open
factor-returns-in_err-e-in-Open t c =
    let same : c.from_residual.result ≡ c.expression.result = search rules in
    rw same
    (factors.reads_inside _ _ c.next-r.ensures _ _ c.in-Open.is c.if-depth-ge16.false _ c.expression.ensures
    (halted_some _ _ c.in_err-e-in-Open.was))

pub factor-returns-in_err-left-in-Open : goal.factor-returns-in_err-left-in-Open
factor-returns-in_err-left-in-Open t c =
    let halt = c.in_err-left-in-Open.field-0.0 in
    let same : c.from_residual-in_err-left-in-Open.result ≡ Err halt = search rules in
    let closing = c.close.ensures c.in_ok-e-in-Open.e.part in
    rw same
    (factors.reads_open _ _ c.next-r.ensures _ _ _ c.in-Open.is c.if-depth-ge16.false (read_so c.in_ok-e-in-Open.e)
    c.in_ok-e-in-Open.ensures (seen (Err halt)) (rw c.in_err-left-in-Open.was at closing) (starry_refused _ _ (halted_some (Err halt) halt refl)))

pub factor-starry-requires : goal.factor-starry-requires
factor-starry-requires t c =
    factors.closed_fits c.args.s.now c.next-r.result c.next-r.ensures _ _ (read_so c.in_ok-e-in-Open.e)
    (part_read c.in_ok-left-in-Open.left c.in_ok-e-in-Open.e.part) c.in_ok-e-in-Open.ensures
    (c.in_ok-left-in-Open.ensures c.in_ok-e-in-Open.e.part)

pub factor-returns-in_ok-left-in-Open : goal.factor-returns-in_ok-left-in-Open
factor-returns-in_ok-left-in-Open t c =
    factors.reads_open _ _ c.next-r.ensures _ _ _ c.in-Open.is c.if-depth-ge16.false (read_so c.in_ok-e-in-Open.e)
    c.in_ok-e-in-Open.ensures (part_read c.in_ok-left-in-Open.left c.in_ok-e-in-Open.e.part)
    (c.in_ok-left-in-Open.ensures c.in_ok-e-in-Open.e.part) c.starry.ensures

pub factor-returns-in_default : goal.factor-returns-in_default
factor-returns-in_default t c =
    factors.reads_other _ _ c.next-r.ensures _ _ _
    (begins_none c.next-r.result.token c.in_default.not-Open c.in_default.not-Name)
    (halts_by c.fault_of.result c.next-r.result.token _ c.fault_of.ensures)
