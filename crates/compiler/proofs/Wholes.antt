-- The whole text: each way through `compile` gives what the machine's verdict on the text comes to.
use mathlib.Core.Path.{◌≡◌, refl, sym, ap, subst, ◌∙◌}
use mathlib.Core.Bool.{Bool, true, false, true≢false}
use mathlib.Core.List.{List, []}
use mathlib.Core.Logic.{inl, inr}
use Prim.Native.Nat.{ℕ, ◌+◌, ◌-◌, ◌≤◌, ◌<◌}
use native.Mathlib.Omega.{arith}
use borrow.Author.Tests.{eq-eqb, ne_eqb, lt-ltb, le-ltb}
use lib.ListN.{length, drop, length-drop, replicate}
use Rattle.meaning.specs.Names.{Name}
use Rattle.meaning.specs.Words.{Expr, names}
use Rattle.meaning.specs.Operations.{distinct, distinct_after}
use Rattle.meaning.specs.Positions.{size}
use Rattle.meaning.proofs.Numbering.{size_names}
use Rattle.text.specs.Tokens.{next_token}
use Rattle.text.specs.declared.tokens.Token.{Token}
use Rattle.text.specs.declared.tokens.Token.TheVariants.{Semicolon, Plus, Star, Open, Close, Path, End, Name as Named, TextEnd, Bad, Long}
use Rattle.text.specs.declared.tokens.Read.{Read}
use Rattle.text.proofs.Reading.{start_within_used, used_within_text}
use Rattle.grammar.specs.Symbols.{items}
use Rattle.grammar.specs.Symbols.Symbol.{path, end}
use Rattle.grammar.specs.Machine.{Left, step_to, start_step, have_step, depth_of, limit_at, names_on, stepped, limited, at_end, judge, nothing_left, sum_to}
use Rattle.grammar.specs.Machine.State.{outside, wanting, having, finished}
use Rattle.grammar.specs.Machine.Verdict.{refused}
use Rattle.table.specs.Cells.{zeros}
use Rattle.table.specs.Rules.{padded, bytes_of, operations_of}
use Rattle.table.specs.declared.cells.Table.{Table}
use Rattle.parts.specs.Parts.{completed}
use Rattle.parts.specs.Progress.{noted, Fine, part_of}
use Rattle.parts.proofs.NameParts.{nothing_fine}
use Rattle.parts.proofs.Completed.{completed_part}
use Rattle.compiler.specs.Reading.{Sum, Tail, Goes, ExpressionRead, PartRead, EitherWay, Stops, verdict, behind, made, ends_expression, is_path, is_end, is_text_end, refused_at, concluded, end_by, ended, unfit}
use Rattle.compiler.specs.Computed.{answered, compiled}
use Rattle.compiler.specs.Reading.{Seen}
use Rattle.compiler.specs.declared.replies.Compiled.{Compiled}
use Rattle.std.specs.Prelude.{Ok}
use Rattle.compiler.proofs.Tails.{slice, tail_whole, tail_drop}
use Rattle.compiler.proofs.Insides.{inside, size_inside, tail_inside, inner, within_all, behind_inside}
use Rattle.compiler.proofs.Endings.{behind_fits, behind_starts, behind_symbol, behind_stuck}
use Rattle.compiler.proofs.Verdicts.{is_path_told, is_end_told, place, stuck_at, verdict_symbol, verdict_stuck, verdict_ends}

-- only `path` starts a text
outside_stuck : (T : Token) (w : List ℕ) → is_path T ≡ false → stuck_at outside T w ≡ true
unfolding step_to start_step
outside_stuck Semicolon w h = refl
outside_stuck Plus w h = refl
outside_stuck Star w h = refl
outside_stuck Open w h = refl
outside_stuck Close w h = refl
outside_stuck Path w h = absurd (true≢false h)
outside_stuck End w h = refl
outside_stuck (Named n) w h = refl
outside_stuck TextEnd w h = refl
outside_stuck Bad w h = refl
outside_stuck Long w h = refl

-- behind the whole expression, the machine is stuck at anything but `end`
unended_stuck : (l : Left) (f : Expr) (T : Token) (w : List ℕ) → ends_expression T ≡ true → is_end T ≡ false → stuck_at (having l f
    []) T w ≡ true
unfolding step_to have_step
unended_stuck l f Semicolon w h n = absurd (true≢false (sym h))
unended_stuck l f Plus w h n = absurd (true≢false (sym h))
unended_stuck l f Star w h n = absurd (true≢false (sym h))
unended_stuck l f Open w h n = absurd (true≢false (sym h))
unended_stuck l f Close w h n = refl
unended_stuck l f Path w h n = refl
unended_stuck l f End w h n = absurd (true≢false n)
unended_stuck l f (Named m) w h n = absurd (true≢false (sym h))
unended_stuck l f TextEnd w h n = refl
unended_stuck l f Bad w h n = refl
unended_stuck l f Long w h n = refl

-- and behind `end`, at anything but the end of the text
finished_stuck : (e : Expr) (T : Token) (w : List ℕ) → is_text_end T ≡ false → stuck_at (finished e) T w ≡ true
unfolding step_to
finished_stuck e Semicolon w h = refl
finished_stuck e Plus w h = refl
finished_stuck e Star w h = refl
finished_stuck e Open w h = refl
finished_stuck e Close w h = refl
finished_stuck e Path w h = refl
finished_stuck e End w h = refl
finished_stuck e (Named n) w h = refl
finished_stuck e TextEnd w h = absurd (true≢false h)
finished_stuck e Bad w h = refl
finished_stuck e Long w h = refl

is_the_end : (T : Token) → is_end T ≡ true → T ≡ End
is_the_end Semicolon h = absurd (true≢false (sym h))
is_the_end Plus h = absurd (true≢false (sym h))
is_the_end Star h = absurd (true≢false (sym h))
is_the_end Open h = absurd (true≢false (sym h))
is_the_end Close h = absurd (true≢false (sym h))
is_the_end Path h = absurd (true≢false (sym h))
is_the_end End h = refl
is_the_end (Named n) h = absurd (true≢false (sym h))
is_the_end TextEnd h = absurd (true≢false (sym h))
is_the_end Bad h = absurd (true≢false (sym h))
is_the_end Long h = absurd (true≢false (sym h))

ends_the_text : (T : Token) → is_text_end T ≡ true → T ≡ TextEnd
ends_the_text Semicolon h = absurd (true≢false (sym h))
ends_the_text Plus h = absurd (true≢false (sym h))
ends_the_text Star h = absurd (true≢false (sym h))
ends_the_text Open h = absurd (true≢false (sym h))
ends_the_text Close h = absurd (true≢false (sym h))
ends_the_text Path h = absurd (true≢false (sym h))
ends_the_text End h = absurd (true≢false (sym h))
ends_the_text (Named n) h = absurd (true≢false (sym h))
ends_the_text TextEnd h = refl
ends_the_text Bad h = absurd (true≢false (sym h))
ends_the_text Long h = absurd (true≢false (sym h))

-- the table of zeros is what was noted before anything was read
pub nothing_noted : zeros ≡ noted [] (replicate 64 0)
unfolding noted padded bytes_of operations_of distinct distinct_after
nothing_noted = refl

pub compile_long : (text : List ℕ) → 4096 < length text → refused_at 1 4096 ≡ compiled text
unfolding compiled judge
compile_long text h = rw (lt-ltb 4096 (length text) h) refl

module _ (text : List ℕ) (short : length text ≤ 4096) where
  -- the machine starts outside, with the whole text left
  judged_from_outside : judge text ≡ verdict text (length text) outside []
  unfolding judge verdict items
  judged_from_outside =
      let none-gone : length text - length text ≡ 0 = omega arith in
      rw (le-ltb 4096 (length text) short, none-gone) refl

  answers : (v : Compiled) → v ≡ answered (verdict text (length text) outside []) → v ≡ compiled text
  unfolding compiled
  answers v e = e ∙ ap answered (sym judged_from_outside)

  pub compile_not_path : (u : Read) → u ≡ next_token text → is_path u.token ≡ false → (r : Compiled)
      → r ≡ refused_at (unfit u.token) u.start → r ≡ compiled text
  compile_not_path u told other r is =
      let T = (next_token text).token in
      let at-start : place text text ≡ (next_token text).start = omega (arith, start_within_used text, used_within_text text) in
      answers r
      (is ∙ ap (λ (v : Read). refused_at (unfit v.token) v.start) told
      ∙ ap answered
      (ap (refused (unfit T)) (sym at-start)
      ∙ sym (verdict_stuck text text (tail_whole text) outside [] (outside_stuck T _ (ap (λ (v : Read). is_path v.token) (sym
      told) ∙ other)))))

  -- the text starts with `path`, and e was read behind it
  module _ (is-path-token : (next_token text).token ≡ Path) (t : Table) (e : Seen) (is-zeros : t ≡ zeros)
      (told : ExpressionRead ends_expression (slice text (next_token text).used) 0 t e) where
    enters : verdict text (length text) outside [] ≡ verdict text (length (inside text)) (wanting nothing_left []) []
    unfolding step_to start_step depth_of limit_at names_on stepped limited
    enters =
        verdict_symbol text text (tail_whole text) Path path is-path-token (is_path_told _) outside []
        ∙ ap (λ (k : ℕ). verdict text k (wanting nothing_left []) []) (sym (size_inside text))

    -- where the token behind e stands
    place_behind : length text - (e.left - (behind text e).start) ≡ length text - e.left + (behind text e).start
    place_behind = omega (arith, (within_all text 0 t e told), behind_starts text e (within_all text 0 t e told))

    -- anything but `end` is refused
    unended : (l : Left) (f : Expr) (ns : List Name) → ends_expression (behind text e).token ≡ true → is_end (behind text e).token ≡ false
        → verdict text e.left (having l f []) ns ≡ refused (unfit (behind text e).token) (length text - e.left + (behind text e).start)
    unended l f ns stop other =
        let T = (behind text e).token in
        behind_stuck text e (within_all text 0 t e told) text (tail_whole text) (having l f []) ns (unended_stuck l f T _ stop other)
        ∙ ap (refused (unfit T)) place_behind

    -- what is left behind `end`
    last : List ℕ
    last = drop (length text - e.left + (behind text e).used) text

    size_last : length last ≡ e.left - (behind text e).used
    unfolding last
    size_last = omega (arith, length-drop (length text - e.left + (behind text e).used) text, (within_all text 0 t e told))

    tail_last : Tail text last
    unfolding last
    tail_last =
        tail_drop text text (tail_whole text) (length text - e.left + (behind text e).used)
        (omega (arith, (within_all text 0 t e told), behind_fits text e (within_all text 0 t e told)))

    place_last : place text last ≡ length text - e.left + (behind text e).used + (next_token last).start
    place_last =
        omega (
          arith,
          size_last,
          (within_all text 0 t e told),
          behind_fits text e (within_all text 0 t e told),
          start_within_used last,
          used_within_text last,
        )

    -- `end` takes the machine to its last state
    ends : (l : Left) (f : Expr) (ns : List Name) → is_end (behind text e).token ≡ true
        → verdict text e.left (having l f []) ns ≡ verdict text (length last) (finished (sum_to l f)) ns
    unfolding step_to have_step depth_of limit_at names_on stepped limited
    ends l f ns is-end-token =
        behind_symbol text e (within_all text 0 t e told) text (tail_whole text) (having l f []) ns End end
        (is_the_end (behind text e).token is-end-token) (is_end_told _)
        ∙ ap (λ (k : ℕ). verdict text k (finished (sum_to l f)) ns) (sym size_last)

    -- behind it, the text ends, and the table is that of the expression; or there is more, which is refused
    concludes : (w : Expr) (ns : List Name) → e.part ≡ part_of w [] (replicate 64 0) → Fine (names w)
        → concluded last (length text - e.left + (behind text e).used) e.part ≡ answered (verdict text (length last) (finished w) ns)
    unfolding concluded at_end
    concludes w ns part fine = by (is_text_end (next_token last).token) refl
      where
        few : size w ≤ 64
        few = omega (arith, fine.positions, size_names w)

        by : (b : Bool) → is_text_end (next_token last).token ≡ b
            → concluded last (length text - e.left + (behind text e).used) e.part ≡ answered (verdict text (length last) (finished w) ns)
        by true is =
            rw is (ap (λ (t : Table). made (Ok t)) (ap completed part ∙ completed_part w few))
            ∙ ap answered (sym (verdict_ends text last tail_last (ends_the_text (next_token last).token is) (finished w) ns))
        by false is =
            rw is (ap (refused_at (unfit (next_token last).token)) (sym place_last))
            ∙ ap answered (sym (verdict_stuck text last tail_last (finished w) ns (finished_stuck w (next_token last).token _ is)))

    -- the same for the token behind e
    ends_so : (l : Left) (f : Expr) → e.number ≡ 0 → PartRead (inside text) e ends_expression [] (replicate 64 0) (sum_to l f)
        → ended text e ≡ answered (verdict text e.left (having l f []) (names (sum_to l f)))
    unfolding ended last
    ends_so l f z read = rw (eq-eqb _ _ z) (by (is_end (behind text e).token) refl)
      where
        by : (b : Bool) → is_end (behind text e).token ≡ b
            → end_by text e (length text - e.left) (behind text e) ≡ answered (verdict text e.left (having l f []) (names (sum_to l f)))
        by true is =
            rw is (concludes (sum_to l f) (names (sum_to l f)) read.part read.fine)
            ∙ ap answered (sym (ends l f (names (sum_to l f)) is))
        by false is =
            let stop = ap (λ (v : Read). ends_expression v.token) (sym (behind_inside text 0 t e told)) ∙ read.ended in
            rw is refl ∙ ap answered (sym (unended l f (names (sum_to l f)) stop is))

    refused_there : (e.number ≡ 0 → ⊥) → ended text e ≡ refused_at e.number (length text - e.left)
    unfolding ended
    refused_there Some-number = rw (ne_eqb _ _ Some-number) refl

    pub compile_path : (r : Compiled) → r ≡ ended text e → r ≡ compiled text
    compile_path r is =
        answers r (is ∙ by ((inner text 0 t e told).outcome [] (replicate 64 0) (is-zeros ∙ nothing_noted) nothing_fine) ∙ ap
        answered (sym enters))
      where
        by : EitherWay e
            ((b : Sum) × PartRead (inside text) e ends_expression [] (replicate 64 0) (sum_to b.0 b.1)
            × (Unit {0} → Goes (inside text) e.left 0 (λ ks. wanting nothing_left ks) [] (λ ks. having b.0 b.1 ks)
            (names (sum_to b.0 b.1))))
            (Unit {0} → Stops (inside text) e 0 (λ ks. wanting nothing_left ks) [])
            → ended text e ≡ answered (verdict text (length (inside text)) (wanting nothing_left []) [])
        by (inl (z, ((l, f), read, goes))) = ends_so l f z read ∙ ap answered (sym (goes tt text [] (tail_inside text text
            (tail_whole text)) refl))
        by (inr (Some-number, stops)) = refused_there Some-number ∙ ap answered (sym (stops tt text [] (tail_inside text text
            (tail_whole text)) refl))

  -- as the program has it: u is the first token, which it reads
  pub starts_with_path : (u : Read) → u ≡ next_token text → u.token ≡ Path → (t : Table) (e : Seen) → t ≡ zeros
      → ExpressionRead ends_expression (slice text u.used) 0 t e → (r : Compiled) → r ≡ ended text e → r ≡ compiled text
  starts_with_path u told =
      subst
      (λ (v : Read).
      v.token ≡ Path → (t : Table) (e : Seen) → t ≡ zeros → ExpressionRead ends_expression (slice text v.used) 0 t e
      → (r : Compiled) → r ≡ ended text e → r ≡ compiled text) (sym told) compile_path
