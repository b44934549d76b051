-- A factor that is an expression in parentheses: the machine steps inside, the expression's reader takes it to where the `)` has to stand,
-- and the `)` takes it out again.
use mathlib.Core.Path.{◌≡◌, refl, sym, ap, subst, ◌∙◌}
use mathlib.Core.Bool.{Bool, true, false, cond, true≢false}
use mathlib.Core.List.{List, ◌∷◌, ◌++◌}
use mathlib.Core.Logic.{inl, inr}
use Prim.Native.Nat.{ℕ, ◌+◌, ◌-◌, ◌≤◌, ◌<◌}
use native.Mathlib.Omega.{arith}
use borrow.Author.Tests.{eq-eqb, ne_eqb, lt-leb}
use lib.Dec.{eqb, leb}
use lib.ListN.{length}
use Rattle.meaning.specs.Names.{Name}
use Rattle.meaning.specs.Words.{Expr, names}
use Rattle.text.specs.Tokens.{next_token}
use Rattle.text.specs.declared.tokens.Token.{Token}
use Rattle.text.specs.declared.tokens.Token.TheVariants.{Semicolon, Plus, Star, Open, Close, Path, End, Name as Named, TextEnd, Bad, Long}
use Rattle.text.specs.declared.tokens.Read.{Read}
use Rattle.text.proofs.Reading.{used_within_text}
use Rattle.grammar.specs.Symbols.Symbol.{closing}
use Rattle.grammar.specs.Machine.{Left, step_to, have_step, depth_of, limit_at, names_on, stepped, limited, nothing_left, sum_to}
use Rattle.grammar.specs.Machine.State.{wanting, having}
use Rattle.grammar.specs.Machine.Verdict.{refused}
use Rattle.table.specs.declared.cells.Table.{Table}
use Rattle.parts.specs.Progress.{Fine, part_of, star_times}
use Rattle.parts.proofs.Laws.{part_stars, names_starred}
use Rattle.compiler.specs.Reading.{Sum, Tail, Goes, Stops, StarryRead, FactorRead, ExpressionRead, PartRead, verdict, behind, ends_factor, ends_expression, is_close, closed, halted, EitherWay, unfit}
use Rattle.compiler.specs.Reading.{Seen}
use Rattle.compiler.proofs.Tails.{slice}
use Rattle.compiler.proofs.Verdicts.{is_closing, place}
use Rattle.compiler.proofs.Insides.{inside, size_inside, tail_inside, inner, within_all, behind_inside}
use Rattle.compiler.proofs.Endings.{behind_symbol, behind_stuck, moves}
use Rattle.compiler.proofs.Factors.{opened, limited_goes, unfit_some, unclosed_stuck}

-- only `)` closes
is_closed : (T : Token) → is_close T ≡ true → T ≡ Close
is_closed Semicolon h = absurd (true≢false (sym h))
is_closed Plus h = absurd (true≢false (sym h))
is_closed Star h = absurd (true≢false (sym h))
is_closed Open h = absurd (true≢false (sym h))
is_closed Close h = refl
is_closed Path h = absurd (true≢false (sym h))
is_closed End h = absurd (true≢false (sym h))
is_closed (Named n) h = absurd (true≢false (sym h))
is_closed TextEnd h = absurd (true≢false (sym h))
is_closed Bad h = absurd (true≢false (sym h))
is_closed Long h = absurd (true≢false (sym h))

-- closing reads no byte again
pub closed_left : (s : List ℕ) (e : Seen) → (closed s e).left ≤ e.left
unfolding closed
closed_left s e = go (eqb e.number 0) (is_close (behind s e).token)
  where
    go : (z c : Bool) → (cond z (cond c (record { number = 0; left = e.left - (behind s e).used; part = e.part })
        (halted (unfit (behind s e).token) (e.left - (behind s e).start))) e).left ≤ e.left
    go true true = omega arith
    go true false = omega arith
    go false c = omega arith

module _ (s : List ℕ) (d : ℕ) (t : Table) (is_open : (next_token s).token ≡ Open) (shallow : d < 16) (e : Seen) (told : ExpressionRead ends_expression (slice s (next_token s).used) (d + 1) t e) where
  less : (next_token s).start < (next_token s).used
  less = moves s Open is_open refl

  -- the machine steps inside
  enters : (text : List ℕ) (ks : List Left) → Tail text s → length ks ≡ d → (l : Left) (ns : List Name)
      → verdict text (length s) (wanting l ks) ns ≡ verdict text (length (inside s)) (wanting nothing_left (l ∷ ks)) ns
  enters text ks h k l ns =
      let low : ◌≡◌ {A = ℕ} (cond (leb 16 (length ks)) 5 0) 0 = rw (lt-leb 16 (length ks) (omega (arith, k))) refl in
      opened s d t text ks h is_open l ns ∙ limited_goes _ (place text s) _ low
      ∙ ap (λ (j : ℕ). verdict text j (wanting nothing_left (l ∷ ks)) ns) (sym (size_inside s))

  closed_stays : (e.number ≡ 0 → ⊥) → closed s e ≡ e
  unfolding closed
  closed_stays some = rw (ne_eqb _ _ some) refl

  closed_if : e.number ≡ 0 → is_close (behind s e).token ≡ true
      → closed s e ≡ record { number = 0; left = e.left - (behind s e).used; part = e.part }
  unfolding closed
  closed_if z c = rw (eq-eqb _ _ z, c) refl

  closed_not : e.number ≡ 0 → is_close (behind s e).token ≡ false
      → closed s e ≡ halted (unfit (behind s e).token) (e.left - (behind s e).start)
  unfolding closed
  closed_not z c = rw (eq-eqb _ _ z, c) refl

  -- the `)` takes the machine out
  leaves : (text : List ℕ) → Tail text s → (behind s e).token ≡ Close → (l k : Left) (f : Expr) (ks : List Left) (ns : List Name)
      → verdict text e.left (having l f (k ∷ ks)) ns ≡ verdict text (e.left - (behind s e).used) (having k (sum_to l f) ks) ns
  unfolding step_to have_step depth_of limit_at names_on stepped limited
  leaves text h c l k f ks ns = behind_symbol s e (within_all s (d + 1) t e told) text h (having l f (k ∷ ks)) ns Close closing
      c (is_closing _)

  -- and anything else is refused
  stuck : (text : List ℕ) → Tail text s → ends_expression (behind s e).token ≡ true → is_close (behind s e).token ≡ false
      → (l k : Left) (f : Expr) (ks : List Left) (ns : List Name)
      → verdict text e.left (having l f (k ∷ ks)) ns ≡ refused (unfit (behind s e).token) (length text - (e.left - (behind s e).start))
  stuck text h ended c l k f ks ns =
      behind_stuck s e (within_all s (d + 1) t e told) text h (having l f (k ∷ ks)) ns (unclosed_stuck l k f ks (behind s
      e).token _ ended c)

  -- what the reader of factors answers: the expression, closed, with its stars
  module _ (q r : Seen) (is-closed-of : q ≡ closed s e) (starry : StarryRead s q r) where
    -- a refusal inside is a refusal of the whole
    refused_inside : (ns : List Name) → (e.number ≡ 0 → ⊥) → Stops (inside s) e (d + 1) (λ ks. wanting nothing_left ks) ns
        → (r.number ≡ 0 → ⊥) × ((l : Left) → Stops s r d (λ ks. wanting l ks) ns)
    refused_inside ns some stops =
        let q-is : q ≡ e = is-closed-of ∙ closed_stays some in
        let r-is : r ≡ e = starry.refused_stays (λ z. some (ap (λ (x : Seen). x.number) (sym q-is) ∙ z)) ∙ q-is in
        subst (λ (x : Seen). (x.number ≡ 0 → ⊥) × ((l : Left) → Stops s x d (λ ks. wanting l ks) ns)) (sym r-is)
        (some, λ l text ks h k. enters text ks h k l ns ∙ stops text (l ∷ ks) (tail_inside text s h) (omega (arith, k)))

    -- so is anything but a `)` behind the expression
    refused_unclosed : (ns ns' : List Name) (l' : Left) (f : Expr) → e.number ≡ 0 → ends_expression (behind s e).token ≡ true
        → is_close (behind s e).token ≡ false
        → Goes (inside s) e.left (d + 1) (λ ks. wanting nothing_left ks) ns (λ ks. having l' f ks) ns'
        → (r.number ≡ 0 → ⊥) × ((l : Left) → Stops s r d (λ ks. wanting l ks) ns)
    refused_unclosed ns ns' l' f z ended c goes =
        let T = (behind s e).token in
        let q-is : q ≡ halted (unfit T) (e.left - (behind s e).start) = is-closed-of ∙ closed_not z c in
        let r-is : r ≡ halted (unfit T) (e.left - (behind s e).start)
        = starry.refused_stays (λ w. unfit_some T (ap (λ (x : Seen). x.number) (sym q-is) ∙ w)) ∙ q-is in
        subst (λ (x : Seen). (x.number ≡ 0 → ⊥) × ((l : Left) → Stops s x d (λ ks. wanting l ks) ns)) (sym r-is) (
          unfit_some T,
          λ l text ks h k.
              enters text ks h k l ns ∙ goes text (l ∷ ks) (tail_inside text s h) (omega (arith, k)) ∙ stuck text h ended c l' l f ks ns',
        )

    -- behind the `)` the expression is a factor, starred as often as stars follow
    read_closed : (ns : List Name) (rs : List ℕ) (l' : Left) (f : Expr) → e.number ≡ 0 → is_close (behind s e).token ≡ true
        → PartRead (inside s) e ends_expression ns rs (sum_to l' f)
        → Goes (inside s) e.left (d + 1) (λ ks. wanting nothing_left ks) ns (λ ks. having l' f ks) (ns ++ names (sum_to l' f))
        → (r.number ≡ 0) × ((g : Expr) × PartRead s r ends_factor ns rs g
        × ((l : Left) → Goes s r.left d (λ ks. wanting l ks) ns (λ ks. having l g ks) (ns ++ names g)))
    read_closed ns rs l' f z c read goes =
        let q-is : q ≡ record { number = 0; left = e.left - (behind s e).used; part = e.part } = is-closed-of ∙ closed_if z c in
        let q-none : q.number ≡ 0 = ap (λ (x : Seen). x.number) q-is in
        let q-left : q.left ≡ e.left - (behind s e).used = ap (λ (x : Seen). x.left) q-is in
        let whole = sum_to l' f in
        let g = star_times starry.times whole in
        let all : ns ++ names g ≡ ns ++ names whole = ap (λ (w : List Name). ns ++ w) (names_starred starry.times whole) in
        let part-of : q.part ≡ part_of whole ns rs = ap (λ (x : Seen). x.part) q-is ∙ read.part in (
          starry.number_stays ∙ q-none,
          (
            g,
            record {
              part = starry.part_starred q-none ∙ rw part-of (part_stars starry.times whole ns rs);
              fine = subst Fine (sym all) read.fine;
              ended = starry.ends q-none;
            },
            λ l text ks h k.
                enters text ks h k l ns ∙ goes text (l ∷ ks) (tail_inside text s h) (omega (arith, k))
                ∙ leaves text h (is_closed (behind s e).token c) l' l f ks (ns ++ names whole)
                ∙ ap (λ (j : ℕ). verdict text j (having l whole ks) (ns ++ names whole)) (sym q-left)
                ∙ starry.goes q-none l whole d (ns ++ names whole) text ks h k
                ∙ ap (verdict text r.left (having l g ks)) (sym all),
          ),
        )

    left_inside : r.left ≤ e.left
    left_inside = omega (arith, starry.within, closed_left s e, ap (λ (x : Seen). x.left) is-closed-of)

    pub factor_open : FactorRead s d t r
    factor_open =
        record {
          within = omega (arith, within_all s (d + 1) t e told, left_inside);
          fewer = λ _. omega (arith, left_inside, (inner s (d + 1) t e told).within, size_inside s, less, used_within_text s);
          outcome = λ ns rs same fine. by_outcome ns rs ((inner s (d + 1) t e told).outcome ns rs same fine);
        }
      where
        by_close : (ns : List Name) (rs : List ℕ) (l' : Left) (f : Expr) → e.number ≡ 0
            → PartRead (inside s) e ends_expression ns rs (sum_to l' f)
            → Goes (inside s) e.left (d + 1) (λ ks. wanting nothing_left ks) ns (λ ks. having l' f ks) (ns ++ names (sum_to l' f))
            → (b : Bool) → is_close (behind s e).token ≡ b
            → EitherWay r ((g : Expr) × PartRead s r ends_factor ns rs g
            × ((l : Left) → Goes s r.left d (λ ks. wanting l ks) ns (λ ks. having l g ks) (ns ++ names g)))
            ((l : Left) → Stops s r d (λ ks. wanting l ks) ns)
        by_close ns rs l' f z read goes true c = inl (read_closed ns rs l' f z c read goes)
        by_close ns rs l' f z read goes false c =
            inr
            (refused_unclosed ns (ns ++ names (sum_to l' f)) l' f z
            (ap (λ (x : Read). ends_expression x.token) (sym (behind_inside s (d + 1) t e told)) ∙ read.ended) c goes)

        by_outcome : (ns : List Name) (rs : List ℕ)
            → EitherWay e ((b : Sum) × PartRead (inside s) e ends_expression ns rs (sum_to b.0 b.1)
            × (Unit {0} → Goes (inside s) e.left (d + 1) (λ ks. wanting nothing_left ks) ns (λ ks. having b.0 b.1 ks)
            (ns ++ names (sum_to b.0 b.1))))
            (Unit {0} → Stops (inside s) e (d + 1) (λ ks. wanting nothing_left ks) ns)
            → EitherWay r ((g : Expr) × PartRead s r ends_factor ns rs g
            × ((l : Left) → Goes s r.left d (λ ks. wanting l ks) ns (λ ks. having l g ks) (ns ++ names g)))
            ((l : Left) → Stops s r d (λ ks. wanting l ks) ns)
        by_outcome ns rs (inl (z, ((l', f), read, goes))) = by_close ns rs l' f z read (goes tt) (is_close (behind s e).token) refl
        by_outcome ns rs (inr (some, stops)) = inr (refused_inside ns some (stops tt))
