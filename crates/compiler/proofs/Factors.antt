-- Each way through the reader of factors, as its contract has it: a token that is no factor, a parenthesis too deep, a name that passes a
-- limit, a name with its stars, and an expression in parentheses.
use mathlib.Core.Path.{◌≡◌, refl, sym, ap, subst, ◌∙◌}
use mathlib.Core.Bool.{true, false, cond, true≢false}
use mathlib.Core.List.{List, [], ◌∷◌, ◌++◌}
use mathlib.Core.Logic.{inl, inr}
use Prim.Native.Nat.{ℕ, zero, suc, ◌-◌, ◌≤◌, ◌<◌}
use native.Mathlib.Omega.{arith}
use borrow.Author.Tests.{le-leb}
use lib.Dec.{leb}
use lib.ListN.{length, take, drop, length-take}
use Rattle.meaning.specs.Names.{Name}
use Rattle.meaning.specs.Words.{Expr, names}
use Rattle.meaning.specs.Words.Expr.{name as name_of}
use Rattle.text.specs.Tokens.{next_token}
use Rattle.text.specs.declared.tokens.Token.{Token}
use Rattle.text.specs.declared.tokens.Token.TheVariants.{Semicolon, Plus, Star, Open, Close, Path, End, Name as Named, TextEnd, Bad, Long}
use Rattle.text.proofs.Reading.{Named as Named-read, used_within_text, name_reaches}
use Rattle.grammar.specs.Symbols.Symbol.{opening, name}
use Rattle.grammar.specs.Machine.{Left, Verdict, step_to, want_step, have_step, depth_of, limit_at, names_on, stepped, limited, nothing_left}
use Rattle.grammar.specs.Machine.State.{wanting, having}
use Rattle.grammar.specs.Machine.Verdict.{refused}
use Rattle.table.specs.declared.cells.Table.{Table}
use Rattle.parts.specs.Parts.{placed}
use Rattle.parts.specs.Progress.{noted, Fine, part_of, star_times}
use Rattle.std.specs.Prelude.{Result, Ok}
use Rattle.text.specs.declared.faults.Fault.{Fault}
use Rattle.parts.specs.declared.joining.Part.{Part}
use Rattle.parts.proofs.NameParts.{refused_by}
use Rattle.parts.proofs.Laws.{part_stars, names_starred}
use Rattle.parts.proofs.NameParts.{name_limit, placed_number, placed_part, placed_fine}
use Rattle.compiler.specs.Reading.{begins, Tail, StarryRead, FactorRead, verdict, ends_expression, is_close, halted, unfit}
use Rattle.compiler.specs.Reading.{Seen}
use Rattle.compiler.proofs.Verdicts.{is_opening, is_name, place, stuck_at, verdict_symbol, verdict_stuck}

-- no token is refused by 0
pub unfit_some : (T : Token) → unfit T ≡ 0 → ⊥
unfit_some Semicolon e = omega arith
unfit_some Plus e = omega arith
unfit_some Star e = omega arith
unfit_some Open e = omega arith
unfit_some Close e = omega arith
unfit_some Path e = omega arith
unfit_some End e = omega arith
unfit_some (Named n) e = omega arith
unfit_some TextEnd e = omega arith
unfit_some Bad e = omega arith
unfit_some Long e = omega arith

-- where a factor has to come, the machine is stuck at any other token
wanting_stuck : (l : Left) (ks : List Left) (T : Token) (w : List ℕ) → begins T ≡ false → stuck_at (wanting l ks) T w ≡ true
unfolding step_to want_step
wanting_stuck l ks Semicolon w h = refl
wanting_stuck l ks Plus w h = refl
wanting_stuck l ks Star w h = refl
wanting_stuck l ks Open w h = absurd (true≢false h)
wanting_stuck l ks Close w h = refl
wanting_stuck l ks Path w h = refl
wanting_stuck l ks End w h = refl
wanting_stuck l ks (Named n) w h = absurd (true≢false h)
wanting_stuck l ks TextEnd w h = refl
wanting_stuck l ks Bad w h = refl
wanting_stuck l ks Long w h = refl

-- behind an expression in parentheses, it is stuck at anything but a `)`
pub unclosed_stuck : (l k : Left) (f : Expr) (ks : List Left) (T : Token) (w : List ℕ) → ends_expression T ≡ true → is_close T ≡ false
    → stuck_at (having l f (k ∷ ks)) T w ≡ true
unfolding step_to have_step
unclosed_stuck l k f ks Semicolon w h n = absurd (true≢false (sym h))
unclosed_stuck l k f ks Plus w h n = absurd (true≢false (sym h))
unclosed_stuck l k f ks Star w h n = absurd (true≢false (sym h))
unclosed_stuck l k f ks Open w h n = absurd (true≢false (sym h))
unclosed_stuck l k f ks Close w h n = absurd (true≢false n)
unclosed_stuck l k f ks Path w h n = refl
unclosed_stuck l k f ks End w h n = refl
unclosed_stuck l k f ks (Named n) w h m = absurd (true≢false (sym h))
unclosed_stuck l k f ks TextEnd w h n = refl
unclosed_stuck l k f ks Bad w h n = refl
unclosed_stuck l k f ks Long w h n = refl

-- the m bytes from the first token on
abbrev pub name_at : List ℕ → ℕ → Name
name_at s m = take m (drop (next_token s).start s)

-- the names of a name
name_alone : (w : Name) → names (name_of w) ≡ w ∷ []
unfolding names
name_alone w = refl

-- what is placed is one part
one_part : (p q : Part) → ◌≡◌ {A = Result Part Fault} (Ok p) (Ok q) → p ≡ q
one_part p q e = cc

-- a limit that is passed refuses
limited_refuses : (n k : ℕ) (v : Verdict) → (n ≡ 0 → ⊥) → limited n k v ≡ refused n k
unfolding limited
limited_refuses zero k v h = absurd (h refl)
limited_refuses (suc n) k v h = refl

pub limited_goes : (n k : ℕ) (v : Verdict) → n ≡ 0 → limited n k v ≡ v
unfolding limited
limited_goes zero k v h = refl
limited_goes (suc n) k v h = absurd (omega arith)

module _ (s : List ℕ) (d : ℕ) (t : Table) where
  -- a token that begins no factor
  pub factor_other : (r : Seen) → begins (next_token s).token ≡ false
      → r ≡ halted (unfit (next_token s).token) (length s - (next_token s).start) → FactorRead s d t r
  factor_other r other is =
      let u = next_token s in
      subst (FactorRead s d t) (sym is)
      record {
        within = omega arith;
        fewer = λ z. absurd (unfit_some u.token z);
        outcome = λ ns rs _ _. inr
            (unfit_some u.token, λ l text ks h _. verdict_stuck text s h (wanting l ks) ns (wanting_stuck l ks u.token _ other));
      }

  -- a `(`: the machine steps inside, or refuses it by 5
  pub opened : (text : List ℕ) (ks : List Left) → Tail text s → (next_token s).token ≡ Open → (l : Left) (ns : List Name)
      → verdict text (length s) (wanting l ks) ns
      ≡ limited (cond (leb 16 (length ks)) 5 0) (place text s)
      (verdict text (length s - (next_token s).used) (wanting nothing_left (l ∷ ks)) ns)
  unfolding step_to want_step depth_of limit_at names_on stepped
  opened text ks h e l ns = verdict_symbol text s h Open opening e (is_opening _) (wanting l ks) ns

  pub factor_deep : (r : Seen) → (next_token s).token ≡ Open → 16 ≤ d → r ≡ halted 5 (length s - (next_token s).start) → FactorRead s d t r
  unfolding limited
  factor_deep r e deep is =
      subst (FactorRead s d t) (sym is)
      record {
        within = omega arith;
        fewer = λ z. absurd (omega arith);
        outcome = λ ns rs _ _. inr
            (λ z. omega arith, λ l text ks h k. opened text ks h e l ns ∙ rw (le-leb 16 (length ks) (omega (arith, k))) refl);
      }

  -- a name: the machine steps over it, or refuses it by a limit
  named : (m : ℕ) (text : List ℕ) (ks : List Left) → Tail text s → (next_token s).token ≡ Named m → (l : Left) (ns : List Name)
      → verdict text (length s) (wanting l ks) ns
      ≡ limited (name_limit ns (name_at s m)) (place text s)
      (verdict text (length s - (next_token s).used) (having l (name_of (name_at s m)) ks) (ns ++ name_at s m ∷ []))
  unfolding step_to want_step depth_of limit_at names_on stepped
  named m text ks h e l ns = verdict_symbol text s h (Named m) (name (name_at s m)) e (is_name m _) (wanting l ks) ns

  module _ (m : ℕ) (e : (next_token s).token ≡ Named m) where
    name_reach : Named-read (next_token s) m
    name_reach = name_reaches s m e

    name_short : length (name_at s m) ≤ 16
    name_short = omega (arith, name_reach.short, length-take m (drop (next_token s).start s))

    name_some : (next_token s).start < (next_token s).used
    name_some = omega (arith, name_reach.some, name_reach.reach)

    module _ (p : Result Part Fault) (told : p ≡ placed t (name_at s m)) where
      -- the number is that of the limit
      number_is : (ns : List Name) (rs : List ℕ) → t ≡ noted ns rs → Fine ns → refused_by p ≡ name_limit ns (name_at s m)
      number_is ns rs is fine = rw (told, is) (placed_number ns rs (name_at s m) fine name_short)

      -- a name that passes a limit
      pub factor_limit : (r : Seen) → (refused_by p ≡ 0 → ⊥) → r ≡ halted (refused_by p) (length s - (next_token s).start) → FactorRead s d t r
      factor_limit r some is =
          subst (FactorRead s d t) (sym is)
          record {
            within = omega arith;
            fewer = λ z. absurd (some z);
            outcome = λ ns rs same fine. inr (
              some,
              λ l text ks h _.
                  let limit = number_is ns rs same fine in
                  named m text ks h e l ns
                  ∙ limited_refuses (name_limit ns (name_at s m)) (place text s) _ (λ z. some (limit ∙ z))
                  ∙ ap (λ (k : ℕ). refused k (place text s)) (sym limit),
            );
          }

      -- a name, with the stars behind it
      pub factor_name : (r : Seen) (own : Part) → p ≡ Ok own
          → StarryRead s (record { number = 0; left = length s - (next_token s).used; part = own }) r → FactorRead s d t r
      factor_name r own owned starry =
          record {
            within = omega (arith, starry.within);
            fewer = λ _. omega (arith, starry.within, name_some, used_within_text s);
            outcome = λ ns rs same fine.
                let limit : name_limit ns (name_at s m) ≡ 0 = sym (number_is ns rs same fine) ∙ ap refused_by owned in
                let f = star_times starry.times (name_of (name_at s m)) in
                let all : ns ++ names f ≡ ns ++ name_at s m ∷ [] = ap (λ (w : List Name). ns ++ w) (names_starred starry.times
                (name_of (name_at s m)) ∙ name_alone (name_at s m)) in
                let whole : own ≡ part_of (name_of (name_at s m)) ns rs =
                one_part _ _ (sym owned ∙ told ∙ rw same (placed_part ns rs (name_at s m) fine name_short limit)) in
                inl (
                  starry.number_stays,
                  (
                    f,
                    record {
                      part = starry.part_starred refl ∙ rw whole (part_stars starry.times (name_of (name_at s m)) ns rs);
                      fine = subst Fine (sym all) (placed_fine ns rs (name_at s m) fine name_short limit);
                      ended = starry.ends refl;
                    },
                    λ l text ks h k.
                        named m text ks h e l ns
                        ∙ limited_goes (name_limit ns (name_at s m)) (place text s) _ limit
                        ∙ starry.goes refl l (name_of (name_at s m)) d (ns ++ name_at s m ∷ []) text ks h k
                        ∙ ap (verdict text r.left (having l f ks)) (sym all),
                  ),
                );
          }
