-- Stars, read one after the other: each takes the machine from a factor to the same factor starred once more.
use mathlib.Core.Path.{◌≡◌, refl, sym, ap, ◌∙◌}
use mathlib.Core.List.{List}
use Prim.Native.Nat.{ℕ, suc, ◌+◌, ◌-◌, ◌≤◌, ◌<◌}
use native.Mathlib.Omega.{arith}
use borrow.Author.Tests.{ne_eqb}
use lib.Dec.{eqb}
use lib.ListN.{length, drop, length-drop}
use Rattle.meaning.specs.Names.{Name}
use Rattle.meaning.specs.Words.{Expr}
use Rattle.text.specs.Tokens.{next_token}
use Rattle.text.specs.declared.tokens.Token.TheVariants.{Star}
use Rattle.text.specs.declared.tokens.Read.{Read}
use Rattle.text.proofs.Reading.{used_within_text}
use Rattle.grammar.specs.Symbols.Symbol.{asterisk}
use Rattle.grammar.specs.Machine.{Left, step_to, have_step, depth_of, limit_at, names_on, stepped, limited}
use Rattle.grammar.specs.Machine.State.{having}
use Rattle.parts.specs.Progress.{star_times}
use Rattle.compiler.specs.Reading.{Goes, Tail, verdict}
use Rattle.compiler.proofs.Tails.{slice, slice_drops, tail_drop}
use Rattle.compiler.proofs.Verdicts.{is_asterisk, verdict_symbol}
use Rattle.compiler.proofs.Endings.{moves}

-- some stars were read from the front of s
pub record StarsSoFar (s : List ℕ) (used : ℕ) : Type 0 where
  pub within : used ≤ length s
  pub times : ℕ
  pub some_if : eqb used 0 ≡ eqb times 0
  pub goes : (l : Left) (f : Expr) (d : ℕ) (ns : List Name)
      → Goes s (length s - used) d (λ ks. having l f ks) ns (λ ks. having l (star_times times f) ks) ns

pub no_stars_yet : (s : List ℕ) → StarsSoFar s 0
unfolding star_times
no_stars_yet s =
    let all : length s ≡ length s - 0 = omega arith in
    record {
      within = omega arith;
      times = 0;
      some_if = refl;
      goes = λ l f d ns text ks h e. ap (λ (k : ℕ). verdict text k (having l f ks) ns) all;
    }

-- one star takes the machine on
star_goes : (text s : List ℕ) → Tail text s → (next_token s).token ≡ Star → (l : Left) (f : Expr) (ks : List Left) (ns : List Name)
    → verdict text (length s) (having l f ks) ns ≡ verdict text (length s - (next_token s).used) (having l (star_times 1 f) ks) ns
unfolding step_to have_step depth_of limit_at names_on stepped limited star_times
star_goes text s h e l f ks ns = verdict_symbol text s h Star asterisk e (is_asterisk _) (having l f ks) ns

module _ (s : List ℕ) (used : ℕ) (far : StarsSoFar s used) where
  at : List ℕ
  at = drop used s

  size_at : length at ≡ length s - used
  unfolding at
  size_at = length-drop used s

  module _ (r : Read) (is-next : r ≡ next_token (slice s used)) where
    next_at : r ≡ next_token at
    unfolding at
    next_at = is-next ∙ ap next_token (slice_drops s used)

    pub star_fits : used + r.used ≤ length s
    star_fits = omega (arith, far.within, size_at, ap (λ (q : Read). q.used) next_at, used_within_text at)

    pub star_is_some : r.token ≡ Star → 0 < r.used
    star_is_some e =
        let star = ap (λ (q : Read). q.token) (sym next_at) ∙ e in
        omega (arith, moves at Star star refl, ap (λ (q : Read). q.used) next_at)

    pub star_more : r.token ≡ Star → StarsSoFar s (used + r.used)
    unfolding star_times at
    star_more e =
        record {
          within = star_fits;
          times = suc far.times;
          some_if = rw (ne_eqb (used + r.used) 0 (λ z. omega (arith, star_is_some e)), ne_eqb (suc far.times) 0 (λ z. omega arith)) refl;
          goes = λ l f d ns text ks h n.
              let star = ap (λ (q : Read). q.token) (sym next_at) ∙ e in
              let left : length s - used - r.used ≡ length s - (used + r.used) = omega arith in
              far.goes l f d ns text ks h n
              ∙ ap (λ (k : ℕ). verdict text k (having l (star_times far.times f) ks) ns) (sym size_at)
              ∙ star_goes text at (tail_drop text s h used far.within) star l (star_times far.times f) ks ns
              ∙ ap (λ (k : ℕ). verdict text k (having l (star_times (suc far.times) f) ks) ns)
              (ap (λ (q : Read). length at - q.used) (sym next_at) ∙ ap (λ (k : ℕ). k - r.used) size_at ∙ left);
        }
