-- What is so of a text the machine says: it comes through what is unrefused, to the least row, to the end of the text or to the expression. So
-- it judges exactly; and as it says one thing, no two are so.
use mathlib.Core.Path.{◌≡◌, refl, ◌∙◌, subst}
use mathlib.Core.List.{List, [], ◌∷◌, append-nil}
use mathlib.Core.Logic.{◌⊎◌, inl, inr}
use mathlib.Core.Option.{some}
use Prim.Native.Nat.{ℕ, ◌≤◌, ◌<◌}
use native.Mathlib.Omega.{arith}
use lib.ListN.{length}
use borrow.Author.Tests.{lt-ltb, le-ltb}
use Rattle.meaning.specs.Names.{Name}
use Rattle.meaning.specs.Words.{Expr}
use Rattle.grammar.specs.Symbols.{Symbol, Lexeme, items, Reads}
use Rattle.grammar.specs.Grammar.{Whole}
use Rattle.grammar.specs.Refusals.{names_in, Accepted, Unrefused, Refused}
use Rattle.grammar.specs.Refusals.Refused.{too_long, at_a_token, stops_short}
use Rattle.grammar.specs.Machine.{State, Verdict, at_end, judge_item, judge_from, judge}
use Rattle.grammar.specs.Machine.State.{outside, wanting, having, finished}
use Rattle.grammar.specs.Machine.Verdict.{accepted, refused}
use Rattle.grammar.specs.Promises.{OneVerdict, JudgedExactly}
use Rattle.grammar.proofs.Runs.{reached}
use Rattle.grammar.proofs.Derived.{whole_runs}
use Rattle.grammar.proofs.Completed.{finished_whole}
use Rattle.grammar.proofs.Deciding.{Least, Decided, decides}
use Rattle.grammar.proofs.Deciding.Decided.{refuses, goes_on}
use Rattle.grammar.proofs.Unrefusals.{fits_unrefused}
use Rattle.grammar.proofs.Through.{through_all}
use Rattle.grammar.proofs.Sound.{Outcome, judge_sound}

-- one number at most is the least
one_least : {u : List Symbol} {x : Lexeme} (n m : ℕ) → Least u x n → Least u x m → n ≡ m
one_least n m (row, least) (row', least') =
    let not-above : m < n → ⊥ = λ h. least m h row' in
    let not-below : n < m → ⊥ = λ h. least' n h row in
    omega arith

-- where a row refuses an item, the machine does, by the least
decided_least : {u : List Symbol} {s : State} {x : Lexeme} (n : ℕ) → Least u x n → Decided u s x
    → (k : ℕ) (go : State → List Name → Verdict) → judge_item s (names_in u) k x go ≡ refused n k
decided_least n least (refuses m least' judged) k go = rw (judged k go, one_least m n least' least)
decided_least n least (goes_on s' no_row kept judged) k go = absurd (no_row n least.0)

-- where the text ends and its symbols are none of the grammar's texts
short_at_end : (size : ℕ) (u : List Symbol) → ((e : Expr) → ¬ Whole u e) → (s : State) → reached u ≡ some s → at_end size s ≡ refused 4 size
unfolding at_end
short_at_end size u no_text outside leads = refl
short_at_end size u no_text (wanting l ks) leads = refl
short_at_end size u no_text (having l f ks) leads = refl
short_at_end size u no_text (finished e) leads = absurd (no_text e (finished_whole u e leads))

module _ (text : List ℕ) where
  judge_short : length text ≤ 4096 → judge text ≡ judge_from (length text) (items text) outside []
  unfolding judge
  judge_short short = rw (le-ltb 4096 (length text) short)

  -- all items are unrefused: the end decides
  judge_ends : (u : List Symbol) → length text ≤ 4096 → Reads (items text) u → Unrefused u
      → (s : State) × (reached u ≡ some s) × (judge text ≡ at_end (length text) s)
  unfolding judge_from
  judge_ends u short read h =
      let (s, kept, judged) = through_all (length text) [] read h in
      (s, kept.leads, judge_short short ∙ (rw append-nil at judged))

  says_accepted : (e : Expr) → Accepted text e → judge text ≡ accepted e
  unfolding at_end
  says_accepted e a =
      let (s, leads, judged) = judge_ends a.symbols a.short a.read (fits_unrefused a.symbols e a.whole a.limits) in
      let ends = whole_runs a.whole in
      let last : s ≡ finished e = cc in
      rw (judged, last)

  says_refused : {n k : ℕ} → Refused text n k → judge text ≡ refused n k
  unfolding judge judge_from
  says_refused (too_long h) = rw (lt-ltb 4096 (length text) h)
  says_refused (at_a_token before after x u n short e read h row least) =
      let (s, kept, judged) = through_all (length text) (x ∷ after) read h in
      rw (judge_short short, e, judged) (decided_least n (row, least) (decides u s kept x.lexeme) x.place _)
  says_refused (stops_short u short read h no_text) =
      let (s, leads, judged) = judge_ends u short read h in
      judged ∙ short_at_end (length text) u no_text s leads

pub judged_exactly : JudgedExactly
judged_exactly text =
    record {
      accepts = λ e. (λ q. subst (Outcome text) q (judge_sound text), says_accepted text e);
      refuses = λ n k. (λ q. subst (Outcome text) q (judge_sound text), says_refused text);
    }

-- a verdict is one of two
either_verdict : (text : List ℕ) (v : Verdict) → Outcome text v → ((e : Expr) × Accepted text e) ⊎ ((n k : ℕ) × Refused text n k)
either_verdict text (accepted e) is = inl (e, is)
either_verdict text (refused n k) is = inr (n, k, is)

pub one_verdict : OneVerdict
one_verdict text =
    record {
      one_or_other = either_verdict text (judge text) (judge_sound text);
      one_expression = λ a b x y. let said = says_accepted text a x in let said' = says_accepted text b y in cc;
      one_refusal = λ n k m l x y. let said = says_refused text x in let said' = says_refused text y in (cc, cc);
      not_both = λ e n k x y.
          let said = says_accepted text e x in
          let said' = says_refused text y in
          let z : ◌≡◌ {A = ℕ} 0 1 = cc in
          omega arith;
    }
