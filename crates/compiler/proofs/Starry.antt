-- A part with the stars behind it: refused as it was, plain, or starred.
use mathlib.Core.Path.{◌≡◌, refl, sym, ap, subst, ◌∙◌}
use mathlib.Core.Bool.{true}
use mathlib.Core.List.{List}
use Prim.Native.Nat.{ℕ, ◌+◌, ◌-◌, ◌≤◌}
use native.Mathlib.Omega.{arith}
use borrow.Author.Tests.{eq-eqb, ne_eqb}
use lib.ListN.{length, drop}
use lib.Seq.{drop-drop}
use Rattle.meaning.specs.Names.{Name}
use Rattle.meaning.specs.Words.{Expr}
use Rattle.text.specs.Tokens.{next_token}
use Rattle.grammar.specs.Machine.{Left}
use Rattle.grammar.specs.Machine.State.{having}
use Rattle.parts.specs.Parts.{starred}
use Rattle.parts.specs.Progress.{star_times}
use Rattle.compiler.specs.Reading.{Tail, StarsRead, StarryRead, verdict, ends_factor}
use Rattle.compiler.specs.Reading.{Seen}
use Rattle.compiler.proofs.Tails.{slice, slice_drops}
use Rattle.compiler.proofs.Endings.{ending, ending_size, ending_tail}

pub starry_refused : (s : List ℕ) (p : Seen) → (p.number ≡ 0 → ⊥) → StarryRead s p p
starry_refused s p n =
    record {
      within = omega arith;
      refused_stays = λ _. refl;
      times = 0;
      number_stays = refl;
      part_starred = λ z. absurd (n z);
      ends = λ z. absurd (n z);
      goes = λ z. absurd (n z);
    }

module _ (s : List ℕ) (p : Seen) (used : ℕ) (z : p.number ≡ 0) (w : p.left ≤ length s) (g : StarsRead (slice s (length s - p.left)) used) where
  stars_at : StarsRead (ending s p w) used
  unfolding ending
  stars_at = subst (λ (v : List ℕ). StarsRead v used) (slice_drops s (length s - p.left)) g

  pub stars_fit : used ≤ p.left
  stars_fit = omega (arith, stars_at.within, ending_size s p w)

  -- the stars take the machine on, from where p ends
  stars_go : (left : ℕ) → left ≡ p.left - used → (l : Left) (f : Expr) (d : ℕ) (ns : List Name) (text : List ℕ) (ks : List Left)
      → Tail text s → length ks ≡ d → verdict text p.left (having l f ks) ns ≡ verdict text left (having l (star_times
      stars_at.times f) ks) ns
  stars_go left e l f d ns text ks h n =
      ap (λ (k : ℕ). verdict text k (having l f ks) ns) (sym (ending_size s p w))
      ∙ stars_at.goes l f d ns text ks (ending_tail s p w text h) n
      ∙ ap (λ (k : ℕ). verdict text k (having l (star_times stars_at.times f) ks) ns)
      (ap (λ (k : ℕ). k - used) (ending_size s p w) ∙ sym e)

  stars_ended : (left : ℕ) → left ≡ p.left - used → ends_factor (next_token (drop (length s - left) s)).token ≡ true
  unfolding ending
  stars_ended left e =
      let far : length s - p.left + used ≡ length s - left = omega (arith, stars_fit) in
      ap (λ (v : List ℕ). ends_factor (next_token v).token)
      (ap (λ (k : ℕ). drop k s) (sym far) ∙ sym (drop-drop used (length s - p.left) s))
      ∙ stars_at.ends

  pub starry_plain : used ≡ 0 → StarryRead s p p
  starry_plain e =
      let none : p.left ≡ p.left - used = omega arith in
      record {
        within = omega arith;
        refused_stays = λ _. refl;
        times = stars_at.times;
        number_stays = refl;
        part_starred = λ _. rw (← stars_at.some_if, eq-eqb used 0 e) refl;
        ends = λ _. stars_ended p.left none;
        goes = λ _. stars_go p.left none;
      }

  pub starry_starred : (r : Seen) → (used ≡ 0 → ⊥) → r ≡ record {
    number = 0;
    left = p.left - used;
    part = starred
        p.part;
  } → StarryRead s p r
  starry_starred r e is =
      let left : r.left ≡ p.left - used = ap (λ (q : Seen). q.left) is in
      record {
        within = omega (arith, left);
        refused_stays = λ n. absurd (n z);
        times = stars_at.times;
        number_stays = ap (λ (q : Seen). q.number) is ∙ sym z;
        part_starred = λ _. rw (is, ← stars_at.some_if, ne_eqb used 0 e) refl;
        ends = λ _. stars_ended r.left left;
        goes = λ _. stars_go r.left left;
      }
