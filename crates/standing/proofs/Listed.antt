-- The entries that pass the test one after the other are those of which the soundness of a list speaks: below 64, not taken, all different,
-- of operations that exist and are not barred.
use mathlib.Core.Path.{◌≡◌, refl, sym, ap, subst, ◌∙◌}
use mathlib.Core.Bool.{Bool, true, false, false≢true, not, ◌&&◌, and-eq-true_iff}
use mathlib.Core.List.{List, [], ◌∷◌}
use mathlib.Core.Logic.{◌↔◌, ◌≢◌, ⊎_elim, inl, inr}
use Prim.Native.Nat.{ℕ, zero, suc, ◌<◌}
use native.Mathlib.Nat.{not-suc-le-zero, le_of_suc-le-suc, suc_inj}
use native.Mathlib.Omega.{arith}
use borrow.Author.Tests.{ltb-true, lt-ltb, not-true}
use lib.Bits.{bit_or}
use lib.Dec.{ltb}
use lib.ListN.{length}
use Rattle.meaning.specs.Sets.{mem, In}
use Rattle.meaning.proofs.SetLaws.{in_union}
use Rattle.standing.specs.declared.entries.Entry.{Entry}
use Rattle.standing.specs.Searching.{bit_of}
use Rattle.standing.specs.Soundness.{terminal_in, operation_in}
use Rattle.standing.proofs.Looking.{fits_among, all_fit}
use Rattle.standing.proofs.Meeting.{in_bit}

-- what the test says of the entry e
pub record Fits (names barred taken : ℕ) (e : Entry) : Type 0 where
  pub below : e.terminal.0 < 64
  pub new : ¬ In e.terminal.0 taken
  pub exists : e.operation.0 < names
  pub unbarred : mem e.operation.0 barred ≡ false

fits_says : (names barred taken : ℕ) (e : Entry) → (fits_among names barred taken e ≡ true) ↔ Fits names barred taken e
fits_says names barred taken e =
    let below = ltb e.terminal.0 64 in
    let new = not (mem e.terminal.0 taken) in
    let exists = ltb e.operation.0 names in
    let unbarred = not (mem e.operation.0 barred) in (
      λ h.
          let four = (and-eq-true_iff (below && new && exists) unbarred).0 h in
          let three = (and-eq-true_iff (below && new) exists).0 four.0 in
          let two = (and-eq-true_iff below new).0 three.0 in
          record {
            below = ltb-true e.terminal.0 64 two.0;
            new = λ i. false≢true (sym (not-true (mem e.terminal.0 taken) two.1) ∙ i);
            exists = ltb-true e.operation.0 names three.1;
            unbarred = not-true (mem e.operation.0 barred) four.1;
          },
      λ f.
          rw (
            lt-ltb e.terminal.0 64 f.below,
            absent (mem e.terminal.0 taken) f.new,
            lt-ltb e.operation.0 names f.exists,
            f.unbarred,
          ),
    )
  where
    absent : (b : Bool) → ¬ (b ≡ true) → b ≡ false
    absent true h = absurd (h refl)
    absent false h = refl

-- what it says of all of them, by their places
pub record AllFit (names barred taken : ℕ) (es : List Entry) : Type 0 where
  pub below : (i : ℕ) → i < length es → terminal_in es i < 64
  pub new : (i : ℕ) → i < length es → ¬ In (terminal_in es i) taken
  pub differ : (i j : ℕ) → i < length es → j < length es → terminal_in es i ≡ terminal_in es j → i ≡ j
  pub exist : (i : ℕ) → i < length es → operation_in es i < names
  pub unbarred : (i : ℕ) → i < length es → mem (operation_in es i) barred ≡ false

module _ (names barred taken : ℕ) (e : Entry) (es : List Entry) where
  abbrev taken' : ℕ
  taken' = bit_or taken (bit_of e.terminal.0)

  together : Fits names barred taken e → AllFit names barred taken' es → AllFit names barred taken (e ∷ es)
  together f a = record { below = below; new = new; differ = differ; exist = exist; unbarred = unbarred }
    where
      own : In e.terminal.0 taken'
      own = (in_union e.terminal.0 taken (bit_of e.terminal.0)).1 (inr ((in_bit e.terminal.0 e.terminal.0).1 (f.below, refl)))

      below : (i : ℕ) → i < length (e ∷ es) → terminal_in (e ∷ es) i < 64
      below zero l = f.below
      below (suc i) l = a.below i (le_of_suc-le-suc l)

      new : (i : ℕ) → i < length (e ∷ es) → ¬ In (terminal_in (e ∷ es) i) taken
      new zero l = f.new
      new (suc i) l =
          λ h. a.new i (le_of_suc-le-suc l) ((in_union (terminal_in es i) taken (bit_of e.terminal.0)).1 (inl h))

      other : (i : ℕ) → i < length es → terminal_in es i ≢ e.terminal.0
      other i l q = a.new i l (subst (λ (t : ℕ). In t taken') (sym q) own)

      differ : (i j : ℕ) → i < length (e ∷ es) → j < length (e ∷ es) → terminal_in (e ∷ es) i ≡ terminal_in (e ∷ es) j → i ≡ j
      differ zero zero l k q = refl
      differ zero (suc j) l k q = absurd (other j (le_of_suc-le-suc k) (sym q))
      differ (suc i) zero l k q = absurd (other i (le_of_suc-le-suc l) q)
      differ (suc i) (suc j) l k q = ap suc (a.differ i j (le_of_suc-le-suc l) (le_of_suc-le-suc k) q)

      exist : (i : ℕ) → i < length (e ∷ es) → operation_in (e ∷ es) i < names
      exist zero l = f.exists
      exist (suc i) l = a.exist i (le_of_suc-le-suc l)

      unbarred : (i : ℕ) → i < length (e ∷ es) → mem (operation_in (e ∷ es) i) barred ≡ false
      unbarred zero l = f.unbarred
      unbarred (suc i) l = a.unbarred i (le_of_suc-le-suc l)

  first_of : AllFit names barred taken (e ∷ es) → Fits names barred taken e
  first_of a =
      record {
        below = a.below 0 (omega arith);
        new = a.new 0 (omega arith);
        exists = a.exist 0 (omega arith);
        unbarred = a.unbarred 0 (omega arith);
      }

  others_of : AllFit names barred taken (e ∷ es) → AllFit names barred taken' es
  others_of a =
      record {
        below = λ i l. a.below (suc i) (omega (arith, l));
        new = λ i l h.
            ⊎_elim (a.new (suc i) (omega (arith, l)))
            (λ bit. absurd (zero_not_suc (a.differ 0 (suc i) (omega arith) (omega (arith, l)) (sym ((in_bit _ _).0 bit).1))))
            ((in_union (terminal_in es i) taken (bit_of e.terminal.0)).0 h);
        differ = λ i j l k q. suc_inj (a.differ (suc i) (suc j) (omega (arith, l)) (omega (arith, k)) q);
        exist = λ i l. a.exist (suc i) (omega (arith, l));
        unbarred = λ i l. a.unbarred (suc i) (omega (arith, l));
      }
    where
      zero_not_suc : {i : ℕ} → ¬ (0 ≡ suc i)
      zero_not_suc q = absurd (omega (arith, q))

pub all_fit_says : (names barred taken : ℕ) (es : List Entry) → (all_fit names barred taken es ≡ true) ↔ AllFit names barred taken es
all_fit_says names barred taken [] = (
  λ h.
      record {
        below = λ i l. absurd (not-suc-le-zero l);
        new = λ i l. absurd (not-suc-le-zero l);
        differ = λ i j l. absurd (not-suc-le-zero l);
        exist = λ i l. absurd (not-suc-le-zero l);
        unbarred = λ i l. absurd (not-suc-le-zero l);
      },
  λ a. refl,
)
all_fit_says names barred taken (e ∷ es) =
    let rest = all_fit_says names barred (bit_or taken (bit_of e.terminal.0)) es in
    let both = and-eq-true_iff (fits_among names barred taken e) (all_fit names barred (bit_or taken (bit_of e.terminal.0)) es) in
    let one = fits_says names barred taken e in (
      λ h. together names barred taken e es (one.0 (both.0 h).0) (rest.0 (both.0 h).1),
      λ a. both.1 (one.1 (first_of names barred taken e es a), rest.1 (others_of names barred taken e es a)),
    )
