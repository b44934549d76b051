-- What the test of a table's names says: those in use are distinct and well formed, and what is not in use is zero; a cell that is
-- not there reads 0.
use mathlib.Core.Path.{◌≡◌, ◌∙◌}
use mathlib.Core.Bool.{true, false}
use mathlib.Core.List.{List, []}
use mathlib.Core.Logic.{⊎_elim}
use Prim.Native.Nat.{ℕ, ◌+◌, ◌-◌, ◌*◌, ◌≤◌, ◌<◌}
use native.Mathlib.Omega.{arith}
use lib.ListN.{length, take, get_or, get_or-eq_default}
use Rattle.meaning.specs.Names.{Name, key}
use Rattle.meaning.specs.Operations.{holds}
use Rattle.meaning.proofs.SetLaws.{below_or_not}
use Rattle.text.specs.Tokens.{well_formed}
use Rattle.table.specs.Cells.{spellings}
use Rattle.table.specs.Tests.{name_at_test, names_test}
use Rattle.table.proofs.Distinct.{Distinct, new_distinct, distinct_new}
use Rattle.table.proofs.FreshNames.{NameSays, fresh_says, name_says}
use Rattle.table.proofs.Passing.{each_says, each_said}
use Rattle.table.proofs.Spellings.{length_spellings}

module _ (names : ℕ) (lengths bytes : List ℕ) where
  abbrev len : ℕ → ℕ
  len i = get_or lengths i 0

  abbrev ns : List Name
  ns = spellings lengths bytes

  -- the clauses of soundness that speak of names
  pub record NamesSound : Type 0 where
    pub distinct : Distinct names ns
    pub well_formed : (i : ℕ) → i < names → (len i ≤ 16) × (well_formed (get_or ns i []) ≡ true)
    pub unused_lengths : (i : ℕ) → names ≤ i → len i ≡ 0
    pub unused_bytes : (i k : ℕ) → k < 16 → len i ≤ k → get_or bytes (16 * i + k) 0 ≡ 0

  module _ (all : length lengths ≡ 32) (every : length bytes ≡ 512) (few : names ≤ 32) where
    spelled : length ns ≡ 32
    spelled = length_spellings lengths bytes ∙ all

    said_of : names_test names lengths bytes ≡ true → (i : ℕ) → i < 32 → NameSays names lengths bytes i
    said_of t i h =
        (name_says names lengths bytes i (omega arith)).0 (each_says (name_at_test names lengths bytes) 0 32 i t (omega arith) h)

    fresh : names_test names lengths bytes ≡ true → (i : ℕ) → i < names
        → (well_formed (get_or ns i []) ≡ true) × (holds (take i ns) (key (get_or ns i [])) ≡ false)
    fresh t i h = (fresh_says (get_or ns i []) (take i ns)).0 ((said_of t i (omega arith)).fresh h)

    pub tested_names_sound : names_test names lengths bytes ≡ true → NamesSound
    tested_names_sound t =
        record {
          distinct = new_distinct names ns (omega (arith, spelled)) (λ j h. (fresh t j h).1);
          well_formed = λ i h. ((said_of t i (omega arith)).short, (fresh t i h).0);
          unused_lengths = λ i h.
              ⊎_elim
              (λ l. (said_of t i l).unused h)
              (λ l. get_or-eq_default lengths 0 {n = i} (omega arith))
              (below_or_not i 32);
          unused_bytes = λ i k h m.
              ⊎_elim
              (λ l. (said_of t i l).zeros (16 * i + k) (omega arith) (omega arith))
              (λ l. get_or-eq_default bytes 0 {n = 16 * i + k} (omega arith))
              (below_or_not i 32);
        }

    name_of_sound : NamesSound → (i : ℕ) → NameSays names lengths bytes i
    name_of_sound s i =
        record {
          short = ⊎_elim (λ h. (s.well_formed i h).0) (λ h. omega (arith, s.unused_lengths i h)) (below_or_not i names);
          fresh = λ h. (fresh_says (get_or ns i []) (take i ns)).1 (
            (s.well_formed i h).1,
            distinct_new names ns (omega (arith, spelled)) s.distinct i h,
          );
          unused = s.unused_lengths i;
          zeros = λ k l h.
              let place : 16 * i + (k - 16 * i) ≡ k = omega arith in
              rw place at (s.unused_bytes i (k - 16 * i) (omega arith) (omega arith));
        }

    pub sound_names_tested : NamesSound → names_test names lengths bytes ≡ true
    sound_names_tested s =
        each_said (name_at_test names lengths bytes) 0 32
        (λ i l h. (name_says names lengths bytes i (omega arith)).1 (name_of_sound s i))
