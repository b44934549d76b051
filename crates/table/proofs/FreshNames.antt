-- What the test of one name says: a fresh name is well formed and has no key of a name before it; and what the bytes kept for a
-- name say, whether it is in use or not.
use mathlib.Core.Path.{◌≡◌, refl, sym, ◌∙◌}
use mathlib.Core.Bool.{Bool, true, false, cond, not, ◌&&◌, and-eq-true_iff}
use mathlib.Core.List.{List, []}
use mathlib.Core.Logic.{◌↔◌, ⊎_elim}
use Prim.Native.Nat.{ℕ, ◌+◌, ◌*◌, ◌≤◌, ◌<◌}
use borrow.Author.Tests.{eqb-true, eq-eqb, leb-true, le-leb, lt-ltb, le-ltb, not-true}
use lib.Dec.{leb}
use lib.ListN.{length, take, get_or}
use Rattle.meaning.specs.Names.{Name, key}
use Rattle.meaning.specs.Operations.{holds, number_of}
use Rattle.meaning.proofs.SetLaws.{below_or_not}
use Rattle.text.specs.Tokens.{well_formed}
use Rattle.std.specs.Prelude.{Some, None, is_none}
use Rattle.table.specs.declared.numbers.Operation.{Operation}
use Rattle.table.specs.Cells.{spellings}
use Rattle.table.specs.Following.{found_in}
use Rattle.table.specs.Tests.{fresh_test, used_test, zero_test, zeros_test, name_test, name_at_test}
use Rattle.table.proofs.Passing.{each_says, each_said}
use Rattle.table.proofs.Spellings.{spelling_at}

-- a name that is found nowhere is one that the list does not hold
new_not_held : (ns : List Name) (k : Name) → is_none (found_in ns k) ≡ not (holds ns k)
unfolding found_in
new_not_held ns k = go (holds ns k)
  where
    go : (t : Bool) → is_none {T = Operation} (cond t (Some (record { 0 = number_of ns k })) None) ≡ not t
    go true = refl
    go false = refl

pub fresh_says : (name : Name) (before : List Name)
    → (fresh_test name before ≡ true) ↔ ((well_formed name ≡ true) × (holds before (key name) ≡ false))
unfolding fresh_test
fresh_says name before = (
  λ t.
      let both = (and-eq-true_iff (well_formed name) (is_none (found_in before (key name)))).0 t in
      (both.0, not-true _ (sym (new_not_held before (key name)) ∙ both.1)),
  λ says. rw (says.0, new_not_held before (key name), says.1),
)

module _ (names : ℕ) (lengths bytes : List ℕ) (i : ℕ) where
  abbrev len : ℕ
  len = get_or lengths i 0

  abbrev name : Name
  name = get_or (spellings lengths bytes) i []

  -- what the test of name i says
  pub record NameSays : Type 0 where
    pub short : len ≤ 16
    pub fresh : i < names → fresh_test name (take i (spellings lengths bytes)) ≡ true
    pub unused : names ≤ i → len ≡ 0
    pub zeros : (k : ℕ) → 16 * i + len ≤ k → k < 16 * i + 16 → get_or bytes k 0 ≡ 0

  pub name_says : i < length lengths → (name_at_test names lengths bytes i ≡ true) ↔ NameSays
  unfolding name_test
  name_says there =
      let short = leb len 16 in
      let used = used_test i len names lengths bytes in
      let rest = zeros_test bytes (16 * i + len) (16 * i + 16) in (
        λ t.
            let both = (and-eq-true_iff (short && used) rest).0 t in
            let front = (and-eq-true_iff short used).0 both.0 in
            record {
              short = leb-true len 16 front.0;
              fresh = λ h. rw (spelling_at lengths bytes i there) (rw (lt-ltb i names h) at front.1);
              unused = λ h. eqb-true len 0 (rw (le-ltb i names h) at front.1);
              zeros = λ k l h. eqb-true _ _ (each_says (zero_test bytes) (16 * i + len) (16 * i + 16) k both.1 l h);
            },
        λ says.
            let ends : rest ≡ true = each_said (zero_test bytes) (16 * i + len) (16 * i + 16) (λ k l h. eq-eqb _ _ (says.zeros k l h)) in
            let fits : used ≡ true =
            ⊎_elim
            (λ h. rw (lt-ltb i names h, ← (spelling_at lengths bytes i there)) (says.fresh h))
            (λ h. rw (le-ltb i names h) (eq-eqb len 0 (says.unused h)))
            (below_or_not i names) in
            rw (le-leb len 16 says.short, fits) ends,
      )
