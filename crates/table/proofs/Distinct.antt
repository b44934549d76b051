-- Names are distinct exactly if none has the key of one before it: of two with one key, one comes first.
use mathlib.Core.Path.{◌≡◌, refl, sym, ap, ◌∙◌}
use mathlib.Core.Bool.{Bool, true, false, false≢true}
use mathlib.Core.List.{List, []}
use mathlib.Core.Logic.{⊎_elim}
use Prim.Native.Nat.{ℕ, ◌≤◌, ◌<◌}
use native.Mathlib.Omega.{arith}
use lib.ListN.{length, take, get_or, length-take}
use lib.Seq.{length-take-le, get_or-take}
use Rattle.meaning.specs.Names.{Name, key}
use Rattle.meaning.specs.Operations.{holds}
use Rattle.meaning.proofs.OperationLaws.{at_held}
use Rattle.meaning.proofs.NumberLaws.{held_at}
use Rattle.meaning.proofs.SetLaws.{below_or_not}

-- no two of the first `names` have one key
abbrev pub Distinct : ℕ → List Name → Type 0
Distinct names ns = (i j : ℕ) → i < names → j < names → key (get_or ns i []) ≡ key (get_or ns j []) → i ≡ j

-- none of them has the key of one before it
abbrev pub EachNew : ℕ → List Name → Type 0
EachNew names ns = (j : ℕ) → j < names → holds (take j ns) (key (get_or ns j [])) ≡ false

module _ (names : ℕ) (ns : List Name) (few : names ≤ length ns) where
  apart : EachNew names ns → (i j : ℕ) → i < j → j < names → key (get_or ns i []) ≡ key (get_or ns j []) → ⊥
  apart new i j l h e =
      let there : i < length (take j ns) = omega (arith, length-take-le j ns (omega arith)) in
      let same_key = ap key (get_or-take j ns i [] l) ∙ e in
      false≢true (sym (new j h) ∙ at_held (take j ns) (key (get_or ns j [])) i there same_key)

  pub new_distinct : EachNew names ns → Distinct names ns
  new_distinct new i j hi hj e =
      ⊎_elim
      (λ l. absurd (apart new i j l hj e))
      (λ l. ⊎_elim (λ m. absurd (apart new j i m hi (sym e))) (λ m. omega arith) (below_or_not j i))
      (below_or_not i j)

  pub distinct_new : Distinct names ns → EachNew names ns
  distinct_new distinct j h = go (holds (take j ns) (key (get_or ns j []))) refl
    where
      go : (t : Bool) → holds (take j ns) (key (get_or ns j [])) ≡ t → t ≡ false
      go true e =
          let at = held_at (take j ns) (key (get_or ns j [])) e in
          let l : at.0 < j = omega (arith, length-take j ns) in
          let same_key = ap key (sym (get_or-take j ns at.0 [] l)) ∙ at.2 in
          absurd (omega (arith, distinct at.0 j (omega arith) h same_key))
      go false e = refl
