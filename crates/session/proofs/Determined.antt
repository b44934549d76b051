-- What each public function on the lent list leaves is determined: its contract is an equation with a definition. The calls have the
-- contracts of `steps`: open-determined, ask-determined, finish-determined and withdraw-determined, its proofs/CallsDetermined.antt.
use mathlib.Core.Path.{◌≡◌}
use mathlib.Core.List.{List}
use Prim.Native.Nat.{ℕ}
use lib.ListN.{set, take}
use Rattle.text.proofs.Determined.{both_equal}
use Rattle.standing.specs.declared.entries.Entry.{Entry}
use Rattle.standing.specs.declared.searches.Search.{Search}
use Rattle.standing.specs.Lists.{taken_out, blanked}
use Rattle.standing.specs.Searching.{looked}

pub find_determined : (l : List Entry) (n : ℕ) (s r r' : Search) → r ≡ looked 0 s (take n l) → r' ≡ looked 0 s (take n l) → r ≡ r'
find_determined l n s r r' = both_equal

pub append_determined : (l : List Entry) (at : ℕ) (e : Entry) (l₁ l₂ : List Entry) → l₁ ≡ set l at e → l₂ ≡ set l at e → l₁ ≡ l₂
append_determined l at e l₁ l₂ = both_equal

pub take_out_determined : (l : List Entry) (n at : ℕ) (l₁ l₂ : List Entry) → l₁ ≡ taken_out n at l → l₂ ≡ taken_out n at l → l₁ ≡ l₂
take_out_determined l n at l₁ l₂ = both_equal

pub blank_determined : (l : List Entry) (n : ℕ) (l₁ l₂ : List Entry) → l₁ ≡ blanked n l → l₂ ≡ blanked n l → l₁ ≡ l₂
blank_determined l n l₁ l₂ = both_equal
