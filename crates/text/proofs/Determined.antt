-- What each public function answers is determined: two answers that both meet its contract are one, since the contract is an
-- equation with a definition.
use mathlib.Core.Path.{◌≡◌, sym, ◌∙◌}
use mathlib.Core.Bool.{Bool}
use mathlib.Core.List.{List}
use Prim.Native.Nat.{ℕ}
use Rattle.text.specs.Classes.{class_of}
use Rattle.text.specs.declared.classes.Class.{Class}
use Rattle.text.specs.Faults.{number_of}
use Rattle.text.specs.declared.faults.Fault.{Fault}
use Rattle.text.specs.Tokens.{same_name, next_token, well_formed}
use Rattle.text.specs.declared.tokens.Read.{Read}

pub both_equal : {A : Type 0} {x r r' : A} → r ≡ x → r' ≡ x → r ≡ r'
both_equal e e' = e ∙ sym e'

pub class_determined : (b : ℕ) (r r' : Class) → r ≡ class_of b → r' ≡ class_of b → r ≡ r'
class_determined b r r' = both_equal

pub number_determined : (f : Fault) (r r' : ℕ) → r ≡ number_of f → r' ≡ number_of f → r ≡ r'
number_determined f r r' = both_equal

pub same_name_determined : (m n : List ℕ) (r r' : Bool) → r ≡ same_name m n → r' ≡ same_name m n → r ≡ r'
same_name_determined m n r r' = both_equal

pub next_determined : (s : List ℕ) (r r' : Read) → r ≡ next_token s → r' ≡ next_token s → r ≡ r'
next_determined s r r' = both_equal

pub well_formed_determined : (n : List ℕ) (r r' : Bool) → r ≡ well_formed n → r' ≡ well_formed n → r ≡ r'
well_formed_determined n r r' = both_equal
