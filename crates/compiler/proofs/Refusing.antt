-- The fault of a token that does not fit is that of its number, and a refusal tells it.
use Rattle.std.proofs.Common.{◌≡◌, ℕ, refl, sym, ap, ◌∙◌, Result, Err}
use Rattle.text.specs.Faults.{number_of, numbered}
use Rattle.text.specs.declared.faults.Fault.{Fault}
use Rattle.text.specs.declared.tokens.Token.{Token}
use Rattle.text.specs.declared.tokens.Token.TheVariants.{Semicolon, Plus, Star, Open, Close, Path, End, Name as Named, TextEnd, Bad, Long}
use Rattle.text.proofs.FaultNumbers.{numbered_back, fault_some}
use Rattle.compiler.specs.Reading.{unfit, fault_of, seen, halted, made, refused_at}
use Rattle.compiler.specs.declared.readers.Reading.{Reading}
use Rattle.compiler.specs.declared.readers.Halt.{Halt}

unfit_numbered : (t : Token) → number_of (numbered (unfit t)) ≡ unfit t
unfit_numbered Semicolon = refl
unfit_numbered Plus = refl
unfit_numbered Star = refl
unfit_numbered Open = refl
unfit_numbered Close = refl
unfit_numbered Path = refl
unfit_numbered End = refl
unfit_numbered (Named n) = refl
unfit_numbered TextEnd = refl
unfit_numbered Bad = refl
unfit_numbered Long = refl

-- as the readers have it: f is the fault of a token
pub halts_by : (f : Fault) (t : Token) (left : ℕ) → f ≡ fault_of t → halted (number_of f) left ≡ halted (unfit t) left
halts_by f t left is = ap (λ (n : ℕ). halted n left) (ap number_of is ∙ unfit_numbered t)

-- and as the compiler has it
pub refuses_by : (f : Fault) (t : Token) (k : ℕ) → f ≡ fault_of t → made (Err (record { fault = f; place = k })) ≡ refused_at (unfit t) k
refuses_by f t k is = ap (λ (g : Fault). made (Err (record { fault = g; place = k }))) is

pub refuses_fault : (f : Fault) (k : ℕ) → made (Err (record { fault = f; place = k })) ≡ refused_at (number_of f) k
refuses_fault f k = ap (λ (g : Fault). made (Err (record { fault = g; place = k }))) (sym (numbered_back f))

-- a reader's refusal has a number
pub halted_some : (r : Result Reading Halt) (h : Halt) → r ≡ Err h → (seen r).number ≡ 0 → ⊥
halted_some r h is z = fault_some h.fault (sym (ap (λ (x : Result Reading Halt). (seen x).number) is) ∙ z)
