-- Faults and their numbers: each number is one fault's, and none is 0.
use Rattle.std.proofs.Common.{◌≡◌, refl, sym, ap, ◌∙◌, arith}
use Rattle.text.specs.Faults.{number_of, numbered}
use Rattle.text.specs.declared.faults.Fault.{Fault}
use Rattle.text.specs.declared.faults.Fault.TheVariants.{LongText, BadByte, LongName, Misplaced, OpenParentheses, Positions, Names}

pub numbered_back : (f : Fault) → numbered (number_of f) ≡ f
numbered_back LongText = refl
numbered_back BadByte = refl
numbered_back LongName = refl
numbered_back Misplaced = refl
numbered_back OpenParentheses = refl
numbered_back Positions = refl
numbered_back Names = refl

pub one_fault : (f g : Fault) → number_of f ≡ number_of g → f ≡ g
one_fault f g e = sym (numbered_back f) ∙ ap numbered e ∙ numbered_back g

pub fault_some : (f : Fault) → number_of f ≡ 0 → ⊥
fault_some LongText e = omega arith
fault_some BadByte e = omega arith
fault_some LongName e = omega arith
fault_some Misplaced e = omega arith
fault_some OpenParentheses e = omega arith
fault_some Positions e = omega arith
fault_some Names e = omega arith
