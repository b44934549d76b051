-- What is promised of `compile` beside its contract (Compiling.antt). Each promise is a type here; proofs/ has a proof of each, under
-- the same name in small letters.
use Rattle.std.specs.Prelude.{◌≡◌, List, ℕ}
use Rattle.compiler.specs.Compiling.{answer, Compiles}
use Rattle.compiler.specs.Compiling.{Reply}
use Rattle.compiler.specs.declared.replies.Compiled.{Compiled}

-- the paper's number and values tell the cases of a reply apart
abbrev pub AnswerInjective : Type 0
AnswerInjective = (a b : Reply) → answer a ≡ answer b → a ≡ b

-- exactly one outcome for each text
abbrev pub CompileDetermined : Type 0
CompileDetermined = (text : List ℕ) (r r' : Compiled) → Compiles text r → Compiles text r' → r ≡ r'
