-- Document 01, "Sample readings": "P marks those proved, all held by a single list of cases with a single claim about it".
use Rattle.std.specs.Prelude.{◌≡◌, ℕ, ◌+◌, ◌-◌, ◌^◌, take}
use mathlib.Core.List.{List, [], ◌∷◌, map, Memᴰ}
use Prim.Native.Char.{code}
use Prim.Native.String.{String}
use Prim.Native.String as string
use Rattle.compiler.specs.Compiling.{Answer, answer, Compiles}
use Rattle.compiler.specs.Compiling.Answer.{accepted, refused}
use Rattle.compiler.specs.declared.replies.Compiled.{Compiled}

-- the bytes of a text
abbrev pub bytes : String → List ℕ
bytes string.[] = []
bytes (string.◌∷◌ c s) = code c ∷ bytes s

-- a set of positions as the document writes it, numbered from 1
abbrev pub set : List ℕ → ℕ
set [] = 0
set (p ∷ ps) = 2 ^ (p - 1) + set ps

-- what a sample shows of a compiled text
pub record Shown : Type 0 where
  pub answer_is : Answer
  pub rows_are : List ℕ
  pub start_is : ℕ
  pub mark_is : ℕ

abbrev pub shown : Compiled → Shown
shown r =
    record {
      answer_is = answer r.reply;
      rows_are = take r.table.positions r.table.rows;
      start_is = r.table.start;
      mark_is = r.table.mark;
    }

pub record Sample : Type 0 where
  pub text : String
  pub reads : Shown

-- a text that is accepted, with its rows, start set and mark
abbrev pub path : String → List (List ℕ) → List ℕ → ℕ → Sample
path t rows start mark = record { text = t; reads = record { answer_is = accepted; rows_are = map set rows; start_is = set start; mark_is = mark } }

-- a text that is refused, with the number and the place
abbrev pub no_path : String → ℕ → ℕ → Sample
no_path t n k = record { text = t; reads = record { answer_is = refused n k; rows_are = []; start_is = 0; mark_is = 0 } }

abbrev pub samples : List Sample
samples =
    path "path a b (a + b*) c end"
    ((2 ∷ []) ∷ (3 ∷ 4 ∷ 5 ∷ []) ∷ (5 ∷ []) ∷ (4 ∷ 5 ∷ []) ∷ (1 ∷ []) ∷ []) (1 ∷ []) 0
    ∷ path "path write (write (write read)* read)* read end"
    ((2 ∷ 6 ∷ []) ∷ (3 ∷ 5 ∷ []) ∷ (4 ∷ []) ∷ (3 ∷ 5 ∷ []) ∷ (2 ∷ 6 ∷ []) ∷ (1 ∷ []) ∷ []) (1 ∷ []) 0
    ∷ path "path a (b + b (a b)*) end"
    ((2 ∷ 3 ∷ []) ∷ (1 ∷ []) ∷ (1 ∷ 4 ∷ []) ∷ (5 ∷ []) ∷ (1 ∷ 4 ∷ []) ∷ []) (1 ∷ []) 0
    ∷ path "path a* end" ((1 ∷ []) ∷ []) (1 ∷ []) 1
    ∷ no_path "" 4 0
    ∷ no_path "path end" 4 5
    ∷ no_path "path a" 4 6
    ∷ no_path "path a + end" 4 9
    ∷ no_path "path (a end" 4 8
    ∷ no_path "path 3 end" 2 5
    ∷ no_path "path a end end" 4 11
    ∷ []

-- the single claim: whatever fulfils the contract of `compile` on a text of the list shows what the list says
abbrev pub SamplesReadSo : Type 0
SamplesReadSo = (s : Sample) → Memᴰ s samples → (r : Compiled) → Compiles (bytes s.text) r → shown r ≡ s.reads
