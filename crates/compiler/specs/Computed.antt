-- The one answer that fulfils the contract of `compile`, as it can be computed. Nothing here needs to be believed: that it fulfils it is
-- promised below.
use Rattle.std.specs.Prelude.{List, ℕ, Ok}
use Rattle.grammar.specs.Machine.{Verdict, judge}
use Rattle.grammar.specs.Machine.Verdict.{accepted, refused}
use Rattle.table.specs.Rules.{table_of}
use Rattle.compiler.specs.Compiling.{Compiles}
use Rattle.compiler.specs.Reading.{made, refused_at}
use Rattle.compiler.specs.declared.replies.Compiled.{Compiled}

-- what a verdict on a text comes to
abbrev pub answered : Verdict → Compiled
answered (accepted e) = made (Ok (table_of e))
answered (refused n k) = refused_at n k

unfoldable pub compiled : List ℕ → Compiled
compiled text = answered (judge text)

abbrev pub CompiledCompiles : Type 0
CompiledCompiles = (text : List ℕ) → Compiles text (compiled text)
