-- What is printed stands in the output.
use mathlib.Core.Path.{ap, ◌∙◌}
use mathlib.Core.List.{List}
use Prim.Native.Nat.{ℕ, ◌≤◌}
use native.Mathlib.Omega.{arith}
use lib.ListN.{length}
use Rattle.wording.proofs.Putting.{put_length}
use Rattle.transcripts.specs.Transcript.{Prints}

pub printed_within : {input out : List ℕ} {n : ℕ} {after : List ℕ} → Prints input out n after → n ≤ length after
printed_within {out = out} h =
    let long = ap length h.output ∙ put_length out 0 h.said in
    omega (arith, h.printed, long)
