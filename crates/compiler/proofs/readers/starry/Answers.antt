-- `readers::starry` meets its contract: plain or starred (Starry).
use mathlib.Core.Path.{refl, ap}
use Prim.Native.Nat.{◌-◌}
use native.Mathlib.Omega.{arith}
use Rattle.parts.specs.declared.joining.Part.{Part}
use Rattle.compiler.specs.Reading.{part_read}
use Rattle.compiler.proofs.Starry.{starry_plain, starry_starred}
use Rattle.compiler.proofs.readers.starry.Goals as goal

pub returns-else-used-ne0 : goal.returns-else-used-ne0
returns-else-used-ne0 c = starry_plain _ _ _ refl c.requires c.stars-used.ensures (omega arith)

pub returns-then-used-ne0 : goal.returns-then-used-ne0
returns-then-used-ne0 c =
    starry_starred _ _ _ refl c.requires c.stars-used.ensures _ c.if-used-ne0.true
    (ap (λ (p : Part). part_read (c.args.p.now.left - c.stars-used.result) p) c.star_part-p.ensures)
