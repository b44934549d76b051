-- `orders::number_in` meets its contract. The invariant: the first bytes are digits, with this value, and the rest decides.
use mathlib.Core.Path.{◌≡◌}
use Prim.Native.Nat.{◌≤◌}
use lib.ListN.{length, drop}
use Rattle.wording.specs.Orders.{all_digits, value_from, value_of}
use Rattle.wording.proofs.Numbers.{Small}
use Rattle.wording.proofs.orders.number_in.Given as goal

abbrev pub invariant-loop-b : goal.invariant-loop-b
invariant-loop-b l =
    (length l.s ≤ 3)
    × (1 ≤ length l.s)
    × (all_digits l.s ≡ all_digits (drop l.b-index l.s))
    × (value_of l.s ≡ value_from l.value (drop l.b-index l.s))
    × Small l.b-index l.value
