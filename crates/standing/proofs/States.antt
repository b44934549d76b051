-- A record that is free and one that runs, told apart.
use mathlib.Core.Path.{◌≡◌, ap, sym}
use mathlib.Core.Bool.{Bool, true, false, false≢true}
use Prim.Native.Nat.{ℕ}
use Rattle.std.specs.Prelude.{Option, Some, None}
use Rattle.standing.specs.declared.numbers.Terminal.{Terminal}

abbrev idle : Option Terminal → Bool
idle None = true
idle (Some t) = false

pub free_not_running : {A : Type 0} (t : Terminal) → None ≡ Some t → A
free_not_running t e = absurd (false≢true (sym (ap idle e)))

abbrev runner : Option Terminal → ℕ
runner None = 64
runner (Some t) = t.0

-- who runs is one
pub same_runner : (u t : Terminal) → Some u ≡ Some t → u.0 ≡ t.0
same_runner u t e = ap runner e
