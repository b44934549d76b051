-- The class of a byte past the table: from 128 up each test of `class_of` fails, so the byte is bad.
use mathlib.Core.Path.{◌≡◌}
use Prim.Native.Nat.{ℕ, ◌≤◌}
use native.Mathlib.Omega.{arith}
use borrow.Author.Tests.{le-leb, lt-leb, ne_eqb}
use Rattle.text.specs.Classes.{class_of}
use Rattle.text.specs.declared.classes.Class.TheVariants.{Bad}

pub high_byte_bad : (b : ℕ) → 128 ≤ b → class_of b ≡ Bad
unfolding class_of
high_byte_bad b h =
    simp (
      ne_eqb b 32 (λ e. omega arith),
      ne_eqb b 9 (λ e. omega arith),
      ne_eqb b 10 (λ e. omega arith),
      ne_eqb b 13 (λ e. omega arith),
      le-leb 65 b (omega arith),
      lt-leb b 90 (omega arith),
      le-leb 97 b (omega arith),
      lt-leb b 122 (omega arith),
      le-leb 48 b (omega arith),
      lt-leb b 57 (omega arith),
      ne_eqb b 59 (λ e. omega arith),
      ne_eqb b 43 (λ e. omega arith),
      ne_eqb b 42 (λ e. omega arith),
      ne_eqb b 40 (λ e. omega arith),
      ne_eqb b 41 (λ e. omega arith),
    )
