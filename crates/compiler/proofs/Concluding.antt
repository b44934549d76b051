-- What stands behind the expression of a text, and behind its `end`, as the program reads it.
use mathlib.Core.Path.{◌≡◌, refl, ap, ◌∙◌}
use mathlib.Core.Bool.{false}
use mathlib.Core.List.{List}
use Prim.Native.Nat.{ℕ, ◌+◌, ◌-◌, ◌≤◌}
use native.Mathlib.Omega.{arith}
use borrow.Author.Tests.{eq-eqb, ne_eqb}
use lib.ListN.{length}
use Rattle.text.specs.Tokens.{next_token}
use Rattle.text.specs.declared.tokens.Token.TheVariants.{End, TextEnd}
use Rattle.text.specs.declared.tokens.Read.{Read}
use Rattle.parts.specs.Parts.{completed}
use Rattle.parts.specs.declared.joining.Part.{Part}
use Rattle.table.specs.declared.cells.Table.{Table}
use Rattle.compiler.specs.Reading.{made, is_end, is_text_end, refused_at, concluded, ended, unfit}
use Rattle.compiler.specs.Reading.{Seen}
use Rattle.compiler.specs.declared.replies.Compiled.{Compiled}
use Rattle.std.specs.Prelude.{Ok}
use Rattle.compiler.proofs.Closing.{is_behind, used_behind, start_behind}
use Rattle.compiler.proofs.Tails.{slice, slice_drops, slice_size}

module _ (s : List ℕ) (k : ℕ) (p : Part) (u : Read) (told : u ≡ next_token s) where
  pub concluded_accepts : u.token ≡ TextEnd → (t : Table) → t ≡ completed p → made (Ok t) ≡ concluded s k p
  unfolding concluded
  concluded_accepts e t is = rw (is, ← told, e) refl

  pub concluded_refuses : is_text_end u.token ≡ false → (r : Compiled) → r ≡ refused_at (unfit u.token) (k + u.start) → r ≡
      concluded s k p
  unfolding concluded
  concluded_refuses e r is = rw (is, ← told, e) refl

module _ (text : List ℕ) (e : Seen) where
  pub ended_inside : (e.number ≡ 0 → ⊥) → (r : Compiled) → r ≡ refused_at e.number (length text - e.left) → r ≡ ended text e
  unfolding ended
  ended_inside Some-number r is = rw (is, ne_eqb _ _ Some-number) refl

  module _ (z : e.number ≡ 0) (u : Read) (told : u ≡ next_token (slice text (length text - e.left))) where
    pub end_fits : e.left ≤ length text → length text - e.left + u.used ≤ length text
    end_fits w = omega (arith, used_behind text e u told w)

    pub end_starts : e.left ≤ length text → length text - e.left + u.start ≤ length text
    end_starts w = omega (arith, start_behind text e u told w)

    -- all that is left, and the place where it starts, make the text
    pub rest_fits : e.left ≤ length text → length text - e.left + u.used + length (slice text (length text - e.left +
        u.used)) ≤ length text
    rest_fits w = omega (arith, used_behind text e u told w, slice_size text (length text - e.left + u.used))

    pub ended_ends : u.token ≡ End → (r : Compiled)
        → r ≡ concluded (slice text (length text - e.left + u.used)) (length text - e.left + u.used) e.part → r ≡ ended text e
    unfolding ended
    ended_ends t r is =
        is ∙ ap (λ (v : List ℕ). concluded v (length text - e.left + u.used) e.part) (slice_drops text (length text -
        e.left + u.used))
        ∙ rw (eq-eqb _ _ z, ← is_behind text e u told, t) refl

    pub ended_refuses : is_end u.token ≡ false → (r : Compiled) → r ≡ refused_at (unfit u.token) (length text - e.left +
        u.start) → r ≡ ended text e
    unfolding ended
    ended_refuses t r is = rw (is, eq-eqb _ _ z, ← is_behind text e u told, t) refl
