-- The token behind an expression in parentheses: a `)`, or a refusal.
use mathlib.Core.Path.{◌≡◌, refl, ap, ◌∙◌}
use mathlib.Core.Bool.{false}
use mathlib.Core.List.{List}
use Prim.Native.Nat.{ℕ, ◌-◌, ◌≤◌}
use borrow.Author.Tests.{eq-eqb}
use lib.ListN.{length}
use Rattle.text.specs.Tokens.{next_token}
use Rattle.text.specs.declared.tokens.Token.TheVariants.{Close}
use Rattle.text.specs.declared.tokens.Read.{Read}
use Rattle.compiler.specs.Reading.{behind, closed, halted, is_close, unfit}
use Rattle.compiler.specs.Reading.{Seen}
use Rattle.compiler.proofs.Endings.{behind_fits, behind_starts}
use Rattle.compiler.proofs.Tails.{slice, slice_drops}

-- u is the token behind what was read
module _ (s : List ℕ) (e : Seen) (u : Read) (told : u ≡ next_token (slice s (length s - e.left))) where
  pub is_behind : u ≡ behind s e
  is_behind = told ∙ ap next_token (slice_drops s (length s - e.left))

  pub used_behind : e.left ≤ length s → u.used ≤ e.left
  used_behind w = rw is_behind (behind_fits s e w)

  pub start_behind : e.left ≤ length s → u.start ≤ e.left
  start_behind w = rw is_behind (behind_starts s e w)

  pub closed_closes : e.number ≡ 0 → u.token ≡ Close → record { number = 0; left = e.left - u.used; part = e.part } ≡ closed s e
  unfolding closed
  closed_closes z t = rw (eq-eqb _ _ z, ← is_behind, t) refl

  pub closed_halts : (r : Seen) → e.number ≡ 0 → is_close u.token ≡ false
      → r ≡ halted (unfit u.token) (e.left - u.start) → r ≡ closed s e
  unfolding closed
  closed_halts r z t is = rw (is, eq-eqb _ _ z, ← is_behind, t) refl
