-- An expression that was read behind the first token of s, be it `path` or a `(`: what it says, said of s.
use mathlib.Core.Path.{◌≡◌, subst}
use mathlib.Core.List.{List}
use Prim.Native.Nat.{ℕ, ◌-◌, ◌≤◌}
use native.Mathlib.Omega.{arith}
use lib.ListN.{length, drop, length-drop}
use Rattle.text.specs.Tokens.{next_token}
use Rattle.text.proofs.Reading.{used_within_text}
use Rattle.table.specs.declared.cells.Table.{Table}
use Rattle.compiler.specs.Reading.{Tail, ExpressionRead, behind, ends_expression}
use Rattle.compiler.specs.Reading.{Seen}
use Rattle.compiler.proofs.Tails.{slice, slice_drops, tail_drop}
use Rattle.compiler.proofs.Endings.{behind_part}

-- what is left behind the first token
abbrev pub inside : List ℕ → List ℕ
inside s = drop (next_token s).used s

pub size_inside : (s : List ℕ) → length (inside s) ≡ length s - (next_token s).used
size_inside s = length-drop (next_token s).used s

pub tail_inside : (text s : List ℕ) → Tail text s → Tail text (inside s)
tail_inside text s h = tail_drop text s h (next_token s).used (used_within_text s)

module _ (s : List ℕ) (d : ℕ) (t : Table) (e : Seen) (told : ExpressionRead ends_expression (slice s (next_token s).used) d t e) where
  pub inner : ExpressionRead ends_expression (inside s) d t e
  inner = subst (λ (v : List ℕ). ExpressionRead ends_expression v d t e) (slice_drops s (next_token s).used) told

  pub within_all : e.left ≤ length s
  within_all = omega (arith, inner.within, size_inside s)

  pub behind_inside : behind (inside s) e ≡ behind s e
  behind_inside = behind_part s (next_token s).used e (used_within_text s) (omega (arith, inner.within, size_inside s))
