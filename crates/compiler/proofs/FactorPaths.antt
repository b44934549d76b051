-- The ways through the reader of factors, as the program has them: u is the first token, which it reads.
use mathlib.Core.Path.{◌≡◌, refl, sym, ap, subst, ◌∙◌}
use mathlib.Core.Bool.{false}
use mathlib.Core.List.{List}
use Prim.Native.Nat.{ℕ, ◌+◌, ◌-◌, ◌≤◌, ◌<◌}
use native.Mathlib.Omega.{arith}
use lib.ListN.{length, take, drop}
use Rattle.text.specs.Tokens.{next_token}
use Rattle.text.specs.declared.tokens.Token.TheVariants.{Open, Name as Named}
use Rattle.text.specs.declared.tokens.Read.{Read}
use Rattle.text.proofs.Reading.{start_within_used, used_within_text, name_reaches}
use Rattle.table.specs.declared.cells.Table.{Table}
use Rattle.parts.specs.Parts.{placed}
use Rattle.std.specs.Prelude.{Result, Ok}
use Rattle.text.specs.declared.faults.Fault.{Fault}
use Rattle.parts.specs.declared.joining.Part.{Part}
use Rattle.parts.proofs.NameParts.{refused_by}
use Rattle.compiler.specs.Reading.{begins, StarryRead, FactorRead, ExpressionRead, ends_expression, closed, halted, unfit}
use Rattle.compiler.specs.Reading.{Seen}
use borrow.Author.Tests.{ne_eqb}
use Rattle.compiler.proofs.Starry.{starry_refused}
use Rattle.compiler.proofs.Tails.{slice, slice_size}
use Rattle.compiler.proofs.Endings.{moves}
use Rattle.compiler.proofs.Factors.{name_at, factor_other, factor_deep, factor_limit, factor_name}
use Rattle.compiler.proofs.Parentheses.{factor_open, closed_left}

-- what is refused is not closed
closed_refused : (s : List ℕ) (e : Seen) → (e.number ≡ 0 → ⊥) → closed s e ≡ e
unfolding closed
closed_refused s e some = rw (ne_eqb _ _ some) refl

module _ (s : List ℕ) (u : Read) (told : u ≡ next_token s) where
  pub start_fits : u.start ≤ length s
  start_fits = rw told (omega (arith, start_within_used s, used_within_text s))

  pub used_fits : u.used ≤ length s
  used_fits = rw told (used_within_text s)

  pub name_fits : (m : ℕ) → u.token ≡ Named m → u.start + m ≤ length s
  name_fits m e =
      let reach = (name_reaches s m (ap (λ (v : Read). v.token) (sym told) ∙ e)).reach in
      rw told (omega (arith, reach, used_within_text s))

  pub open_used : u.token ≡ Open → 0 < u.used
  open_used e =
      let less = moves s Open (ap (λ (v : Read). v.token) (sym told) ∙ e) refl in
      rw told (omega (arith, less))

  module _ (d : ℕ) (t : Table) (r : Seen) where
    pub reads_other : begins u.token ≡ false → r ≡ halted (unfit u.token) (length s - u.start) → FactorRead s d t r
    reads_other =
        subst (λ (v : Read). begins v.token ≡ false → r ≡ halted (unfit v.token) (length s - v.start) → FactorRead s d
        t r) (sym told)
        (factor_other s d t r)

    pub reads_deep : u.token ≡ Open → 16 ≤ d → r ≡ halted 5 (length s - u.start) → FactorRead s d t r
    reads_deep =
        subst (λ (v : Read). v.token ≡ Open → 16 ≤ d → r ≡ halted 5 (length s - v.start) → FactorRead s d t r) (sym told)
        (factor_deep s d t r)

    -- the bytes from the token's start on, up to its end
    name_slice : (m : ℕ) → take (u.start + m - u.start) (drop u.start s) ≡ name_at s m
    name_slice m =
        let many : u.start + m - u.start ≡ m = omega arith in
        rw (many, told) refl

    module _ (m : ℕ) (e : u.token ≡ Named m) (p : Result Part Fault) (is : p ≡ placed t (take (u.start + m - u.start) (drop u.start s))) where
      is_name : (next_token s).token ≡ Named m
      is_name = ap (λ (v : Read). v.token) (sym told) ∙ e

      is_placed : p ≡ placed t (name_at s m)
      is_placed = is ∙ ap (placed t) (name_slice m)

      pub reads_limit : (refused_by p ≡ 0 → ⊥) → r ≡ halted (refused_by p) (length s - u.start) → FactorRead s d t r
      reads_limit =
          subst (λ (v : Read). (refused_by p ≡ 0 → ⊥) → r ≡ halted (refused_by p) (length s - v.start) → FactorRead s d t r) (sym told)
          (factor_limit s d t m is_name p is_placed r)

      pub reads_name : (own : Part) → p ≡ Ok own → StarryRead s (record { number = 0; left = length s - u.used; part = own }) r
          → FactorRead s d t r
      reads_name =
          subst
          (λ (v : Read). (own : Part) → p ≡ Ok own → StarryRead s (record { number = 0; left = length s - v.used; part = own }) r
          → FactorRead s d t r)
          (sym told) (factor_name s d t m is_name p is_placed r)

    pub reads_open : u.token ≡ Open → d < 16 → (e : Seen)
        → ExpressionRead ends_expression (slice s u.used) (d + 1) t e → (q : Seen) → q ≡ closed s e → StarryRead s q r → FactorRead s d t r
    reads_open =
        subst
        (λ (v : Read).
        v.token ≡ Open → d < 16 → (e : Seen) → ExpressionRead ends_expression (slice s v.used) (d + 1) t e → (q : Seen)
        → q ≡ closed s e → StarryRead s q r → FactorRead s d t r)
        (sym told)
        (λ is_open shallow e inner q is_closed starry. factor_open s d t is_open shallow e inner q r is_closed starry)

  -- the expression inside, and what is closed behind it, lie within s
  pub inside_fits : (d : ℕ) (t : Table) (e : Seen) → ExpressionRead ends_expression (slice s u.used) d t e → e.left ≤ length s
  inside_fits d t e inner = omega (arith, inner.within, slice_size s u.used)

  pub closed_fits : (d : ℕ) (t : Table) (e q : Seen) → ExpressionRead ends_expression (slice s u.used) d t e → q ≡ closed s
      e → q.left ≤ length s
  closed_fits d t e q inner is = omega (arith, inside_fits d t e inner, closed_left s e, ap (λ (x : Seen). x.left) is)

  -- a refusal inside is a refusal of the factor
  pub reads_inside : (d : ℕ) (t : Table) → u.token ≡ Open → d < 16 → (e : Seen)
      → ExpressionRead ends_expression (slice s u.used) (d + 1) t e → (e.number ≡ 0 → ⊥) → FactorRead s d t e
  reads_inside d t is_open shallow e inner some =
      reads_open d t e is_open shallow e inner e (sym (closed_refused s e some)) (starry_refused s e some)
