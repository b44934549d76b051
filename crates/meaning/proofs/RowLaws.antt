-- The rows of an expression, read as cells: the row of each bit, and zeros behind them. So each cell is what follows in the repetition, since
-- nothing follows a bit behind those of the expression.
use mathlib.Core.Path.{◌≡◌, refl, sym, ap, ◌∙◌}
use mathlib.Core.Bool.{Bool, true, false}
use mathlib.Core.Logic.{inl, ⊎_elim}
use mathlib.Core.List.{[]}
use Prim.Native.Nat.{ℕ, zero, suc, ◌+◌, ◌≤◌, ◌<◌}
use native.Mathlib.Nat.{not-suc-le-zero, le_of_suc-le-suc, zero-add, add-zero}
use native.Mathlib.Omega.{arith}
use lib.ListN.{length, get_or, get_or-eq_default}
use Rattle.meaning.specs.Words.{Expr}
use Rattle.meaning.specs.Words.Expr.{name, seq, choice, star}
use Rattle.meaning.specs.Sets.{mem}
use Rattle.meaning.specs.Positions.{size, last, follows, row, rows_from, rows}
use Rattle.meaning.proofs.SetLaws.{below_or_not}
use Rattle.meaning.proofs.Rests.{rest_inside}
use Rattle.meaning.proofs.Onward.{continues_rest}

-- the list of rows has the row of each bit
length_rows_from : (e : Expr) (n p : ℕ) → length (rows_from e n p) ≡ n
unfolding rows_from
length_rows_from e zero p = refl
length_rows_from e (suc n) p = ap suc (length_rows_from e n (suc p))

row_from : (e : Expr) (n p q : ℕ) → q < n → get_or (rows_from e n p) q 0 ≡ row e (p + q)
unfolding rows_from
row_from e zero p q h = absurd (not-suc-le-zero h)
row_from e (suc n) p zero h = ap (row e) (sym (add-zero p))
row_from e (suc n) p (suc q) h = row_from e n (suc p) q (le_of_suc-le-suc h) ∙ ap (row e) (omega arith)

pub length_rows : (e : Expr) → length (rows e) ≡ size e
unfolding rows
length_rows e = length_rows_from e (size e) 0

pub row_at_told : (e : Expr) (p : ℕ) → p < size e → get_or (rows e) p 0 ≡ row e p
unfolding rows
row_at_told e p h = row_from e (size e) 0 p h ∙ ap (row e) (zero-add p)

-- behind its own bits an expression has no last position
last_behind : (e : Expr) (lo p : ℕ) → lo + size e ≤ p → mem p (last e lo) ≡ false
last_behind e lo p h = go (mem p (last e lo)) refl
  where
    go : (t : Bool) → mem p (last e lo) ≡ t → t ≡ false
    go true is_last = absurd (omega (arith, rest_inside e lo p [] (continues_rest e lo p [] (inl (is_last, refl)))))
    go false is_last = refl

-- and nothing follows there
follows_behind : (e : Expr) (lo p : ℕ) → lo + size e ≤ p → follows e lo p ≡ 0
unfolding follows size
follows_behind (name n) lo p h = refl
follows_behind (seq a b) lo p h =
    rw (follows_behind a lo p (omega arith), follows_behind b (lo + size a) p (omega arith), last_behind a lo p (omega arith))
follows_behind (choice a b) lo p h = rw (follows_behind a lo p (omega arith), follows_behind b (lo + size a) p (omega arith))
follows_behind (star a) lo p h = rw (follows_behind a lo p h, last_behind a lo p h)

-- so the rows, read as cells with zeros behind them, are what follows in the repetition
pub row_cells : (e : Expr) (p : ℕ) → get_or (rows e) p 0 ≡ follows (star e) 0 p
unfolding row follows size
row_cells e p =
    ⊎_elim
    (row_at_told e p)
    (λ l. get_or-eq_default (rows e) 0 {n = p} (rw (length_rows e) l) ∙ sym (follows_behind (star e) 0 p (omega arith)))
    (below_or_not p (size e))
