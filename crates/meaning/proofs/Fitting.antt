-- The sets of an expression fit the bits of its positions: first sets, followers and permission sets are made by unions of single
-- positions below lo + size, by induction on the expression.
use mathlib.Core.Bool.{Bool, true, false, cond}
use Prim.Native.Nat.{ℕ, ◌+◌, ◌≤◌, ◌<◌, ◌^◌}
use native.Mathlib.Omega.{arith}
use lib.Bits.{or_lt}
use lib.Pow.{pow_pos, pow-lt}
use lib.ListN.{get_or}
use Rattle.meaning.specs.Names.{Name, key, same}
use Rattle.meaning.specs.Words.{Expr}
use Rattle.meaning.specs.Words.Expr.{name, seq, choice, star}
use Rattle.meaning.specs.Sets.{mem}
use Rattle.meaning.specs.Positions.{size, can_be_empty, first, last, follows, positions_of, rows, start, permission}
use Rattle.meaning.specs.Promises.{SetsFit}
use Rattle.meaning.proofs.RowLaws.{row_cells}

cond_lt : (t : Bool) (k a b : ℕ) → a < 2 ^ k → b < 2 ^ k → cond t a b < 2 ^ k
cond_lt true k a b h l = h
cond_lt false k a b h l = l

-- below n bits from lo on
first_fits : (n : ℕ) (e : Expr) (lo : ℕ) → lo + size e ≤ n → first e lo < 2 ^ n
unfolding first size
first_fits n (name x) lo h = pow-lt (omega arith)
first_fits n (seq a b) lo h =
    let l = first_fits n a lo (omega arith) in
    cond_lt (can_be_empty a) n _ _ (or_lt n _ _ l (first_fits n b (lo + size a) (omega arith))) l
first_fits n (choice a b) lo h = or_lt n _ _ (first_fits n a lo (omega arith)) (first_fits n b (lo + size a) (omega arith))
first_fits n (star a) lo h = first_fits n a lo h

follows_fits : (n : ℕ) (e : Expr) (lo p : ℕ) → lo + size e ≤ n → follows e lo p < 2 ^ n
unfolding follows size
follows_fits n (name x) lo p h = pow_pos n
follows_fits n (seq a b) lo p h =
    or_lt n _ _
    (or_lt n _ _ (follows_fits n a lo p (omega arith)) (follows_fits n b (lo + size a) p (omega arith)))
    (cond_lt (mem p (last a lo)) n _ _ (first_fits n b (lo + size a) (omega arith)) (pow_pos n))
follows_fits n (choice a b) lo p h =
    or_lt n _ _ (follows_fits n a lo p (omega arith)) (follows_fits n b (lo + size a) p (omega arith))
follows_fits n (star a) lo p h =
    or_lt n _ _ (follows_fits n a lo p h) (cond_lt (mem p (last a lo)) n _ _ (first_fits n a lo h) (pow_pos n))

positions_fit : (n : ℕ) (e : Expr) (lo : ℕ) (k : Name) → lo + size e ≤ n → positions_of e lo k < 2 ^ n
unfolding positions_of size
positions_fit n (name x) lo k h = cond_lt (same (key x) k) n _ _ (pow-lt (omega arith)) (pow_pos n)
positions_fit n (seq a b) lo k h = or_lt n _ _ (positions_fit n a lo k (omega arith)) (positions_fit n b (lo + size a) k (omega arith))
positions_fit n (choice a b) lo k h = or_lt n _ _ (positions_fit n a lo k (omega arith)) (positions_fit n b (lo + size a) k (omega arith))
positions_fit n (star a) lo k h = positions_fit n a lo k h

row_fits : (n : ℕ) (e : Expr) (p : ℕ) → size e ≤ n → get_or (rows e) p 0 < 2 ^ n
unfolding size
row_fits n e p h = rw (row_cells e p) (follows_fits n (star e) 0 p (omega arith))

pub sets_fit : SetsFit
unfolding start permission
sets_fit n e h =
    record {
      start_fits = first_fits n e 0 (omega arith);
      rows_fit = λ p. row_fits n e p h;
      permissions_fit = λ k. positions_fit n e 0 k (omega arith);
    }
