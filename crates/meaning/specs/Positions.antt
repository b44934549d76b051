-- The position rules of document 01, "The table". An expression's positions are numbered from the left; `lo` is how many
-- stand before it, so its own are the bits lo, lo + 1, ..
use Rattle.std.specs.Prelude.{Bool, true, false, cond, ◌&&◌, ◌||◌, List, [], ◌∷◌, ℕ, zero, suc, ◌+◌, ◌^◌}
use Rattle.std.specs.Int.Bits.{bit_or}
use Rattle.meaning.specs.Names.{Name, key, same}
use Rattle.meaning.specs.Words.{Expr}
use Rattle.meaning.specs.Words.Expr.{name, seq, choice, star}
use Rattle.meaning.specs.Sets.{mem}

-- "positions are the names in the text": how many
unfoldable pub size : Expr → ℕ
size (name n) = 1
size (seq a b) = size a + size b
size (choice a b) = size a + size b
size (star a) = size a

-- "A name can't be empty"; "a sequence can be empty if both factors can"; "a choice can be empty if a part can"; "a starred
-- part can be empty"
unfoldable pub can_be_empty : Expr → Bool
can_be_empty (name n) = false
can_be_empty (seq a b) = can_be_empty a && can_be_empty b
can_be_empty (choice a b) = can_be_empty a || can_be_empty b
can_be_empty (star a) = true

-- first: of a name "its own position"; of a sequence "that of the left, joined with the right's if the left can be empty"; of a
-- choice "the unions"; a starred part "keeps" it
unfoldable pub first : Expr → ℕ → ℕ
first (name n) lo = 2 ^ lo
first (seq a b) lo = cond (can_be_empty a) (bit_or (first a lo) (first b (lo + size a))) (first a lo)
first (choice a b) lo = bit_or (first a lo) (first b (lo + size a))
first (star a) lo = first a lo

-- last: of a sequence "the mirror", else as first
unfoldable pub last : Expr → ℕ → ℕ
last (name n) lo = 2 ^ lo
last (seq a b) lo = cond (can_be_empty b) (bit_or (last a lo) (last b (lo + size a))) (last b (lo + size a))
last (choice a b) lo = bit_or (last a lo) (last b (lo + size a))
last (star a) lo = last a lo

-- what follows p: in a sequence "every last position of the left is followed by every first position of the right"; in a
-- starred part "every last position is followed by every first position of it"
unfoldable pub follows : Expr → ℕ → ℕ → ℕ
follows (name n) lo p = 0
follows (seq a b) lo p =
    bit_or (bit_or (follows a lo p) (follows b (lo + size a) p)) (cond (mem p (last a lo)) (first b (lo + size a)) 0)
follows (choice a b) lo p = bit_or (follows a lo p) (follows b (lo + size a) p)
follows (star a) lo p = bit_or (follows a lo p) (cond (mem p (last a lo)) (first a lo) 0)

-- "the permission set of an operation is all its positions"
unfoldable pub positions_of : Expr → ℕ → Name → ℕ
positions_of (name n) lo k = cond (same (key n) k) (2 ^ lo) 0
positions_of (seq a b) lo k = bit_or (positions_of a lo k) (positions_of b (lo + size a) k)
positions_of (choice a b) lo k = bit_or (positions_of a lo k) (positions_of b (lo + size a) k)
positions_of (star a) lo k = positions_of a lo k

-- "the row of p is all that follows p, joined with the first set of the expression if p is in its last set"
unfoldable pub row : Expr → ℕ → ℕ
row e p = bit_or (follows e 0 p) (cond (mem p (last e 0)) (first e 0) 0)

-- the rows of n bits from p on
unfoldable pub rows_from : Expr → ℕ → ℕ → List ℕ
rows_from e zero p = []
rows_from e (suc n) p = row e p ∷ rows_from e n (suc p)

-- each position's row
unfoldable pub rows : Expr → List ℕ
rows e = rows_from e (size e) 0

-- "the start set is the expression's first set"
unfoldable pub start : Expr → ℕ
start e = first e 0

-- an operation's permission set in the whole expression
unfoldable pub permission : Expr → Name → ℕ
permission e k = positions_of e 0 k
