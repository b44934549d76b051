-- Building sets and rows.
use Rattle.std.specs.Prelude.{cond, ◌&&◌, List, [], ◌∷◌, ℕ, ◌-◌, ◌^◌, ◌/◌, leb}
use Rattle.std.specs.Int.Bits.{bit_or}
use Rattle.meaning.specs.Sets.{mem}

-- the set of position p alone, "bit p - 1"; positions are 1 to 64
unfoldable pub single : ℕ → ℕ
single p = cond (leb 1 p && leb p 64) (2 ^ (p - 1)) 0

-- "every last position .. is followed by every first position": f joined into each row whose bit is in l
unfoldable pub linked : List ℕ → ℕ → ℕ → List ℕ
linked [] l f = []
linked (r ∷ rs) l f = cond (mem 0 l) (bit_or r f) r ∷ linked rs (l / 2) f
