-- Names that are written as lengths and bytes, 16 bytes for each, are read back as they were: name by name, whatever lengths and bytes
-- stand behind them.
use mathlib.Core.Path.{◌≡◌, refl, ap, ◌∙◌}
use mathlib.Core.List.{List, [], ◌∷◌, ◌++◌, map, append_assoc, Memᴰ}
use Prim.Native.Nat.{ℕ, zero, suc, ◌+◌, ◌*◌, ◌-◌, ◌≤◌, ◌<◌}
use native.Mathlib.Omega.{arith}
use lib.ListN.{length, get_or, take, drop, replicate, get_or-append}
use lib.Seq.{take-append-le, drop_at, get_or-append-add}
use Rattle.meaning.specs.Names.{Name}
use Rattle.table.specs.Cells.{spellings}
use Rattle.table.specs.Rules.{padded, bytes_of}
use Rattle.table.proofs.Padding.{length_padded, padded_at, take_padded}

-- the first of the names stands in front of its 16 bytes, and the others behind those
first_spelled : (n : Name) (bs : List ℕ) → length n ≤ 16 → take (length n) (padded 16 0 n ++ bs) ≡ n
first_spelled n bs short =
    take-append-le (length n) (padded 16 0 n) bs (rw (length_padded 16 0 n short) short) ∙ take_padded 16 0 n

rest_behind : (n : Name) (bs : List ℕ) → length n ≤ 16 → drop 16 (padded 16 0 n ++ bs) ≡ bs
rest_behind n bs short = drop_at (padded 16 0 n) bs 16 (length_padded 16 0 n short)

spelled_in_front : (ds : List Name) (ls bs : List ℕ) → ((n : Name) → Memᴰ n ds → length n ≤ 16)
    → take (length ds) (spellings (map length ds ++ ls) (bytes_of ds ++ bs)) ≡ ds
unfolding spellings bytes_of
spelled_in_front [] ls bs short = refl
spelled_in_front (d ∷ ds) ls bs short =
    let fits = short d (Memᴰ.head refl) in
    rw (append_assoc (padded 16 0 d) (bytes_of ds) bs, first_spelled d (bytes_of ds ++ bs) fits, rest_behind d (bytes_of ds ++ bs) fits)
    (ap (λ (ns : List Name). d ∷ ns) (spelled_in_front ds ls bs (λ n m. short n (Memᴰ.tail m))))

pub spelled_back : (ds : List Name) → ((n : Name) → Memᴰ n ds → length n ≤ 16)
    → take (length ds) (spellings (padded 32 0 (map length ds)) (padded 512 0 (bytes_of ds))) ≡ ds
unfolding padded
spelled_back ds short =
    spelled_in_front ds (replicate (32 - length (map length ds)) 0) (replicate (512 - length (bytes_of ds)) 0) short

-- byte k of name i, and zeros behind its bytes
pub byte_spelled : (ds : List Name) (i k : ℕ) → ((n : Name) → Memᴰ n ds → length n ≤ 16) → k < 16
    → get_or (bytes_of ds) (16 * i + k) 0 ≡ get_or (get_or ds i []) k 0
unfolding bytes_of
byte_spelled [] i k short l = refl
byte_spelled (d ∷ ds) zero k short l =
    let here : 16 * 0 + k ≡ k = omega arith in
    let fits = length_padded 16 0 d (short d (Memᴰ.head refl)) in
    rw here (get_or-append (padded 16 0 d) (bytes_of ds) 0 k (rw fits l) ∙ padded_at 16 0 d k)
byte_spelled (d ∷ ds) (suc i) k short l =
    let fits = length_padded 16 0 d (short d (Memᴰ.head refl)) in
    let behind : 16 * suc i + k ≡ length (padded 16 0 d) + (16 * i + k) = omega arith in
    rw behind
    (get_or-append-add (padded 16 0 d) (bytes_of ds) (16 * i + k) 0 ∙ byte_spelled ds i k (λ n m. short n (Memᴰ.tail m)) l)
