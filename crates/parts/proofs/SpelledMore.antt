-- One name more is written where the next 16 bytes begin. The bytes in front of it stay, and the zeros behind it are those of its own 16
-- bytes and then the padding of all: so the padded bytes of the names become the padded bytes of one name more.
use mathlib.Core.Path.{◌≡◌, refl, sym, ◌∙◌}
use mathlib.Core.List.{List, [], ◌∷◌, ◌++◌, append_assoc, append-nil, Memᴰ}
use Prim.Native.Nat.{ℕ, ◌+◌, ◌*◌, ◌-◌, ◌≤◌, ◌<◌}
use native.Mathlib.Omega.{arith}
use lib.ListN.{length, drop, replicate, length-append, length-replicate, replicate-append-replicate}
use lib.Seq.{take-append_seam, drop-append-add, drop_at}
use Rattle.meaning.specs.Names.{Name}
use Rattle.table.specs.Rules.{padded, bytes_of}
use Rattle.table.proofs.Padding.{length_padded}
use Rattle.parts.specs.Parts.{written}

-- 16 bytes for each name
length_bytes : (ds : List Name) → ((d : Name) → Memᴰ d ds → length d ≤ 16) → length (bytes_of ds) ≡ 16 * length ds
unfolding bytes_of
length_bytes [] shorts = refl
length_bytes (d ∷ ds) shorts =
    omega (
      arith,
      length-append (padded 16 0 d) (bytes_of ds),
      length_padded 16 0 d (shorts d (Memᴰ.head refl)),
      length_bytes ds (λ n m. shorts n (Memᴰ.tail m)),
    )

bytes_snoc : (ds : List Name) (n : Name) → bytes_of (ds ++ n ∷ []) ≡ bytes_of ds ++ padded 16 0 n
unfolding bytes_of
bytes_snoc [] n = append-nil (padded 16 0 n)
bytes_snoc (d ∷ ds) n = rw (bytes_snoc ds n) (sym (append_assoc (padded 16 0 d) (bytes_of ds) (padded 16 0 n)))

drop_copies : (j k z : ℕ) → drop j (replicate (j + k) z) ≡ replicate k z
drop_copies j k z = rw (← (replicate-append-replicate j k z)) (drop_at (replicate j z) (replicate k z) j (length-replicate j z))

-- what is written over the first zeros stands behind the list
written_behind : (bs n : List ℕ) (k : ℕ) → written (bs ++ replicate (length n + k) 0) (length bs) n ≡ bs ++ n ++ replicate k 0
unfolding written
written_behind bs n k = rw (take-append_seam, drop-append-add bs (replicate (length n + k) 0) (length n), drop_copies (length n) k 0)

-- padding twice is padding once
padded_twice : (bs n : List ℕ) (j k : ℕ) → bs ++ (n ++ replicate j 0) ++ replicate k 0 ≡ bs ++ n ++ replicate (j + k) 0
padded_twice bs n j k = rw (← (replicate-append-replicate {A = ℕ} j k 0)) (simp append_assoc)

-- n written behind the 16 bytes of each of ds is spelled as the last of one name more
pub written_name : (ds : List Name) (n : Name) → ((d : Name) → Memᴰ d ds → length d ≤ 16) → length n ≤ 16 → length ds < 32
    → written (padded 512 0 (bytes_of ds)) (16 * length ds) n ≡ padded 512 0 (bytes_of (ds ++ n ∷ []))
unfolding padded
written_name ds n shorts short few =
    let bs = bytes_of ds in
    let own = 16 - length n in
    let behind = 512 - length (bs ++ padded 16 0 n) in
    let front : length bs ≡ 16 * length ds = length_bytes ds shorts in
    let next : length (bs ++ padded 16 0 n) ≡ length bs + 16 =
    omega (arith, length-append bs (padded 16 0 n), length_padded 16 0 n short) in
    let unused : 512 - length bs ≡ length n + (own + behind) = omega arith in
    rw (bytes_snoc ds n, ← front, unused) (written_behind bs n (own + behind) ∙ sym (padded_twice bs n own behind))
