-- The rows of a table that is being built, cell by cell: linking joins a set into the rows of some positions, so an expression that is
-- read joins into each row what follows its position there. The rows of the whole are what its star leaves of zeros, since a row is
-- what follows in the repetition.
use mathlib.Core.Path.{◌≡◌, refl, sym, ap, ◌∙◌}
use mathlib.Core.Bool.{Bool, true, false, cond}
use mathlib.Core.List.{List, [], ◌∷◌}
use Prim.Native.Nat.{ℕ, zero, suc, ◌+◌, ◌≤◌, ◌<◌, ◌/◌}
use native.Mathlib.Nat.{not-suc-le-zero, le_of_suc-le-suc}
use native.Mathlib.Omega.{arith}
use lib.Bits.{bit_or, or_zero_r}
use lib.ListN.{length, get_or, replicate, length-replicate, get_or-replicate}
use lib.Seq.{ext_get_or}
use Rattle.meaning.specs.Words.{Expr}
use Rattle.meaning.specs.Words.Expr.{name, seq, choice, star}
use Rattle.meaning.specs.Sets.{mem}
use Rattle.meaning.specs.Positions.{size, first, last, follows, rows}
use Rattle.meaning.proofs.SetLaws.{union_assoc}
use Rattle.meaning.proofs.RowLaws.{length_rows, row_cells}
use Rattle.table.specs.Linking.{linked}
use Rattle.table.specs.Rules.{padded}
use Rattle.table.proofs.Padding.{length_padded, padded_at}
use Rattle.parts.specs.Progress.{rows_after}

-- linking keeps the number of rows, and joins f into the rows of l
length_linked : (rs : List ℕ) (l f : ℕ) → length (linked rs l f) ≡ length rs
unfolding linked
length_linked [] l f = refl
length_linked (r ∷ rs) l f = ap suc (length_linked rs (l / 2) f)

linked_at : (rs : List ℕ) (l f p : ℕ) → p < length rs → get_or (linked rs l f) p 0 ≡ bit_or (get_or rs p 0) (cond (mem p l) f 0)
unfolding linked mem
linked_at [] l f p h = absurd (not-suc-le-zero h)
linked_at (r ∷ rs) l f zero h = joined (mem 0 l)
  where
    joined : (t : Bool) → cond t (bit_or r f) r ≡ bit_or r (cond t f 0)
    joined true = refl
    joined false = sym (or_zero_r r)
linked_at (r ∷ rs) l f (suc p) h = linked_at rs (l / 2) f p (le_of_suc-le-suc h)

length_after : (e : Expr) (lo : ℕ) (rs : List ℕ) → length (rows_after e lo rs) ≡ length rs
unfolding rows_after
length_after (name n) lo rs = refl
length_after (seq a b) lo rs =
    length_linked (rows_after b (lo + size a) (rows_after a lo rs)) (last a lo) (first b (lo + size a))
    ∙ length_after b (lo + size a) (rows_after a lo rs)
    ∙ length_after a lo rs
length_after (choice a b) lo rs = length_after b (lo + size a) (rows_after a lo rs) ∙ length_after a lo rs
length_after (star a) lo rs = length_linked (rows_after a lo rs) (last a lo) (first a lo) ∙ length_after a lo rs

-- what an expression joins into the row of p is what follows p in it
after_at : (e : Expr) (lo : ℕ) (rs : List ℕ) (p : ℕ) → p < length rs → get_or (rows_after e lo rs) p 0 ≡ bit_or (get_or rs p 0) (follows e lo p)
unfolding rows_after follows
after_at (name n) lo rs p h = sym (or_zero_r (get_or rs p 0))
after_at (seq a b) lo rs p h =
    let before = rows_after a lo rs in
    let within : p < length before = omega (arith, length_after a lo rs) in
    let f = follows a lo p in
    let g = follows b (lo + size a) p in
    let link = cond (mem p (last a lo)) (first b (lo + size a)) 0 in
    linked_at (rows_after b (lo + size a) before) (last a lo) (first b (lo + size a)) p (omega (arith, length_after b (lo + size a) before))
    ∙ ap (λ (r : ℕ). bit_or r link)
    (after_at b (lo + size a) before p within ∙ ap (λ (r : ℕ). bit_or r g) (after_at a lo rs p h) ∙ union_assoc (get_or rs p 0) f g)
    ∙ union_assoc (get_or rs p 0) (bit_or f g) link
after_at (choice a b) lo rs p h =
    let before = rows_after a lo rs in
    let within : p < length before = omega (arith, length_after a lo rs) in
    let g = follows b (lo + size a) p in
    after_at b (lo + size a) before p within
    ∙ ap (λ (r : ℕ). bit_or r g) (after_at a lo rs p h)
    ∙ union_assoc (get_or rs p 0) (follows a lo p) g
after_at (star a) lo rs p h =
    let link = cond (mem p (last a lo)) (first a lo) 0 in
    linked_at (rows_after a lo rs) (last a lo) (first a lo) p (omega (arith, length_after a lo rs))
    ∙ ap (λ (r : ℕ). bit_or r link) (after_at a lo rs p h)
    ∙ union_assoc (get_or rs p 0) (follows a lo p) link

-- all rows are linked once more, from the last positions of the whole to its first ones: those are the rows of its star
pub rows_completed : (e : Expr) (n : ℕ) → size e ≤ n
    → linked (rows_after e 0 (replicate n 0)) (last e 0) (first e 0) ≡ padded n 0 (rows e)
unfolding rows_after
rows_completed e n h =
    let zeros : List ℕ = replicate n 0 in
    let many : length zeros ≡ n = length-replicate n 0 in
    let done = rows_after (star e) 0 zeros in
    let as_many : length done ≡ length zeros = length_after (star e) 0 zeros in
    ext_get_or 0 done (padded n 0 (rows e)) (as_many ∙ many ∙ sym (length_padded n 0 (rows e) (rw (length_rows e) h))) (λ p l.
    after_at (star e) 0 zeros p (omega arith)
    ∙ ap (λ (r : ℕ). bit_or r (follows (star e) 0 p)) (get_or-replicate n p 0 0 (omega arith))
    ∙ sym (row_cells e p)
    ∙ sym (padded_at n 0 (rows e) p))
