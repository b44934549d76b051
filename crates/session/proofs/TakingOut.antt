-- Taking an entry out from the back: the entry in hand goes to the last place, and the entry that stood there is then in hand.
-- `out_before m n p l` is `taken_out n p l` with the entry m, and not a blank one, at the last place; one turn leaves it the same.
use mathlib.Core.Path.{◌≡◌, refl, sym, ◌∙◌, ap}
use Prim.Native.Nat.{ℕ, zero, suc, ◌-◌, ◌≤◌, ◌<◌, min}
use native.Mathlib.Nat.{le_of_suc-le-suc, not-suc-le-zero, zero-min, min-zero, suc-min-suc}
use native.Mathlib.Omega.{arith}
use mathlib.Core.List.{List, [], ◌∷◌}
use lib.ListN.{length, get_or, set}
use Rattle.standing.specs.declared.entries.Entry.{Entry}
use Rattle.standing.specs.Lists.{blank_entry, moved_up, taken_out}

-- n entries move up by one, over one that is gone, and m stands behind the last
abbrev up_before : Entry → ℕ → List Entry → List Entry
up_before m zero l = m ∷ l
up_before m (suc n) [] = m ∷ []
up_before m (suc n) (e ∷ l) = e ∷ up_before m n l

-- of n entries the one at p is taken out, and m stands at the last place
abbrev pub out_before : Entry → ℕ → ℕ → List Entry → List Entry
out_before m zero p l = l
out_before m (suc n) p [] = []
out_before m (suc n) zero (e ∷ l) = up_before m n l
out_before m (suc n) (suc p) (e ∷ l) = e ∷ out_before m n p l

-- ---- one turn
up_on : (m : Entry) (j : ℕ) (l : List Entry) → j < length l
    → up_before m (suc j) l ≡ up_before (get_or l j blank_entry) j (set l j m)
up_on m j [] h = absurd (not-suc-le-zero h)
up_on m zero (e ∷ l) h = refl
up_on m (suc j) (e ∷ l) h = ap (λ (r : List Entry). e ∷ r) (up_on m j l (le_of_suc-le-suc h))

out_on : (m : Entry) (j p : ℕ) (l : List Entry) → p < suc j → j < length l
    → out_before m (suc j) p l ≡ out_before (get_or l j blank_entry) j p (set l j m)
out_on m j p [] low h = absurd (not-suc-le-zero h)
out_on m zero zero (e ∷ l) low h = refl
out_on m (suc j) zero (e ∷ l) low h = up_on m j l (le_of_suc-le-suc h)
out_on m zero (suc p) (e ∷ l) low h = absurd (not-suc-le-zero (le_of_suc-le-suc low))
out_on m (suc j) (suc p) (e ∷ l) low h =
    ap (λ (r : List Entry). e ∷ r) (out_on m j p l (le_of_suc-le-suc low) (le_of_suc-le-suc h))

pub goes_on : (m : Entry) (i p : ℕ) (l : List Entry) → p < i → i ≤ length l
    → out_before m i p l ≡ out_before (get_or l (i - 1) blank_entry) (i - 1) p (set l (i - 1) m)
goes_on m zero p l low h = absurd (not-suc-le-zero low)
goes_on m (suc j) p l low h =
    out_on m j p l low h ∙ ap (λ (k : ℕ). out_before (get_or l k blank_entry) k p (set l k m)) (sym (less_one j))
  where
    less_one : (k : ℕ) → suc k - 1 ≡ k
    less_one k = omega arith

-- ---- the end: there is no entry at p
pub none_left : (m : Entry) (i p : ℕ) (l : List Entry) → i ≤ p → out_before m i p l ≡ l
none_left m zero p l h = refl
none_left m (suc i) p [] h = refl
none_left m (suc i) zero (e ∷ l) h = absurd (not-suc-le-zero h)
none_left m (suc i) (suc p) (e ∷ l) h = ap (λ (r : List Entry). e ∷ r) (none_left m i p l (le_of_suc-le-suc h))

-- ---- the beginning: the blank entry is in hand
up_starts : (n : ℕ) (l : List Entry) → up_before blank_entry (min n (length l)) l ≡ moved_up n l
unfolding moved_up
up_starts zero l = ap (λ (k : ℕ). up_before blank_entry k l) (zero-min (length l))
up_starts (suc n) [] = ap (λ (k : ℕ). up_before blank_entry k []) (min-zero (suc n))
up_starts (suc n) (e ∷ l) =
    ap (λ (k : ℕ). up_before blank_entry k (e ∷ l)) (suc-min-suc n (length l)) ∙ ap (λ (r : List Entry). e ∷ r) (up_starts n l)

blank_starts : (n p : ℕ) (l : List Entry) → out_before blank_entry (min n (length l)) p l ≡ taken_out n p l
unfolding taken_out
blank_starts zero p l = ap (λ (k : ℕ). out_before blank_entry k p l) (zero-min (length l))
blank_starts (suc n) p [] = ap (λ (k : ℕ). out_before blank_entry k p []) (min-zero (suc n))
blank_starts (suc n) zero (e ∷ l) = ap (λ (k : ℕ). out_before blank_entry k zero (e ∷ l)) (suc-min-suc n (length l)) ∙ up_starts n l
blank_starts (suc n) (suc p) (e ∷ l) =
    ap (λ (k : ℕ). out_before blank_entry k (suc p) (e ∷ l)) (suc-min-suc n (length l))
    ∙ ap (λ (r : List Entry). e ∷ r) (blank_starts n p l)

pub starts : (m : Entry) (i n p : ℕ) (l : List Entry) → m ≡ blank_entry → i ≡ min n (length l) → out_before m i p l ≡ taken_out n p l
starts m i n p l blank is = rw (blank, is) (blank_starts n p l)
