-- Lists of symbols of which none is refused: their fronts, one symbol more, and that a text of the grammar within the limits is one.
use mathlib.Core.Path.{◌≡◌, refl, sym, ◌∙◌, ap}
use mathlib.Core.Logic.{◌⊎◌, inl, inr, ⊎_elim}
use mathlib.Core.List.{List, [], ◌∷◌, ◌++◌, append_assoc, append-nil, head-eq_of_cons-eq, tail-eq_of_cons-eq}
use Prim.Native.Nat.{ℕ}
use native.Mathlib.Omega.{arith}
use lib.ListN.{length, length-append}
use Rattle.meaning.specs.Words.{Expr}
use Rattle.meaning.specs.Operations.{distinct}
use Rattle.meaning.proofs.OperationLaws.{added_new, distinct_snoc, length_distinct_append}
use Rattle.grammar.specs.Symbols.{Symbol}
use Rattle.grammar.specs.Symbols.Symbol.{opening, name}
use Rattle.grammar.specs.Symbols.Lexeme.{symbol}
use Rattle.grammar.specs.Grammar.{Whole}
use Rattle.grammar.specs.Refusals.{opened, closed, names_in, Within, Row, Unrefused}
use Rattle.grammar.specs.Refusals.Row.{bad_byte, long_name, no_text, too_deep, one_position_too_many, one_name_too_many}
use Rattle.grammar.specs.Machine.{names_on}
use Rattle.grammar.proofs.Counts.{opened_append, closed_append, names_append, names_after}

pub unrefused_nothing : Unrefused []
unrefused_nothing u v t n e row = omega (arith, ap length e, length-append u (t ∷ v))

pub unrefused_front : (u v : List Symbol) → Unrefused (u ++ v) → Unrefused u
unrefused_front u v h a b t n e = h a (b ++ v) t n (rw e (append_assoc a (t ∷ b) v))

-- a place in a list with one more at its end is that end, or a place in the list
last_or_earlier : {A : Type 0} (w u v : List A) (x y : A) → w ++ x ∷ [] ≡ u ++ y ∷ v
    → ((w ≡ u) × (x ≡ y)) ⊎ ((r : List A) × (w ≡ u ++ y ∷ r))
last_or_earlier [] [] v x y e = inl (refl, head-eq_of_cons-eq e)
last_or_earlier [] (b ∷ u) v x y e = absurd (omega (arith, ap length e, length-append u (y ∷ v)))
last_or_earlier (a ∷ w) [] v x y e = inr (w, rw (head-eq_of_cons-eq e))
last_or_earlier (a ∷ w) (b ∷ u) v x y e =
    ⊎_elim (λ (p, q). inl (rw (head-eq_of_cons-eq e, p), q)) (λ (r, p). inr (r, rw (head-eq_of_cons-eq e, p)))
    (last_or_earlier w u v x y (tail-eq_of_cons-eq e))

pub unrefused_snoc : (w : List Symbol) (t : Symbol) → Unrefused w → ((n : ℕ) → ¬ Row w (symbol t) n) → Unrefused (w ++ t ∷ [])
unrefused_snoc w t h last u v t' n e row =
    ⊎_elim (λ (p, q). last n (rw (p, q) row)) (λ (r, p). h u r t' n p row) (last_or_earlier w u v t t' e)

within_front : (u v : List Symbol) → Within (u ++ v) → Within u
within_front u v h =
    record {
      depth = λ a b e. h.depth a (b ++ v) (rw e (append_assoc a b v));
      positions = omega (arith, h.positions, ap length (names_append u v), length-append (names_in u) (names_in v));
      names =
          omega (arith, length_distinct_append (names_in u) (names_in v), rw (names_append u v) at h.names);
    }

-- no row refuses the last symbol of a text within the limits with which some text of the grammar starts
fits_row : (u v : List Symbol) (e : Expr) (t : Symbol) → Whole (u ++ t ∷ [] ++ v) e → Within (u ++ t ∷ []) → (n : ℕ) → ¬ Row u (symbol t) n
unfolding opened closed names_on
fits_row u v e t whole within n (bad_byte q) = let z : ◌≡◌ {A = ℕ} 0 1 = cc in omega arith
fits_row u v e t whole within n (long_name q) = let z : ◌≡◌ {A = ℕ} 0 1 = cc in omega arith
fits_row u v e t whole within n (no_text t' q stops) = let same : t ≡ t' = cc in stops v e (rw same at whole)
fits_row u v e t whole within n (too_deep q h) =
    let same : t ≡ opening = cc in
    let deep = within.depth (u ++ t ∷ []) [] (sym (append-nil (u ++ t ∷ []))) in
    omega (arith, rw (opened_append u (t ∷ []), closed_append u (t ∷ []), same) at deep)
fits_row u v e t whole within n (one_position_too_many m q h) =
    let same : t ≡ name m = cc in
    omega (arith, rw (names_after u t, same, length-append) at within.positions)
fits_row u v e t whole within n (one_name_too_many m q new h) =
    let same : t ≡ name m = cc in
    omega (arith, rw (names_after u t, same, distinct_snoc, added_new (distinct (names_in u)) m new, length-append) at within.names)

-- none of the symbols of a text of the grammar within the limits is refused
pub fits_unrefused : (w : List Symbol) (e : Expr) → Whole w e → Within w → Unrefused w
fits_unrefused w e whole within u v t n q =
    let regrouped : w ≡ u ++ t ∷ [] ++ v = q ∙ sym (append_assoc u (t ∷ []) v) in
    fits_row u v e t (rw regrouped at whole) (within_front (u ++ t ∷ []) v (rw regrouped at within)) n
