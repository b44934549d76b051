-- The entries of a list, place by place, after one is taken out and after the first ones are blanked. Each by one induction on
-- the list, in which the first place is looked at and the others are those of the rest: where the first entry is gone, the
-- second stands in its place, and it is as if the second had been taken out of the rest.
use mathlib.Core.Path.{◌≡◌, refl, ap}
use mathlib.Core.List.{List, [], ◌∷◌}
use Prim.Native.Nat.{ℕ, zero, suc, ◌-◌, ◌<◌, ◌≤◌}
use native.Mathlib.Nat.{not-suc-le-zero, le_of_suc-le-suc}
use native.Mathlib.Omega.{arith}
use lib.ListN.{length}
use Rattle.standing.specs.declared.entries.Entry.{Entry}
use Rattle.standing.specs.Lists.{blank_entry, blanked, moved_up, taken_out}
use Rattle.standing.specs.Promises.{TakenOut, TakenOutSays}
use Rattle.standing.specs.Soundness.{entry_in}

-- one place before all others: b stands there after a did, and it is a itself, or the next if a is gone
one_before : {n p q : ℕ} {l l' : List Entry} {a b : Entry} → 0 < n → p ≡ q - 1 → (0 < q → b ≡ a) → (q ≤ 0 → b ≡ entry_in l 0)
    → TakenOut n p l l' → TakenOut (suc n) q (a ∷ l) (b ∷ l')
one_before some before stays next rest =
    record {
      ahead = elim [ zero ↦ stays | suc i ↦ λ h. rest.ahead i (omega arith) ];
      moved_up = elim [ zero ↦ λ h k. next h | suc i ↦ λ h k. rest.moved_up i (omega arith) (omega arith) ];
      last_blank = elim [ zero ↦ λ e. absurd (omega arith) | suc i ↦ λ e. rest.last_blank i (omega arith) ];
      behind = elim [ zero ↦ λ h. absurd (omega arith) | suc i ↦ λ h. rest.behind i (omega arith) ];
      same_length = ap suc rest.same_length;
    }

-- the only entry in use is taken out
only_one : (e : Entry) (l : List Entry) → TakenOut 1 0 (e ∷ l) (blank_entry ∷ l)
only_one e l =
    record {
      ahead = λ i h. absurd (omega arith);
      moved_up = λ i h k. absurd (omega arith);
      last_blank = elim [ zero ↦ λ e. refl | suc i ↦ λ e. absurd (omega arith) ];
      behind = elim [ zero ↦ λ h. absurd (omega arith) | suc i ↦ λ h. refl ];
      same_length = refl;
    }

pub taken_out_says : TakenOutSays
unfolding taken_out moved_up
taken_out_says zero p l here fits = absurd (omega arith)
taken_out_says (suc n) p [] here fits = absurd (not-suc-le-zero fits)
taken_out_says (suc zero) zero (e ∷ l) here fits = only_one e l
taken_out_says (suc (suc n)) zero (e ∷ []) here fits = absurd (not-suc-le-zero (le_of_suc-le-suc fits))
taken_out_says (suc (suc n)) zero (e ∷ d ∷ l) here fits =
    one_before (omega arith) (omega arith) (λ h. absurd (omega arith)) (λ h. refl)
    (taken_out_says (suc n) zero (d ∷ l) (omega arith) (le_of_suc-le-suc fits))
taken_out_says (suc n) (suc p) (e ∷ l) here fits =
    one_before (omega arith) (omega arith) (λ h. refl) (λ h. absurd (omega arith))
    (taken_out_says n p l (le_of_suc-le-suc here) (le_of_suc-le-suc fits))

-- the first n places are blank and the others as before; the length is the list's own
pub record Blanked (n : ℕ) (l l' : List Entry) : Type 0 where
  pub first_blank : (i : ℕ) → i < n → entry_in l' i ≡ blank_entry
  pub behind : (i : ℕ) → n ≤ i → entry_in l' i ≡ entry_in l i
  pub same_length : length l' ≡ length l

pub blanked_says : (n : ℕ) (l : List Entry) → Blanked n l (blanked n l)
unfolding blanked
blanked_says zero l = record { first_blank = λ i h. absurd (omega arith); behind = λ i h. refl; same_length = refl }
blanked_says (suc n) [] = record { first_blank = λ i h. refl; behind = λ i h. refl; same_length = refl }
blanked_says (suc n) (e ∷ l) =
    let rest = blanked_says n l in
    record {
      first_blank = elim [ zero ↦ λ h. refl | suc i ↦ λ h. rest.first_blank i (le_of_suc-le-suc h) ];
      behind = elim [ zero ↦ λ h. absurd (not-suc-le-zero h) | suc i ↦ λ h. rest.behind i (le_of_suc-le-suc h) ];
      same_length = ap suc rest.same_length;
    }
