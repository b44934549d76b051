-- What is promised of taking an entry out. The promise is a type here; proofs/ has its proof, under the same name in small letters.
use Rattle.std.specs.Prelude.{◌≡◌, List, ℕ, suc, ◌≤◌, ◌<◌, length}
use Rattle.standing.specs.declared.entries.Entry.{Entry}
use Rattle.standing.specs.Lists.{blank_entry, taken_out}
use Rattle.standing.specs.Soundness.{entry_in}

-- "When an entry is taken out, later ones move up by one and the last used place becomes blank", place by place: of n entries in use, the
-- one at p; the length is the list's own
pub record TakenOut (n p : ℕ) (l l' : List Entry) : Type 0 where
  pub ahead : (i : ℕ) → i < p → entry_in l' i ≡ entry_in l i
  pub moved_up : (i : ℕ) → p ≤ i → suc i < n → entry_in l' i ≡ entry_in l (suc i)
  pub last_blank : (i : ℕ) → suc i ≡ n → entry_in l' i ≡ blank_entry
  pub behind : (i : ℕ) → n ≤ i → entry_in l' i ≡ entry_in l i
  pub same_length : length l' ≡ length l

abbrev pub TakenOutSays : Type 0
TakenOutSays = (n p : ℕ) (l : List Entry) → p < n → n ≤ length l → TakenOut n p l (taken_out n p l)
