-- The waiting list: what is done with its entries.
use Rattle.std.specs.Prelude.{Bool, cond, List, [], ◌∷◌, ℕ, zero, suc, length, set, take, Option, Some, None}
use Rattle.standing.specs.declared.searches.Waiter.{Waiter}
use Rattle.standing.specs.declared.entries.Entry.{Entry}
use Rattle.standing.specs.declared.records.Session.{Session}

-- "blank (terminal 0, operation 0)"
abbrev pub blank_entry : Entry
blank_entry = record { terminal = record { 0 = 0 }; operation = record { 0 = 0 } }

-- "The count decides what is in use"
abbrev pub in_use : Session → List Entry → List Entry
in_use s l = take s.waiting l

-- "the first 64 entries blank": here the first n
unfoldable pub blanked : ℕ → List Entry → List Entry
blanked zero l = l
blanked (suc n) [] = []
blanked (suc n) (e ∷ l) = blank_entry ∷ blanked n l

-- the place of a new entry: "the entry goes to the end of the list", so it is also "the number of entries ahead"
abbrev pub place_of : List Entry → Entry → ℕ
place_of used e = length used

-- the entry is put at place p: at the end, where no other has to move
abbrev pub put_at : ℕ → Entry → List Entry → List Entry
put_at p e l = set l p e

-- n entries move up by one, over one that is gone, and the place of the last becomes blank
unfoldable pub moved_up : ℕ → List Entry → List Entry
moved_up zero l = blank_entry ∷ l
moved_up (suc n) [] = blank_entry ∷ []
moved_up (suc n) (e ∷ l) = e ∷ moved_up n l

-- "When an entry is taken out, later ones move up by one and the last used place becomes blank": of n entries in use, the one at p
unfoldable pub taken_out : ℕ → ℕ → List Entry → List Entry
taken_out zero p l = l
taken_out (suc n) p [] = []
taken_out (suc n) zero (e ∷ l) = moved_up n l
taken_out (suc n) (suc p) (e ∷ l) = e ∷ taken_out n p l

-- what was found among the entries behind one
abbrev pub behind : Option Waiter → Option Waiter
behind None = None
behind (Some w) = Some (record { place = suc w.place; entry = w.entry })

-- the first entry that passes a test, with its place
unfoldable pub seek : (Entry → Bool) → List Entry → Option Waiter
seek test [] = None
seek test (e ∷ es) = cond (test e) (Some (record { place = 0; entry = e })) (behind (seek test es))
