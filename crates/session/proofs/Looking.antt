-- Looking through some entries, by turns: at turn i the search found so far, taken on through the entries from i on, is
-- the search taken through all of them.
use mathlib.Core.Path.{◌≡◌, refl, sym, ◌∙◌, ap}
use Prim.Native.Nat.{ℕ, suc, ◌+◌, ◌≤◌, ◌<◌}
use native.Mathlib.Numerals.{add-one}
use mathlib.Core.List.{List, [], ◌∷◌}
use lib.ListN.{length, get_or, drop, drop_of_length-le}
use lib.Seq.{drop-cons}
use Rattle.standing.specs.declared.entries.Entry.{Entry}
use Rattle.standing.specs.declared.searches.Search.{Search}
use Rattle.standing.specs.Lists.{blank_entry}
use Rattle.standing.specs.Searching.{examined, looked}

-- one entry further
looked_on : (p : ℕ) (s : Search) (e : Entry) (es : List Entry) → looked p s (e ∷ es) ≡ looked (suc p) (examined s e p) es
unfolding looked
looked_on p s e es = refl

-- no entry is left
looked_out : (p : ℕ) (s : Search) → looked p s [] ≡ s
unfolding looked
looked_out p s = refl

module _ (ys : List Entry) (search : Search) where
  -- what the loop keeps: i entries are passed, and s is found so far
  abbrev pub Sofar : ℕ → Search → Type 0
  Sofar i s = looked i s (drop i ys) ≡ looked 0 search ys

  pub goes_on : (i : ℕ) (s : Search) → i < length ys → Sofar i s → Sofar (i + 1) (examined s (get_or ys i blank_entry) i)
  goes_on i s l so =
      ap (λ (k : ℕ). looked k next (drop k ys)) (add-one i)
      ∙ sym (looked_on i s (get_or ys i blank_entry) (drop (suc i) ys))
      ∙ ap (looked i s) (sym (drop-cons ys i blank_entry l)) ∙ so
    where
      next : Search
      next = examined s (get_or ys i blank_entry) i

  pub ends_as : (i : ℕ) (s : Search) → length ys ≤ i → Sofar i s → s ≡ looked 0 search ys
  ends_as i s l so = sym (looked_out i s) ∙ ap (looked i s) (sym (drop_of_length-le ys {i = i} l)) ∙ so
