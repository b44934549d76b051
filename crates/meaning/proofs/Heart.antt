-- The heart: a walk through positions spells a history exactly if the history begins a repetition; so does what a table of
-- the position rules permits, and the set that it keeps is then not empty. A history is followed name by name through the
-- rests (`Onward`), and since every rest can be completed, each walk is the beginning of a word.
use mathlib.Core.Path.{refl}
use mathlib.Core.Logic.{◌≢◌, inl, inr, ⊎_elim}
use mathlib.Core.List.{List, [], ◌∷◌, ◌++◌, cons≢nil, head-eq_of_cons-eq, tail-eq_of_cons-eq, append-ne-nil_of_right_ne-nil}
use Prim.Native.Nat.{ℕ, ◌+◌}
use native.Mathlib.Omega.{arith}
use lib.ListN.{get_or}
use Rattle.meaning.specs.Names.{Name}
use Rattle.meaning.specs.Words.{Expr, Word, Begins}
use Rattle.meaning.specs.Words.Expr.{name, seq, choice, star}
use Rattle.meaning.specs.Words.Repeated.{none}
use Rattle.meaning.specs.Sets.{In}
use Rattle.meaning.specs.Positions.{size, first, follows, positions_of, row, rows, start, permission}
use Rattle.meaning.specs.Following.{Walk}
use Rattle.meaning.specs.Promises.{WalkBegins, SetBegins, PermitsBegins}
use Rattle.meaning.proofs.SetLaws.{member_not_none}
use Rattle.meaning.proofs.WordLaws.{repeated_once, some_word}
use Rattle.meaning.proofs.Rests.{Rest, Inside, which_part, positions_inside}
use Rattle.meaning.proofs.Onward.{Goes, word_starts, starts_word, rest_continues, continues_rest}
use Rattle.meaning.proofs.RowLaws.{row_at_told, row_cells}
use Rattle.meaning.proofs.Walks.{permits_walk, walk_permits, kept_permits, permits_kept}

-- every rest can be completed
pub some_rest : (e : Expr) (lo p : ℕ) → Inside lo (size e) p → (w : List Name) × Rest e lo p w
unfolding Rest size
some_rest (name n) lo p i = ([], (omega arith, refl))
some_rest (seq a b) lo p i =
    ⊎_elim
    (λ l.
    let r = some_rest a lo p l in
    let v = some_word b in
    (r.0 ++ v.0 ∷ v.1, inl (r.0, v.0 ∷ v.1, r.1, v.2, refl)))
    (λ l. let r = some_rest b (lo + size a) p l in (r.0, inr r.1))
    (which_part lo (size a) (size b) p i)
some_rest (choice a b) lo p i =
    ⊎_elim
    (λ l. let r = some_rest a lo p l in (r.0, inl r.1))
    (λ l. let r = some_rest b (lo + size a) p l in (r.0, inr r.1))
    (which_part lo (size a) (size b) p i)
some_rest (star a) lo p i = let r = some_rest a lo p i in (r.0 ++ [], (r.0, [], r.1, none refl, refl))

module _ (e : Expr) where
  -- what goes on with k and then h is walked through k and h, if what comes after a position is walked through h
  goes_walk : (s : ℕ) (h w : List Name) (k : Name)
      → ((p : ℕ) → Rest (star e) 0 p (h ++ w) → Walk (rows e) (permission e) (get_or (rows e) p 0) h)
      → Goes s (positions_of (star e) 0) (Rest (star e) 0) (k ∷ (h ++ w)) → Walk (rows e) (permission e) s (k ∷ h)
  unfolding Walk permission positions_of
  goes_walk s h w k walks (k', v, p, d, i, j, r) =
      (p, i, rw (head-eq_of_cons-eq d) j, walks p (rw (tail-eq_of_cons-eq d) r))

  rest_walk : (h w : List Name) (p : ℕ) → Rest (star e) 0 p (h ++ w) → Walk (rows e) (permission e) (get_or (rows e) p 0) h
  unfolding Walk
  rest_walk [] w p r = tt
  rest_walk (k ∷ h) w p r =
      ⊎_elim
      (λ c. absurd (cons≢nil c.1))
      (λ g. goes_walk (get_or (rows e) p 0) h w k (rest_walk h w) (rw (row_cells e p) g))
      (rest_continues (star e) 0 p (k ∷ (h ++ w)) r)

  begins_walk : (h : List Name) → Begins e h → Walk (rows e) (permission e) (start e) h
  unfolding Walk start first
  begins_walk [] b = tt
  begins_walk (k ∷ h) (w, d) =
      ⊎_elim
      (λ c. absurd (cons≢nil c.1))
      (goes_walk (start e) h w k (rest_walk h w))
      (word_starts (star e) 0 (k ∷ (h ++ w)) d)

  -- a walk through h after p can be completed to a rest
  walk_rest : (h : List Name) (p : ℕ) → Inside 0 (size e) p → Walk (rows e) (permission e) (get_or (rows e) p 0) h
      → (w : List Name) × Rest (star e) 0 p (h ++ w)
  unfolding Walk permission positions_of size
  walk_rest [] p i t = some_rest (star e) 0 p i
  walk_rest (k ∷ h) p i (q, l, j, t) =
      let r = walk_rest h q (positions_inside e 0 q k j) t in
      (r.0, continues_rest (star e) 0 p (k ∷ (h ++ r.0)) (inr (k, h ++ r.0, q, refl, rw (row_cells e p) at l, j, r.1)))

  walk_begins_of : (h : List Name) → Walk (rows e) (permission e) (start e) h → Begins e h
  unfolding Walk start first permission positions_of Word
  walk_begins_of [] t = ([], none refl)
  walk_begins_of (k ∷ h) (p, i, j, t) =
      let r = walk_rest h p (positions_inside e 0 p k j) t in
      (r.0, starts_word (star e) 0 (k ∷ (h ++ r.0)) (inr (k, h ++ r.0, p, refl, i, j, r.1)))

  -- after every position something follows, and something comes first
  pub row_not_empty : (p : ℕ) → Inside 0 (size e) p → row e p ≢ 0
  unfolding Rest row follows
  row_not_empty p i =
      let r = some_rest e 0 p i in
      let x = some_word e in
      ⊎_elim
      (λ c. absurd (append-ne-nil_of_right_ne-nil r.0 (λ n. cons≢nil n) c.1))
      (λ (k, v, q, d, l, j, s). member_not_none q (row e p) l)
      (rest_continues (star e) 0 p (r.0 ++ x.0 ∷ x.1) (r.0, x.0 ∷ x.1, r.1, repeated_once (Word e) (x.0 ∷ x.1) x.2, refl))

  pub start_not_empty : start e ≢ 0
  unfolding start
  start_not_empty =
      let x = some_word e in
      ⊎_elim
      (λ c. absurd (cons≢nil c.1))
      (λ (k, v, q, d, l, j, s). member_not_none q (first e 0) l)
      (word_starts e 0 (x.0 ∷ x.1) x.2)

  lively : (p : ℕ) (k : Name) → In p (permission e k) → get_or (rows e) p 0 ≢ 0
  unfolding permission
  lively p k j =
      let i = positions_inside e 0 p k j in
      rw (row_at_told e p (omega arith)) (row_not_empty p i)

pub walk_begins : WalkBegins
walk_begins e h = (walk_begins_of e h, begins_walk e h)

pub permits_begins : PermitsBegins
permits_begins e h = (
  λ t. walk_begins_of e h (permits_walk (rows e) (permission e) (start e) h t),
  λ b. walk_permits (rows e) (permission e) (start e) h (begins_walk e h b),
)

pub set_begins : SetBegins
set_begins e h = (
  λ n. (permits_begins e h).0 (kept_permits (rows e) (permission e) (start e) h n),
  λ b. permits_kept (rows e) (permission e) (lively e) (start e) h (start_not_empty e) ((permits_begins e h).1 b),
)
