-- The position rules are right, part by part: a word of e is empty or starts at a first position and goes on with a rest after
-- it; a rest after p is empty or goes on at a position that follows p. Both exactly, by induction on e; bits keep the parts of
-- e apart.
use mathlib.Core.Path.{◌≡◌, refl, sym, ap, ◌∙◌}
use mathlib.Core.Logic.{◌⊎◌, inl, inr, ⊎_elim}
use mathlib.Core.Bool.{Bool, true, false≢true, and-eq-true_iff}
use mathlib.Core.List.{List, [], ◌∷◌, ◌++◌, cons≢nil}
use Prim.Native.Nat.{ℕ, ◌+◌, ◌^◌}
use lib.Bits.{bit_or}
use Rattle.meaning.specs.Names.{Name, key, same}
use Rattle.meaning.specs.Words.{Expr, Word}
use Rattle.meaning.specs.Words.Expr.{name, seq, choice, star}
use Rattle.meaning.specs.Words.Repeated.{none, more}
use Rattle.meaning.specs.Sets.{mem, In}
use Rattle.meaning.specs.Positions.{size, can_be_empty, first, last, follows, positions_of}
use Rattle.meaning.proofs.NameLaws.{same_equal, same_self}
use Rattle.meaning.proofs.SetLaws.{none_in, in_single, in_union, in_cond, either_true}
use Rattle.meaning.proofs.WordLaws.{repeated_opens}
use Rattle.meaning.proofs.Rests.{Rest, Inside, apart, in_first_seq, in_last_seq, in_follows_seq, in_follows_star}
use Rattle.meaning.proofs.Rests.{first_inside, follows_inside, positions_inside, rest_inside}

-- w goes on with a name at a bit of s, and a rest after it
abbrev pub Goes : ℕ → (Name → ℕ) → (ℕ → List Name → Type 0) → List Name → Type 0
Goes s pos R w = (k : Name) × (v : List Name) × (p : ℕ) × (w ≡ k ∷ v) × In p s × In p (pos k) × R p v

-- w is empty, where t allows that, or goes on
abbrev Onward : Bool → ℕ → (Name → ℕ) → (ℕ → List Name → Type 0) → List Name → Type 0
Onward t s pos R w = ((t ≡ true) × (w ≡ [])) ⊎ Goes s pos R w

abbrev Starts : Expr → ℕ → List Name → Type 0
Starts e lo w = Onward (can_be_empty e) (first e lo) (positions_of e lo) (Rest e lo) w

abbrev Continues : Expr → ℕ → ℕ → List Name → Type 0
Continues e lo p w = Onward (mem p (last e lo)) (follows e lo p) (positions_of e lo) (Rest e lo) w

-- the front of w, and what comes after its first name, may be put in another way
front : (v : List Name) {w u u' : List Name} → w ≡ u ++ v → u ≡ u' → w ≡ u' ++ v
front v e d = e ∙ ap (λ (l : List Name). l ++ v) d

onto : {w v v' : List Name} {k : Name} → w ≡ k ∷ v → v ≡ v' → w ≡ k ∷ v'
onto {k = k} e d = e ∙ ap (λ (l : List Name). k ∷ l) d

-- of two cases, the one whose bit is one of the left part; of the right part
left_only : {A B : Type 0} (lo m n p : ℕ) → Inside lo m p → (B → Inside (lo + m) n p) → A ⊎ B → A
left_only lo m n p i f (inl a) = a
left_only lo m n p i f (inr b) = apart lo m n p i (f b)

right_only : {A B : Type 0} (lo m n p : ℕ) → Inside (lo + m) n p → (A → Inside lo m p) → A ⊎ B → B
right_only lo m n p i f (inl a) = apart lo m n p (f a) i
right_only lo m n p i f (inr b) = b

-- the positions of a name in a sequence or a choice
module _ (a b : Expr) (lo p : ℕ) (k : Name) where
  in_left : In p (positions_of a lo k) → In p (bit_or (positions_of a lo k) (positions_of b (lo + size a) k))
  in_left h = (in_union p (positions_of a lo k) (positions_of b (lo + size a) k)).1 (inl h)

  in_right : In p (positions_of b (lo + size a) k) → In p (bit_or (positions_of a lo k) (positions_of b (lo + size a) k))
  in_right h = (in_union p (positions_of a lo k) (positions_of b (lo + size a) k)).1 (inr h)

  out_left : Inside lo (size a) p → In p (bit_or (positions_of a lo k) (positions_of b (lo + size a) k)) → In p (positions_of a lo k)
  out_left i h =
      left_only lo (size a) (size b) p i (positions_inside b (lo + size a) p k)
      ((in_union p (positions_of a lo k) (positions_of b (lo + size a) k)).0 h)

  out_right : Inside (lo + size a) (size b) p → In p (bit_or (positions_of a lo k) (positions_of b (lo + size a) k)) → In p (positions_of b (lo + size a) k)
  out_right i h =
      right_only lo (size a) (size b) p i (positions_inside a lo p k)
      ((in_union p (positions_of a lo k) (positions_of b (lo + size a) k)).0 h)

-- a word is empty or starts at a first position
pub word_starts : (e : Expr) (lo : ℕ) (w : List Name) → Word e w → Starts e lo w
unfolding Word Rest can_be_empty first positions_of
word_starts (name n) lo w e =
    let own = (in_single lo lo).1 refl in
    inr (key n, [], lo, e, own, (in_cond (same (key n) (key n)) lo (2 ^ lo)).1 (same_self (key n), own), (refl, refl))
word_starts (seq a b) lo w (u, v, wa, wb, e) =
    ⊎_elim
    (λ (ta, eu). ⊎_elim
    (λ (tb, ev). inl ((and-eq-true_iff (can_be_empty a) (can_be_empty b)).1 (ta, tb), front v e eu ∙ ev))
    (λ (k, v', p, ev, i, j, r).
    inr (k, v', p, front v e eu ∙ ev, (in_first_seq a b lo p).1 (inr (ta, i)), in_right a b lo p k j, inr r))
    (word_starts b (lo + size a) v wb))
    (λ (k, u', p, eu, i, j, r).
    inr (k, u' ++ v, p, front v e eu, (in_first_seq a b lo p).1 (inl i), in_left a b lo p k j, inl (u', v, r, wb, refl)))
    (word_starts a lo u wa)
word_starts (choice a b) lo w (inl wa) =
    ⊎_elim
    (λ (t, e). inl ((either_true (can_be_empty a) (can_be_empty b)).1 (inl t), e))
    (λ (k, v, p, e, i, j, r). inr (k, v, p, e, (in_union p (first a lo) (first b (lo + size a))).1 (inl i), in_left a b lo p k j, inl r))
    (word_starts a lo w wa)
word_starts (choice a b) lo w (inr wb) =
    ⊎_elim
    (λ (t, e). inl ((either_true (can_be_empty a) (can_be_empty b)).1 (inr t), e))
    (λ (k, v, p, e, i, j, r). inr (k, v, p, e, (in_union p (first a lo) (first b (lo + size a))).1 (inr i), in_right a b lo p k j, inr r))
    (word_starts b (lo + size a) w wb)
word_starts (star a) lo w h =
    ⊎_elim
    (λ e. inl (refl, e))
    (λ (k, x, v, wa, rep, e). ⊎_elim
    (λ (t, d). absurd (cons≢nil d))
    (λ (k', x', p, d, i, j, r). inr (k', x' ++ v, p, front v e d, i, j, (x', v, r, rep, refl)))
    (word_starts a lo (k ∷ x) wa))
    (repeated_opens (Word a) h)

-- and what starts so is a word
pub starts_word : (e : Expr) (lo : ℕ) (w : List Name) → Starts e lo w → Word e w
unfolding Word Rest can_be_empty first positions_of
starts_word (name n) lo w (inl (t, e)) = absurd (false≢true t)
starts_word (name n) lo w (inr (k, v, p, e, i, j, r)) =
    onto e r.1 ∙ ap (λ (m : Name). m ∷ []) (sym (same_equal (key n) k ((in_cond (same (key n) k) p (2 ^ lo)).0 j).0))
starts_word (seq a b) lo w (inl (t, e)) =
    let c = (and-eq-true_iff (can_be_empty a) (can_be_empty b)).0 t in
    ([], [], starts_word a lo [] (inl (c.0, refl)), starts_word b (lo + size a) [] (inl (c.1, refl)), e)
starts_word (seq a b) lo w (inr (k, v, p, e, i, j, inl (u, v', ra, wb, d))) =
    let here = rest_inside a lo p u ra in
    let ia = left_only lo (size a) (size b) p here (λ c. first_inside b (lo + size a) p c.1) ((in_first_seq a b lo p).0 i) in
    (k ∷ u, v', starts_word a lo (k ∷ u) (inr (k, u, p, refl, ia, out_left a b lo p k here j, ra)), wb, onto e d)
starts_word (seq a b) lo w (inr (k, v, p, e, i, j, inr rb)) =
    let here = rest_inside b (lo + size a) p v rb in
    let ib = right_only lo (size a) (size b) p here (first_inside a lo p) ((in_first_seq a b lo p).0 i) in (
      [],
      k ∷ v,
      starts_word a lo [] (inl (ib.0, refl)),
      starts_word b (lo + size a) (k ∷ v) (inr (k, v, p, refl, ib.1, out_right a b lo p k here j, rb)),
      e,
    )
starts_word (choice a b) lo w (inl (t, e)) =
    ⊎_elim
    (λ ta. inl (starts_word a lo w (inl (ta, e))))
    (λ tb. inr (starts_word b (lo + size a) w (inl (tb, e))))
    ((either_true (can_be_empty a) (can_be_empty b)).0 t)
starts_word (choice a b) lo w (inr (k, v, p, e, i, j, inl ra)) =
    let here = rest_inside a lo p v ra in
    let ia = left_only lo (size a) (size b) p here (first_inside b (lo + size a) p) ((in_union p (first a lo) (first b (lo + size a))).0 i) in
    inl (starts_word a lo w (inr (k, v, p, e, ia, out_left a b lo p k here j, ra)))
starts_word (choice a b) lo w (inr (k, v, p, e, i, j, inr rb)) =
    let here = rest_inside b (lo + size a) p v rb in
    let ib = right_only lo (size a) (size b) p here (first_inside a lo p) ((in_union p (first a lo) (first b (lo + size a))).0 i) in
    inr (starts_word b (lo + size a) w (inr (k, v, p, e, ib, out_right a b lo p k here j, rb)))
starts_word (star a) lo w (inl (t, e)) = none e
starts_word (star a) lo w (inr (k, v, p, e, i, j, (u, v', ra, rep, d))) =
    more (k ∷ u) v' (starts_word a lo (k ∷ u) (inr (k, u, p, refl, i, j, ra))) rep (onto e d)

-- a rest is empty, after a last position, or goes on at a position that follows
pub rest_continues : (e : Expr) (lo p : ℕ) (w : List Name) → Rest e lo p w → Continues e lo p w
unfolding Word Rest first last follows positions_of
rest_continues (name n) lo p w (i, e) = inl ((in_single p lo).1 i, e)
rest_continues (seq a b) lo p w (inl (u, v, ra, wb, e)) =
    ⊎_elim
    (λ (ta, eu). ⊎_elim
    (λ (tb, ev). inl ((in_last_seq a b lo p).1 (inl (tb, ta)), front v e eu ∙ ev))
    (λ (k, v', q, ev, i, j, r).
    inr (k, v', q, front v e eu ∙ ev, (in_follows_seq a b lo p q).1 (inr (inr (ta, i))), in_right a b lo q k j, inr r))
    (word_starts b (lo + size a) v wb))
    (λ (k, u', q, eu, i, j, r).
    inr (k, u' ++ v, q, front v e eu, (in_follows_seq a b lo p q).1 (inl i), in_left a b lo q k j, inl (u', v, r, wb, refl)))
    (rest_continues a lo p u ra)
rest_continues (seq a b) lo p w (inr rb) =
    ⊎_elim
    (λ (tb, e). inl ((in_last_seq a b lo p).1 (inr tb), e))
    (λ (k, v, q, e, i, j, r). inr (k, v, q, e, (in_follows_seq a b lo p q).1 (inr (inl i)), in_right a b lo q k j, inr r))
    (rest_continues b (lo + size a) p w rb)
rest_continues (choice a b) lo p w (inl ra) =
    ⊎_elim
    (λ (t, e). inl ((in_union p (last a lo) (last b (lo + size a))).1 (inl t), e))
    (λ (k, v, q, e, i, j, r).
    inr (k, v, q, e, (in_union q (follows a lo p) (follows b (lo + size a) p)).1 (inl i), in_left a b lo q k j, inl r))
    (rest_continues a lo p w ra)
rest_continues (choice a b) lo p w (inr rb) =
    ⊎_elim
    (λ (t, e). inl ((in_union p (last a lo) (last b (lo + size a))).1 (inr t), e))
    (λ (k, v, q, e, i, j, r).
    inr (k, v, q, e, (in_union q (follows a lo p) (follows b (lo + size a) p)).1 (inr i), in_right a b lo q k j, inr r))
    (rest_continues b (lo + size a) p w rb)
rest_continues (star a) lo p w (u, v, ra, rep, e) =
    ⊎_elim
    (λ (ta, eu). ⊎_elim
    (λ (t, ev). inl (ta, front v e eu ∙ ev))
    (λ (k, v', q, ev, i, j, r). inr (k, v', q, front v e eu ∙ ev, (in_follows_star a lo p q).1 (inr (ta, i)), j, r))
    (word_starts (star a) lo v rep))
    (λ (k, u', q, eu, i, j, r). inr (k, u' ++ v, q, front v e eu, (in_follows_star a lo p q).1 (inl i), j, (u', v, r, rep, refl)))
    (rest_continues a lo p u ra)

-- and what goes on so is a rest
pub continues_rest : (e : Expr) (lo p : ℕ) (w : List Name) → Continues e lo p w → Rest e lo p w
unfolding Word Rest last follows positions_of
continues_rest (name n) lo p w (inl (t, e)) = ((in_single p lo).0 t, e)
continues_rest (name n) lo p w (inr (k, v, q, e, i, j, r)) = none_in q i
continues_rest (seq a b) lo p w (inl (t, e)) =
    ⊎_elim
    (λ (tb, ta). inl ([], [], continues_rest a lo p [] (inl (ta, refl)), starts_word b (lo + size a) [] (inl (tb, refl)), e))
    (λ tb. inr (continues_rest b (lo + size a) p w (inl (tb, e))))
    ((in_last_seq a b lo p).0 t)
continues_rest (seq a b) lo p w (inr (k, v, q, e, i, j, inl (u, v', ra, wb, d))) =
    let here = rest_inside a lo q u ra in
    let ia = left_only lo (size a) (size b) q here
    (⊎_elim (follows_inside b (lo + size a) p q) (λ c. first_inside b (lo + size a) q c.1)) ((in_follows_seq a b lo p q).0 i) in
    inl (k ∷ u, v', continues_rest a lo p (k ∷ u) (inr (k, u, q, refl, ia, out_left a b lo q k here j, ra)), wb, onto e d)
continues_rest (seq a b) lo p w (inr (k, v, q, e, i, j, inr rb)) =
    let here = rest_inside b (lo + size a) q v rb in
    let jb = out_right a b lo q k here j in
    ⊎_elim
    (λ ib. inr (continues_rest b (lo + size a) p w (inr (k, v, q, e, ib, jb, rb))))
    (λ (ta, ib). inl ([], w, continues_rest a lo p [] (inl (ta, refl)), starts_word b (lo + size a) w (inr (k, v, q, e, ib, jb, rb)), refl))
    (right_only lo (size a) (size b) q here (follows_inside a lo p q) ((in_follows_seq a b lo p q).0 i))
continues_rest (choice a b) lo p w (inl (t, e)) =
    ⊎_elim
    (λ ta. inl (continues_rest a lo p w (inl (ta, e))))
    (λ tb. inr (continues_rest b (lo + size a) p w (inl (tb, e))))
    ((in_union p (last a lo) (last b (lo + size a))).0 t)
continues_rest (choice a b) lo p w (inr (k, v, q, e, i, j, inl ra)) =
    let here = rest_inside a lo q v ra in
    let ia = left_only lo (size a) (size b) q here (follows_inside b (lo + size a) p q)
    ((in_union q (follows a lo p) (follows b (lo + size a) p)).0 i) in
    inl (continues_rest a lo p w (inr (k, v, q, e, ia, out_left a b lo q k here j, ra)))
continues_rest (choice a b) lo p w (inr (k, v, q, e, i, j, inr rb)) =
    let here = rest_inside b (lo + size a) q v rb in
    let ib = right_only lo (size a) (size b) q here (follows_inside a lo p q)
    ((in_union q (follows a lo p) (follows b (lo + size a) p)).0 i) in
    inr (continues_rest b (lo + size a) p w (inr (k, v, q, e, ib, out_right a b lo q k here j, rb)))
continues_rest (star a) lo p w (inl (t, e)) = ([], [], continues_rest a lo p [] (inl (t, refl)), none refl, e)
continues_rest (star a) lo p w (inr (k, v, q, e, i, j, (u, v', ra, rep, d))) =
    ⊎_elim
    (λ ia. (k ∷ u, v', continues_rest a lo p (k ∷ u) (inr (k, u, q, refl, ia, j, ra)), rep, onto e d))
    (λ (ta, ib). (
      [],
      w,
      continues_rest a lo p [] (inl (ta, refl)),
      more (k ∷ u) v' (starts_word a lo (k ∷ u) (inr (k, u, q, refl, ib, j, ra))) rep (onto e d),
      refl,
    ))
    ((in_follows_star a lo p q).0 i)
