-- Which names occur in permitted histories: each name of the expression ends one, and no other name stands in any. By induction
-- on the expression; every other part of a word is filled with some word of it.
use mathlib.Core.Path.{sym, ap}
use mathlib.Core.Logic.{inl, inr, ⊎_elim}
use mathlib.Core.List.Memᴰ
use mathlib.Core.List.{List, [], ◌∷◌, ◌++◌, map, map-append, append_assoc, Memᴰ}
use Rattle.meaning.specs.Names.{Name, key}
use Rattle.meaning.specs.Words.{Expr, Repeated, Word, Begins, names}
use Rattle.meaning.specs.Words.Expr.{name, seq, choice, star}
use Rattle.meaning.specs.Words.Repeated.{none, more}
use Rattle.meaning.specs.Promises.{EveryNameOccurs, NoOtherNameOccurs, SameBeginsSameNames}
use Rattle.meaning.proofs.WordLaws.{repeated_once, some_word}

-- each name stands in some word
name_in_word : (e : Expr) (n : Name) → Memᴰ n (names e) → (u v : List Name) × Word e (u ++ key n ∷ v)
unfolding Word names
name_in_word (name m) n i = ([], [], ap (λ (k : Name). key k ∷ []) (Memᴰ.eq_of_singleton i))
name_in_word (seq a b) n i =
    ⊎_elim
    (λ l.
    let (u, v, w) = name_in_word a n l in
    let (k, x, r) = some_word b in
    (u, v ++ k ∷ x, (u ++ key n ∷ v, k ∷ x, w, r, sym (append_assoc u (key n ∷ v) (k ∷ x)))))
    (λ l.
    let (u, v, w) = name_in_word b n l in
    let (k, x, r) = some_word a in
    (k ∷ x ++ u, v, (k ∷ x, u ++ key n ∷ v, r, w, append_assoc (k ∷ x) u (key n ∷ v))))
    (Memᴰ.append_cases (names a) i)
name_in_word (choice a b) n i =
    ⊎_elim
    (λ l. let (u, v, w) = name_in_word a n l in (u, v, inl w))
    (λ l. let (u, v, w) = name_in_word b n l in (u, v, inr w))
    (Memᴰ.append_cases (names a) i)
name_in_word (star a) n i = let (u, v, w) = name_in_word a n i in (u, v, repeated_once (Word a) (u ++ key n ∷ v) w)

pub every_name_occurs : EveryNameOccurs
unfolding Word
every_name_occurs e n i =
    let (u, v, w) = name_in_word e n i in
    (u, (v, rw (append_assoc u (key n ∷ []) v) (repeated_once (Word e) (u ++ key n ∷ v) w)))

-- what stands in a repetition stands in one of its words
in_repeated : (W : List Name → Type 0) (ks : List Name) (k : Name) → ((u : List Name) → W u → Memᴰ k u → Memᴰ k ks)
    → {w : List Name} → Repeated W w → Memᴰ k w → Memᴰ k ks
in_repeated W ks k f (none e) i = absurd (Memᴰ.not-nil (rw e at i))
in_repeated W ks k f (more u v h t e) i =
    ⊎_elim (f u h) (in_repeated W ks k f t) (Memᴰ.append_cases u (rw e at i))

-- a word has the keys of its expression's names only
in_word : (e : Expr) (w : List Name) (k : Name) → Word e w → Memᴰ k w → Memᴰ k (map key (names e))
unfolding Word names
in_word (name n) w k e i = rw e at i
in_word (seq a b) w k (u, v, wa, wb, e) i =
    rw (map-append key (names a) (names b))
    (⊎_elim
    (λ l. Memᴰ.append_left (map key (names b)) (in_word a u k wa l))
    (λ l. Memᴰ.append_right (map key (names a)) (in_word b v k wb l))
    (Memᴰ.append_cases u (rw e at i)))
in_word (choice a b) w k (inl wa) i = rw (map-append key (names a) (names b)) (Memᴰ.append_left (map key (names b)) (in_word a w k wa i))
in_word (choice a b) w k (inr wb) i = rw (map-append key (names a) (names b)) (Memᴰ.append_right (map key (names a)) (in_word b w k wb i))
in_word (star a) w k r i = in_repeated (Word a) (map key (names a)) k (λ u h j. in_word a u k h j) r i

pub no_other_name_occurs : NoOtherNameOccurs
unfolding Word
no_other_name_occurs e h k (w, r) i =
    in_repeated (Word e) (map key (names e)) k (λ u d j. in_word e u k d j) r (Memᴰ.append_left w i)

-- a key of x ends a history of x, so one of y, so it is a key of y
keys_within : (x y : Expr) → ((h : List Name) → Begins x h → Begins y h) → (k : Name)
    → Memᴰ k (map key (names x)) → Memᴰ k (map key (names y))
keys_within x y f k i =
    let (n, m, e) = Memᴰ.of_map key (names x) i in
    let (h, b) = every_name_occurs x n m in
    no_other_name_occurs y (h ++ key n ∷ []) k (f (h ++ key n ∷ []) b) (Memᴰ.append_right h (Memᴰ.head (sym e)))

pub same_begins_same_names : SameBeginsSameNames
same_begins_same_names x y f k = (keys_within x y (λ h. (f h).0) k, keys_within y x (λ h. (f h).1) k)
