-- A part that grows: a sequence by factors, a sum by sequences. Both are read alike, so this is said once, of any two kinds of parts,
-- the one that grows and the one that it grows by.
use mathlib.Core.Path.{◌≡◌, sym, ap, ap₂, subst, ◌∙◌}
use mathlib.Core.Bool.{Bool, true}
use mathlib.Core.List.{List, ◌++◌}
use mathlib.Core.Logic.{inl, inr}
use Prim.Native.Nat.{ℕ, ◌-◌, ◌≤◌}
use native.Mathlib.Omega.{arith}
use lib.ListN.{length, drop, length-drop}
use Rattle.meaning.specs.Names.{Name}
use Rattle.meaning.specs.Words.{Expr, names}
use Rattle.text.specs.Tokens.{next_token}
use Rattle.text.specs.declared.tokens.Token.{Token}
use Rattle.text.specs.declared.tokens.Read.{Read}
use Rattle.grammar.specs.Machine.{Left, State}
use Rattle.table.specs.declared.cells.Table.{Table}
use Rattle.parts.specs.Progress.{noted, Fine, part_of, rows_after}
use Rattle.parts.proofs.Laws.{part_behind}
use Rattle.compiler.specs.Reading.{Tail, Goes, Stops, ReadsAs, PartRead, EitherWay, verdict, behind}
use Rattle.compiler.specs.Reading.{Seen}
use Rattle.compiler.proofs.Tails.{slice, slice_drops, tail_drop}
use Rattle.compiler.proofs.Endings.{behind_part}
use Rattle.compiler.proofs.Joining.{table_so_far}

-- the kind that grows
module _ {A B : Type 0} (from : A → List Left → State) (to : A → B → List Left → State) (whole : B → Expr) (s : List ℕ) (d : ℕ) (t : Table) where
  -- a part of the other kind is one of this kind, where the two differ in name only
  module _ {A' B' : Type 0} (from' : A' → List Left → State) (to' : A' → B' → List Left → State) (whole' : B' → Expr)
      (first : A → A') (one : B' → B) (ends : Token → Bool) (f : Seen) (given : ReadsAs from' to' whole' ends s d t f) where
    pub starts : ((a : A) (ks : List Left) → from a ks ≡ from' (first a) ks) → ((a : A) (c : B') (ks : List Left) → to a (one c)
        ks ≡ to' (first a) c ks)
        → ((c : B') → whole (one c) ≡ whole' c) → ReadsAs from to whole ends s d t f
    starts from_First to_one whole-one =
        record { within = given.within; fewer = given.fewer; outcome = λ ns rs same fine. by ns rs (given.outcome ns rs same fine) }
      where
        by : (ns : List Name) (rs : List ℕ)
            → EitherWay f ((c : B') × PartRead s f ends ns rs (whole' c) × ((a : A') → Goes s f.left d (from' a) ns (to' a
            c) (ns ++ names (whole' c))))
            ((a : A') → Stops s f d (from' a) ns)
            → EitherWay f ((b : B) × PartRead s f ends ns rs (whole b) × ((a : A) → Goes s f.left d (from a) ns (to a b)
            (ns ++ names (whole b))))
            ((a : A) → Stops s f d (from a) ns)
        by ns rs (inl (z, (c, read, goes))) =
            inl (
              z,
              (
                one c,
                subst (PartRead s f ends ns rs) (sym (whole-one c)) read,
                λ a text ks h k.
                    ap (λ (st : State). verdict text (length s) st ns) (from_First a ks) ∙ goes (first a) text ks h k
                    ∙ ap₂ (λ (st : State) (e : Expr). verdict text f.left st (ns ++ names e)) (sym (to_one a c ks)) (sym (whole-one c)),
              ),
            )
        by ns rs (inr (n, stops)) =
            inr (n, λ a text ks h k. ap (λ (st : State). verdict text (length s) st ns) (from_First a ks) ∙ stops (first a) text ks h k)

  -- q was read so far
  module _ (ends : Token → Bool) (q : Seen) (given : ReadsAs from to whole ends s d t q) (z : q.number ≡ 0) where
    record SoFar (ns : List Name) (rs : List ℕ) : Type 0 where
      parts : B
      read : PartRead s q ends ns rs (whole parts)
      goes : (a : A) → Goes s q.left d (from a) ns (to a parts) (ns ++ names (whole parts))

    so_far : (ns : List Name) (rs : List ℕ) → t ≡ noted ns rs → Fine ns → SoFar ns rs
    so_far ns rs same fine = by (given.outcome ns rs same fine)
      where
        by : {S : Type 0}
            → EitherWay q ((b : B) × PartRead s q ends ns rs (whole b) × ((a : A) → Goes s q.left d (from a) ns (to a b)
            (ns ++ names (whole b)))) S
            → SoFar ns rs
        by (inl (y, (b, read, goes))) = record { parts = b; read = read; goes = goes }
        by (inr (n, stops)) = absurd (n z)

    -- it ends here
    pub ends_there : (ends' : Token → Bool) → (ends (behind s q).token ≡ true → ends' (behind s q).token ≡ true) → ReadsAs
        from to whole ends' s d t q
    ends_there ends' stronger =
        record {
          within = given.within;
          fewer = given.fewer;
          outcome = λ ns rs same fine.
              let here = so_far ns rs same fine in
              let read = here.read in
              inl (z, (here.parts, record { part = read.part; fine = read.fine; ended = stronger read.ended }, here.goes));
        }

    -- it goes on at byte j: from there on, f is read. What stands around f is given by what stands around the whole and what was read
    module _ {A' B' : Type 0} (from' : A' → List Left → State) (to' : A' → B' → List Left → State) (whole' : B' → Expr)
        (turn : A → B → A') (j : ℕ) (fits : j ≤ length s) (less : length s - j ≤ q.left)
        (on : (text : List ℕ) → Tail text s → (a : A) (b : B) (ks : List Left) (ns : List Name)
        → verdict text q.left (to a b ks) ns ≡ verdict text (length s - j) (from' (turn a b) ks) ns)
        (t' : Table) (so-far-is : t' ≡ q.part.table) (f : Seen) (ends' : Token → Bool) (told : ReadsAs from' to' whole'
        ends' (slice s j) d t' f) where
      next : ReadsAs from' to' whole' ends' (drop j s) d q.part.table f
      next =
          subst (λ (v : List ℕ). ReadsAs from' to' whole' ends' v d q.part.table f) (slice_drops s j)
          (subst (λ (x : Table). ReadsAs from' to' whole' ends' (slice s j) d x f) so-far-is told)

      within_next : f.left ≤ length s - j
      within_next = omega (arith, next.within, length-drop j s)

      -- the machine comes to where f has to stand
      reaches : (ns : List Name) (rs : List ℕ) (here : SoFar ns rs) (a : A) (text : List ℕ) (ks : List Left) → Tail text s → length ks ≡ d
          → verdict text (length s) (from a ks) ns
          ≡ verdict text (length (drop j s)) (from' (turn a here.parts) ks) (ns ++ names (whole here.parts))
      reaches ns rs here a text ks h k =
          here.goes a text ks h k ∙ on text h a here.parts ks (ns ++ names (whole here.parts))
          ∙ ap (λ (i : ℕ). verdict text i (from' (turn a here.parts) ks) (ns ++ names (whole here.parts))) (sym (length-drop j s))

      next_outcome : (ns : List Name) (rs : List ℕ) (here : SoFar ns rs)
          → EitherWay f
          ((c : B') × PartRead (drop j s) f ends' (ns ++ names (whole here.parts)) (rows_after (whole here.parts)
          (length ns) rs) (whole' c)
          × ((a : A') → Goes (drop j s) f.left d (from' a) (ns ++ names (whole here.parts)) (to' a c) ((ns ++ names
          (whole here.parts)) ++ names (whole' c))))
          ((a : A') → Stops (drop j s) f d (from' a) (ns ++ names (whole here.parts)))
      next_outcome ns rs here =
          let e = whole here.parts in
          next.outcome (ns ++ names e) (rows_after e (length ns) rs) (table_so_far q e ns rs here.read.part) here.read.fine

      -- f is refused, and so is the whole
      pub next_refused : (ends'' : Token → Bool) → (f.number ≡ 0 → ⊥) → ReadsAs from to whole ends'' s d t f
      next_refused ends'' Some-number =
          record {
            within = omega (arith, within_next);
            fewer = λ y. absurd (Some-number y);
            outcome = λ ns rs same fine. let here = so_far ns rs same fine in by ns rs here (next_outcome ns rs here);
          }
        where
          by : {W X : Type 0} (ns : List Name) (rs : List ℕ) (here : SoFar ns rs)
              → EitherWay f W ((a : A') → Stops (drop j s) f d (from' a) (ns ++ names (whole here.parts)))
              → EitherWay f X ((a : A) → Stops s f d (from a) ns)
          by ns rs here (inl (y, went)) = absurd (Some-number y)
          by ns rs here (inr (n, stops)) =
              inr (
                n,
                λ a text ks h k. reaches ns rs here a text ks h k ∙ stops (turn a here.parts) text ks (tail_drop text s
                    h j fits) k,
              )

      -- and what was read is longer by it
      module _ (more : B → B' → B) (to-more : (a : A) (b : B) (c : B') (ks : List Left) → to a (more b c) ks ≡ to' (turn a b) c ks)
          (names_more : (b : B) (c : B') (ns : List Name) → ns ++ names (whole (more b c)) ≡ (ns ++ names (whole b)) ++ names
          (whole' c)) where
        pub grows : f.number ≡ 0 → (r : Seen) → r.number ≡ f.number → r.left ≡ f.left
            → ((ns : List Name) (rs : List ℕ) (b : B) (c : B') → q.part ≡ part_of (whole b) ns rs → f.part ≡ part_behind (whole
            b) (whole' c) ns rs
            → r.part ≡ part_of (whole (more b c)) ns rs)
            → ReadsAs from to whole ends' s d t r
        grows y r same_number same_left joined =
            record {
              within = omega (arith, within_next, same_left);
              fewer = λ _. omega (arith, next.fewer y, length-drop j s, same_left);
              outcome = λ ns rs same fine. let here = so_far ns rs same fine in by ns rs here (next_outcome ns rs here);
            }
          where
            by : {S X : Type 0} (ns : List Name) (rs : List ℕ) (here : SoFar ns rs)
                → EitherWay f
                ((c : B') × PartRead (drop j s) f ends' (ns ++ names (whole here.parts)) (rows_after (whole here.parts)
                (length ns) rs) (whole' c)
                × ((a : A') → Goes (drop j s) f.left d (from' a) (ns ++ names (whole here.parts)) (to' a c) ((ns ++
                names (whole here.parts)) ++ names (whole' c)))) S
                → EitherWay r ((b : B) × PartRead s r ends' ns rs (whole b) × ((a : A) → Goes s r.left d (from a) ns (to a
                b) (ns ++ names (whole b)))) X
            by ns rs here (inr (n, stops)) = absurd (n y)
            by ns rs here (inl (x, (c, read, goes))) =
                let b = here.parts in
                let all = names_more b c ns in
                let there = behind_part s j f fits within_next in
                let here-too : behind s r ≡ behind s f = ap (λ (i : ℕ). next_token (drop (length s - i) s)) same_left in
                inl (
                  same_number ∙ y,
                  (
                    more b c,
                    record {
                      part = joined ns rs b c here.read.part read.part;
                      fine = subst Fine (sym all) read.fine;
                      ended = ap (λ (v : Read). ends' v.token) (here-too ∙ sym there) ∙ read.ended;
                    },
                    λ a text ks h k.
                        reaches ns rs here a text ks h k ∙ goes (turn a b) text ks (tail_drop text s h j fits) k
                        ∙ ap₂ (verdict text f.left) (sym (to-more a b c ks)) (sym all)
                        ∙ ap (λ (i : ℕ). verdict text i (to a (more b c) ks) (ns ++ names (whole (more b c)))) (sym same_left),
                  ),
                )
