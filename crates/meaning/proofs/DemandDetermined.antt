-- Demand 3 leaves one line: whatever keeps it goes on, call by call, as another that keeps it was seen to. Both give the same reply to the same
-- call after the same exchanges: the same refusals are due, and else who goes is the first that is permitted, a place or a count is that of
-- the first of its own, and a list is split at its first entry of a kind in one way.
use mathlib.Core.Path.{◌≡◌, refl, sym, ap, ap₂, subst, ◌∙◌}
use mathlib.Core.List.Memᴰ
use mathlib.Core.List.{List, [], ◌∷◌, ◌++◌, append-nil, Memᴰ}
use mathlib.Core.Logic.{◌↔◌}
use mathlib.Core.Option.{Option, some}
use Prim.Native.Nat.{ℕ}
use native.Mathlib.Omega.{arith}
use lib.ListN.{length}
use lib.Seq.{append_snoc}
use Rattle.meaning.specs.Names.{Name}
use Rattle.meaning.specs.Waiting.{Entry, terminals_of}
use Rattle.meaning.specs.Calls.{Grant, Reply, AskReply, FinishReply, Exchange, call_in, refusal_of}
use Rattle.meaning.specs.Calls.Reply.{done, refused}
use Rattle.meaning.specs.Calls.Exchange.{asked, finished, withdrew}
use Rattle.meaning.specs.Heard.{Account, granted_names}
use Rattle.meaning.specs.Demand.{Asked, Handed, Examined, Finished, Withdrawn, Demand3}
use Rattle.meaning.specs.Demand.Asked.{is_granted, is_delayed}
use Rattle.meaning.specs.Demand.Handed.{longest_goes, nobody_goes}
use Rattle.meaning.specs.Demand.Examined.{up_to_the_granted, all_of_them}
use Rattle.meaning.specs.LinePromises.{Demand3Determined}
use Rattle.meaning.proofs.WaitingLaws.{stands_between}
use Rattle.meaning.proofs.OneMoreCall.{ToldTo, told, no_calls, one_more_call}

-- a list is split at its first entry that is P in one way
module _ (P : Entry → Type 0) (after after' : List Entry) {e e' : Entry} (is : P e) (is' : P e') where
  split_alike : (ahead ahead' : List Entry) → ahead ++ e ∷ after ≡ ahead' ++ e' ∷ after'
      → ((d : Entry) → Memᴰ d ahead → ¬ P d) → ((d : Entry) → Memᴰ d ahead' → ¬ P d) → (length ahead ≡ length ahead') × (e ≡ e')
  split_alike [] [] q o o' = (refl, cc)
  split_alike [] (d ∷ ahead') q o o' = absurd (o' e (Memᴰ.head (cc)) is)
  split_alike (d ∷ ahead) [] q o o' = absurd (o e' (Memᴰ.head (cc)) is')
  split_alike (d ∷ ahead) (d' ∷ ahead') q o o' =
      let (l, s) = split_alike ahead ahead' (cc) (λ c m. o c (Memᴰ.tail m)) (λ c m. o' c (Memᴰ.tail m)) in
      (omega arith, s)

-- where t is no entry's terminal, no entry is t's
none_is_own : (t : ℕ) (es : List Entry) → ¬ Memᴰ t (terminals_of es) → (d : Entry) → Memᴰ d es → ¬ (d.terminal ≡ t)
none_is_own t es h d m q = h (Memᴰ.cast (sym q) (Memᴰ.map (λ e. e.terminal) m))

examined_alike : {a : Account} {g g' : Option Grant} {n n' : ℕ} → g ≡ g' → Examined a g n → Examined a g' n' → n ≡ n'
examined_alike s (up_to_the_granted ahead after e l o q x) (up_to_the_granted ahead' after' e' l' o' q' x') =
    let same : ◌≡◌ {A = Grant} (record { terminal = e'.terminal; name = e'.name }) (record { terminal = e.terminal; name = e.name }) = cc in
    let t = ap (λ (h : Grant). h.terminal) same in
    let own' = none_is_own e.terminal ahead' (rw t at o') in
    cc (split_alike (λ d. d.terminal ≡ e.terminal) after after' refl t ahead ahead' (sym l ∙ l') (none_is_own e.terminal ahead o) own').0
examined_alike s (up_to_the_granted ahead after e l o q x) (all_of_them q' x') = cc
examined_alike s (all_of_them q x) (up_to_the_granted ahead after e l o q' x') = cc
examined_alike s (all_of_them q x) (all_of_them q' x') = cc

module _ {Permitted : List Name → Type 0} {a : Account} where
  pub asked_alike : {n : Name} {r r' : AskReply} → Asked Permitted a n r → Asked Permitted a n r' → r ≡ r'
  asked_alike (is_granted f g) (is_granted f' g') = refl
  asked_alike (is_granted f g) (is_delayed d) = absurd (d f g)
  asked_alike (is_delayed d) (is_granted f g) = absurd (d f g)
  asked_alike (is_delayed d) (is_delayed d') = refl

  handed_alike : {g g' : Option Grant} → Handed Permitted a g → Handed Permitted a g' → g ≡ g'
  handed_alike (longest_goes ahead after e l o p q) (longest_goes ahead' after' e' l' o' p' q') =
      let (n, s) = split_alike (λ d. Permitted (granted_names a ++ d.name ∷ [])) after after' p p' ahead ahead' (sym l ∙ l') o o' in
      cc
  handed_alike (longest_goes ahead after e l o p q) (nobody_goes o' q') = absurd (o' e (stands_between ahead after e l) p)
  handed_alike (nobody_goes o q) (longest_goes ahead after e l o' p q') = absurd (o e (stands_between ahead after e l) p)
  handed_alike (nobody_goes o q) (nobody_goes o' q') = cc

  -- a finish reply is its two parts
  pub finished_alike : {r r' : FinishReply} → Finished Permitted a r → Finished Permitted a r' → r ≡ r'
  finished_alike f f' =
      let g = handed_alike f.hands f'.hands in
      ap₂ (λ n o. record { examined = n; grants = o }) (examined_alike g f.counts f'.counts) g

withdrawn_alike : {a : Account} {t p p' : ℕ} → Withdrawn a t p → Withdrawn a t p' → p ≡ p'
withdrawn_alike {t} w w' =
    let listed = sym w.listed ∙ w'.listed in
    let alike = split_alike (λ e. e.terminal ≡ t) w.after w'.after w.own w'.own w.ahead w'.ahead listed in
    cc (alike (none_is_own t w.ahead w.none_ahead) (none_is_own t w'.ahead w'.none_ahead)).0

-- replies that are refused when the same is due, and are the same if both are done, are the same; S and S' say which were seen
replies_alike : {A : Type 0} {Due : ℕ → Type 0} (S S' : Reply A → Type 0) → ((v v' : A) → S (done v) → S' (done v') → v ≡ v')
    → (r r' : Reply A) → S r → S' r' → ((m : ℕ) → (refusal_of r ≡ some m) ↔ Due m) → ((m : ℕ) → (refusal_of r' ≡ some m) ↔ Due m) → r ≡ r'
replies_alike S S' same (done v) (done v') h h' d d' = ap done (same v v' h h')
replies_alike S S' same (done v) (refused m) h h' d d' = cc ((d m).1 ((d' m).0 refl))
replies_alike S S' same (refused m) (done v) h h' d d' = cc ((d' m).1 ((d m).0 refl))
replies_alike S S' same (refused m) (refused m') h h' d d' = cc ((d' m).1 ((d m).0 refl))

module _ {Seen Seen' : List Exchange → List Entry → Type 0} {Permitted : List Name → Type 0} {Known : Name → Type 0}
    (keeps : Demand3 Seen Permitted Known) (keeps' : Demand3 Seen' Permitted Known) where
  -- the same call after the same exchanges gets the same reply
  reply_alike : (xs : List Exchange) (es es' : List Entry) (x : Exchange) (r : ToldTo (call_in x))
      → Seen (xs ++ x ∷ []) es → Seen' (xs ++ told (call_in x) r ∷ []) es' → x ≡ told (call_in x) r
  reply_alike xs es es' (asked t n r) r' h h' =
      ap (asked t n)
      (replies_alike (λ s. Seen (xs ++ asked t n s ∷ []) es) (λ s. Seen' (xs ++ asked t n s ∷ []) es')
      (λ v v' k k'. asked_alike (keeps.ask_answered xs es t n v k) (keeps'.ask_answered xs es' t n v' k'))
      r r' h h' (λ m. keeps.refused_exactly xs _ es m h) (λ m. keeps'.refused_exactly xs _ es' m h'))
  reply_alike xs es es' (finished t r) r' h h' =
      ap (finished t)
      (replies_alike (λ s. Seen (xs ++ finished t s ∷ []) es) (λ s. Seen' (xs ++ finished t s ∷ []) es')
      (λ v v' k k'. finished_alike (keeps.finish_answered xs es t v k) (keeps'.finish_answered xs es' t v' k'))
      r r' h h' (λ m. keeps.refused_exactly xs _ es m h) (λ m. keeps'.refused_exactly xs _ es' m h'))
  reply_alike xs es es' (withdrew t r) r' h h' =
      ap (withdrew t)
      (replies_alike (λ s. Seen (xs ++ withdrew t s ∷ []) es) (λ s. Seen' (xs ++ withdrew t s ∷ []) es')
      (λ v v' k k'. withdrawn_alike (keeps.withdraw_answered xs es t v k) (keeps'.withdraw_answered xs es' t v' k'))
      r r' h h' (λ m. keeps.refused_exactly xs _ es m h) (λ m. keeps'.refused_exactly xs _ es' m h'))

  -- where both show ys, and the one goes on with xs, the other does
  goes_on_alike : (ys xs : List Exchange) (es es' : List Entry) → Seen (ys ++ xs) es → Seen' ys es' → (after : List Entry) × Seen' (ys ++ xs) after
  goes_on_alike ys [] es es' h h' = (es', rw append-nil h')
  goes_on_alike ys (x ∷ xs) es es' h h' =
      let k : Seen (ys ++ (x ∷ []) ++ xs) es = rw append_snoc h in
      let (before, b) = keeps.seen_before (ys ++ x ∷ []) xs es k in
      let (r, after, s) = one_more_call keeps' h' (call_in x) in
      let s' = subst (λ y. Seen' (ys ++ y ∷ []) after) (sym (reply_alike ys before after x r b s)) s in
      rw append_snoc at (goes_on_alike (ys ++ x ∷ []) xs es after k s')

  shown_by_other : (xs : List Exchange) (es : List Entry) → Seen xs es → Seen' xs es
  shown_by_other xs es h =
      let (after, s) = goes_on_alike [] xs es _ h (no_calls keeps').1 in
      subst (Seen' xs) (keeps'.entries_heard xs after s ∙ sym (keeps.entries_heard xs es h)) s

pub demand_3_determined : Demand3Determined
demand_3_determined Seen Seen' Permitted Known d d' xs es = (shown_by_other d d' xs es, shown_by_other d' d xs es)
