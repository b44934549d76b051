-- Every permitted history can be granted by what keeps demand 3: while nothing runs and nobody waits, terminal 0 asks for the next name, which
-- is granted, and finishes, which grants nobody, so that again nothing runs and nobody waits: by induction on the history, from its end.
use mathlib.Core.Path.{◌≡◌, refl, ap, subst, ◌∙◌}
use mathlib.Core.List.Memᴰ
use mathlib.Core.List.{List, [], ◌∷◌, ◌++◌, map-append, reverse, reverse-cons, reverse-reverse}
use mathlib.Core.Option.{none}
use Prim.Native.Nat.{ℕ, ◌≤◌}
use native.Mathlib.Omega.{arith}
use lib.ListN.{length}
use Rattle.meaning.specs.Names.{Name, key}
use Rattle.meaning.specs.Waiting.{Entry}
use Rattle.meaning.specs.Calls.{Reply, AskReply, FinishReply, Exchange}
use Rattle.meaning.specs.Calls.Call.{ask, finish}
use Rattle.meaning.specs.Calls.Reply.{done, refused}
use Rattle.meaning.specs.Calls.AskReply.{granted}
use Rattle.meaning.specs.Calls.Exchange.{asked, finished}
use Rattle.meaning.specs.Heard.{Account, granted_names, less, hear_granted, hear_finished, hear, hear_all, account}
use Rattle.meaning.specs.Demand.{Runs, Waits, Due, Demand3}
use Rattle.meaning.specs.Demand.Due.{above_63_asks, above_63_finishes, no_such_operation}
use Rattle.meaning.specs.Demand.Due.{asks_while_running, asks_while_waiting, finishes_not_running}
use Rattle.meaning.specs.Demand.Asked.{is_granted}
use Rattle.meaning.specs.Demand.Handed.{nobody_goes}
use Rattle.meaning.specs.Demand.Examined.{all_of_them}
use Rattle.meaning.specs.LinePromises.{PermittedCanBeGranted}
use Rattle.meaning.proofs.OneMoreCall.{no_calls, one_more_call}
use Rattle.meaning.proofs.DemandDetermined.{asked_alike, finished_alike}

-- what one more exchange adds to what was heard
heard_on : (a : Account) (xs : List Exchange) (x : Exchange) → hear_all a (xs ++ x ∷ []) ≡ hear (hear_all a xs) x
unfolding hear_all
heard_on a [] x = refl
heard_on a (y ∷ xs) x = heard_on (hear a y) xs x

account_on : (xs : List Exchange) (x : Exchange) → account (xs ++ x ∷ []) ≡ hear (account xs) x
unfolding account
account_on xs x = heard_on _ xs x

-- nothing is due to who asks for an operation and neither runs nor waits, nor to who runs and finishes
ask_not_due : {Known : Name → Type 0} {a : Account} {t : ℕ} {n : Name} {m : ℕ} → t ≤ 63 → Known (key n) → ¬ Runs a t → ¬ Waits a t
    → ¬ Due Known a (ask t n) m
ask_not_due b k r w (above_63_asks t n h) = omega arith
ask_not_due b k r w (no_such_operation t n h u) = u k
ask_not_due b k r w (asks_while_running t n h o q) = r q
ask_not_due b k r w (asks_while_waiting t n h o q v) = w v

finish_not_due : {Known : Name → Type 0} {a : Account} {t : ℕ} {m : ℕ} → t ≤ 63 → Runs a t → ¬ Due Known a (finish t) m
finish_not_due b r (above_63_finishes t h) = omega arith
finish_not_due b r (finishes_not_running t h q) = q r

-- h was granted, ts run, and nobody waits
record Granted (h : List Name) (ts : List ℕ) (a : Account) : Type 0 where
  names : granted_names a ≡ h
  running : a.unfinished ≡ ts
  nobody : a.waiters ≡ []

granted_more : (h : List Name) (a : Account) (n : Name) → Granted h [] a → Granted (h ++ key n ∷ []) (0 ∷ []) (hear a (asked 0 n (done granted)))
unfolding hear hear_granted
granted_more h a n g = record { names = rw (map-append, g.names); running = rw g.running; nobody = g.nobody }

granted_finished : (h : List Name) (a : Account) (x : ℕ) → Granted h (0 ∷ []) a
    → Granted h [] (hear a (finished 0 (done (record { examined = x; grants = none }))))
unfolding hear hear_finished less
granted_finished h a x g = record { names = g.names; running = rw g.running; nobody = g.nobody }

module _ {Seen : List Exchange → List Entry → Type 0} {Permitted : List Name → Type 0} {Known : Name → Type 0}
    (keeps : Demand3 Seen Permitted Known) where
  -- what terminal 0 is told while nobody waits: granted if nothing runs, and nobody's turn if it finishes
  ask_is_granted : (h : List Name) (n : Name) → Known (key n) → Permitted (h ++ key n ∷ []) → (xs : List Exchange) (es : List Entry)
      → Granted h [] (account xs) → (r : Reply AskReply) → Seen (xs ++ asked 0 n r ∷ []) es → r ≡ done granted
  ask_is_granted h n k p xs es g (done v) s = ap done (asked_alike (keeps.ask_answered xs es 0 n v s) (is_granted g.running (rw g.names p)))
  ask_is_granted h n k p xs es g (refused m) s =
      absurd (ask_not_due (omega arith) k (λ q. Memᴰ.not-nil (rw g.running at q)) (λ w. Memᴰ.not-nil (rw g.nobody at w))
      ((keeps.refused_exactly xs _ es m s).0 refl))

  finish_grants_nobody : (h : List Name) (xs : List Exchange) (es : List Entry) → Granted h (0 ∷ []) (account xs) → (r : Reply FinishReply)
      → Seen (xs ++ finished 0 r ∷ []) es → r ≡ done (record { examined = length (account xs).waiters; grants = none })
  finish_grants_nobody h xs es g (done v) s =
      ap done
      (finished_alike (keeps.finish_answered xs es 0 v s)
      (record { hands = nobody_goes (λ d m. absurd (Memᴰ.not-nil (rw g.nobody at m))) refl; counts = all_of_them refl refl }))
  finish_grants_nobody h xs es g (refused m) s =
      absurd (finish_not_due (omega arith) (rw g.running (Memᴰ.head refl)) ((keeps.refused_exactly xs _ es m s).0 refl))

  -- h can be granted, and leaves ts running and nobody waiting
  abbrev Reaches : List Name → List ℕ → Type 0
  Reaches h ts = (xs : List Exchange) × (es : List Entry) × Seen xs es × Granted h ts (account xs)

  ask_reaches : (h : List Name) (n : Name) → Known (key n) → Permitted (h ++ key n ∷ []) → Reaches h [] → Reaches (h ++ key n ∷ []) (0 ∷ [])
  ask_reaches h n k p (xs, es, s, g) =
      let (r, after, a) = one_more_call keeps s (ask 0 n) in (
        xs ++ asked 0 n (done granted) ∷ [],
        after,
        subst (λ q. Seen (xs ++ asked 0 n q ∷ []) after) (ask_is_granted h n k p xs after g r a) a,
        rw account_on (granted_more h (account xs) n g),
      )

  finish_reaches : (h : List Name) → Reaches h (0 ∷ []) → Reaches h []
  finish_reaches h (xs, es, s, g) =
      let (r, after, a) = one_more_call keeps s (finish 0) in (
        _,
        after,
        subst (λ q. Seen (xs ++ finished 0 q ∷ []) after) (finish_grants_nobody h xs after g r a) a,
        rw account_on (granted_finished h (account xs) _ g),
      )

  -- hs is the history, its end first
  all_reached : ((h : List Name) (k : Name) → Permitted (h ++ k ∷ []) → Permitted h × Known k × ((n : Name) × (key n ≡ k)))
      → (hs : List Name) → Permitted (reverse hs) → Reaches (reverse hs) []
  unfolding account hear_all
  all_reached closed [] p = let (es, s) = no_calls keeps in ([], es, s, record { names = refl; running = refl; nobody = refl })
  all_reached closed (k ∷ hs) p =
      let p' : Permitted (reverse hs ++ k ∷ []) = rw reverse-cons at p in
      let (before, known, (n, q)) = closed (reverse hs) k p' in
      rw (reverse-cons, ← q) (finish_reaches _ (ask_reaches (reverse hs) n (rw q known) (rw q p') (all_reached closed hs before)))

pub permitted_can_be_granted : PermittedCanBeGranted
permitted_can_be_granted Seen Permitted Known keeps closed h p =
    let (xs, es, s, g) = all_reached keeps closed (reverse h) (rw reverse-reverse p) in
    (xs, es, s, g.names ∙ reverse-reverse h)
