-- What was heard stays sound with each answer that is as promised: field by field, for each way that a call can be answered.
use mathlib.Core.Path.{◌≡◌}
use mathlib.Core.Bool.{Bool, true}
use mathlib.Core.List.{List, [], ◌∷◌, ◌++◌, map-append, cons≢nil, append-ne-nil_of_right_ne-nil}
use Prim.Native.Nat.{ℕ, ◌+◌, ◌≤◌}
use native.Mathlib.Omega.{arith}
use lib.ListN.{length}
use Rattle.meaning.specs.Names.{Name, key}
use Rattle.meaning.specs.Waiting.{terminals_of, names_of, entry_of}
use Rattle.meaning.specs.Waiting.Found.{at}
use Rattle.meaning.specs.Calls.{AskReply, FinishReply}
use Rattle.meaning.specs.Calls.Reply.{done}
use Rattle.meaning.specs.Calls.Exchange.{asked, finished, withdrew}
use Rattle.meaning.specs.Heard.{Account, granted_names, hear_granted, hear_delayed, hear_finished, hear_withdrawn, hear, count}
use Rattle.meaning.specs.LinePromises.{Says}
use Rattle.meaning.specs.Demand.{Runs, Waits, Asked, Handed, Withdrawn}
use Rattle.meaning.specs.Demand.Asked.{is_granted, is_delayed}
use Rattle.meaning.specs.Demand.Handed.{longest_goes, nobody_goes}
use Rattle.meaning.proofs.WaitingLaws.{Fails, member_around, Distinct, distinct_without, distinct_with, own_entry, without_own, fails_with}
use Rattle.meaning.proofs.HeardCounts.{count_append, count_between}
use Rattle.meaning.proofs.LineAnswers.{less_unfinished}

module _ (permitted : List Name → Bool) where
  -- what holds of all that is heard from an opening
  pub record Sound (a : Account) : Type 0 where
    pub one : length a.unfinished ≤ 1
    pub distinct : Distinct (terminals_of a.waiters)
    pub lawful : permitted [] ≡ true → permitted (granted_names a) ≡ true
    pub settled : a.unfinished ≡ [] → Fails (λ e. permitted (granted_names a ++ e.name ∷ [])) a.waiters
    pub conserved : (n : Name) → count n (names_of a.asks)
        ≡ count n (granted_names a) + count n (names_of a.withdrawals) + count n (names_of a.waiters)

  module _ (a : Account) (s : Sound a) where
    pub asked_sound : (t : ℕ) (n : Name) {r : AskReply} → ¬ Waits a t → Asked (Says permitted) a (key n) r → Sound (hear a (asked t n (done r)))
    unfolding hear hear_granted hear_delayed
    asked_sound t n w (is_granted q g) =
        record {
          one = rw q (omega arith);
          distinct = s.distinct;
          lawful = λ e. rw map-append g;
          settled = λ e. absurd (append-ne-nil_of_right_ne-nil a.unfinished (λ z. cons≢nil z) e);
          conserved = λ k. simp (map-append, count_append) (omega (arith, s.conserved k));
        }
    asked_sound t n w (is_delayed d) =
        record {
          one = s.one;
          distinct = rw map-append (distinct_with (terminals_of a.waiters) t s.distinct w);
          lawful = s.lawful;
          settled = λ e. fails_with _ a.waiters _ (s.settled e) (d e);
          conserved = λ k. simp (map-append, count_append) (omega (arith, s.conserved k));
        }

    pub finished_sound : (t : ℕ) (r : FinishReply) → Runs a t → Handed (Says permitted) a r.grants → Sound (hear a (finished t (done r)))
    unfolding hear hear_finished
    finished_sound t r m (longest_goes ahead after e l o p g) =
        rw (g, less_unfinished t a.unfinished s.one m, own_entry ahead after e l s.distinct, without_own ahead after e l)
        (record {
          one = omega arith;
          distinct = distinct_without ahead after e l s.distinct;
          lawful = λ z. rw map-append p;
          settled = λ z. absurd (cons≢nil z);
          conserved = λ k. simp (map-append, count_append) (omega (arith, s.conserved k, count_between k ahead after e l));
        })
    finished_sound t r m (nobody_goes f g) =
        rw (g, less_unfinished t a.unfinished s.one m)
        (record { one = omega arith; distinct = s.distinct; lawful = s.lawful; settled = λ z. f; conserved = s.conserved })

    pub withdrawn_sound : (t p : ℕ) → Withdrawn a t p → Sound (hear a (withdrew t (done p)))
    unfolding hear hear_withdrawn
    withdrawn_sound t p w =
        let q : entry_of t a.waiters ≡ at (length w.ahead) w.entry =
        rw (← w.own) (own_entry w.ahead w.after w.entry w.listed s.distinct) in
        rw (q, without_own w.ahead w.after w.entry w.listed)
        (record {
          one = s.one;
          distinct = distinct_without w.ahead w.after w.entry w.listed s.distinct;
          lawful = s.lawful;
          settled = λ z d k. s.settled z d (rw w.listed (member_around w.ahead w.after w.entry k));
          conserved = λ k. simp (map-append, count_append)
              (omega (arith, s.conserved k, count_between k w.ahead w.after w.entry w.listed));
        })
