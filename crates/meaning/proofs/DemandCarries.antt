-- Demand 3 does not depend on how it is said what can be seen, permitted and known: each of its parts holds of one way of saying it if it
-- holds of another that says the same, case by case.
use mathlib.Core.List.{List}
use mathlib.Core.Logic.Iff
use mathlib.Core.Logic.{◌↔◌}
use mathlib.Core.Option.{Option}
use Prim.Native.Nat.{ℕ}
use Rattle.meaning.specs.Names.{Name}
use Rattle.meaning.specs.Calls.{Call, Grant, AskReply}
use Rattle.meaning.specs.Heard.{Account}
use Rattle.meaning.specs.Demand.{Due, Asked, Handed, Orderly}
use Rattle.meaning.specs.Demand.Due.{above_63_asks, above_63_finishes, above_63_withdraws, no_such_operation}
use Rattle.meaning.specs.Demand.Due.{asks_while_running, asks_while_waiting, finishes_not_running, withdraws_not_waiting}
use Rattle.meaning.specs.Demand.Asked.{is_granted, is_delayed}
use Rattle.meaning.specs.Demand.Handed.{longest_goes, nobody_goes}
use Rattle.meaning.specs.LinePromises.{Demand3Carries}

due_carries : {Known Known' : Name → Type 0} → ((k : Name) → Known k ↔ Known' k) → {a : Account} {c : Call} {m : ℕ}
    → Due Known a c m → Due Known' a c m
due_carries k (above_63_asks t n h) = above_63_asks t n h
due_carries k (above_63_finishes t h) = above_63_finishes t h
due_carries k (above_63_withdraws t h) = above_63_withdraws t h
due_carries k (no_such_operation t n h u) = no_such_operation t n h ((Iff.not (k _)).0 u)
due_carries k (asks_while_running t n h o r) = asks_while_running t n h ((k _).0 o) r
due_carries k (asks_while_waiting t n h o r w) = asks_while_waiting t n h ((k _).0 o) r w
due_carries k (finishes_not_running t h r) = finishes_not_running t h r
due_carries k (withdraws_not_waiting t h w) = withdraws_not_waiting t h w

module _ {Permitted Permitted' : List Name → Type 0} (p : (h : List Name) → Permitted h ↔ Permitted' h) {a : Account} where
  asked_carries : {n : Name} {r : AskReply} → Asked Permitted a n r → Asked Permitted' a n r
  asked_carries (is_granted f h) = is_granted f ((p _).0 h)
  asked_carries (is_delayed d) = is_delayed (λ f. (Iff.not (p _)).0 (d f))

  handed_carries : {g : Option Grant} → Handed Permitted a g → Handed Permitted' a g
  handed_carries (longest_goes ahead after e l o h q) = longest_goes ahead after e l (λ d m. (Iff.not (p _)).0 (o d m)) ((p _).0 h) q
  handed_carries (nobody_goes o q) = nobody_goes (λ d m. (Iff.not (p _)).0 (o d m)) q

  orderly_carries : Orderly Permitted a → Orderly Permitted' a
  orderly_carries o =
      record {
        grants_permitted = (p _).0 o.grants_permitted;
        at_most_one_unfinished = o.at_most_one_unfinished;
        nobody_permitted_waits = λ f e m. (Iff.not (p _)).0 (o.nobody_permitted_waits f e m);
      }

pub demand_3_carries : Demand3Carries
demand_3_carries Seen Seen' Permitted Permitted' Known Known' s p k d =
    record {
      all_answered = λ cs. let (xs, es, h, e) = d.all_answered cs in (xs, es, (s xs es).0 h, e);
      answered_alike = λ xs xs' es es' h h' e. d.answered_alike xs xs' es es' ((s xs es).1 h) ((s xs' es').1 h') e;
      seen_before = λ xs ys es h. let (before, b) = d.seen_before xs ys es ((s _ es).1 h) in (before, (s xs before).0 b);
      refused_exactly = λ xs x es m h. Iff.trans (d.refused_exactly xs x es m ((s _ es).1 h)) (due_carries k, due_carries (λ n. Iff.symm (k n)));
      orderly = λ xs es h. orderly_carries p (d.orderly xs es ((s xs es).1 h));
      ask_answered = λ xs es t n r h. asked_carries p (d.ask_answered xs es t n r ((s _ es).1 h));
      finish_answered = λ xs es t r h. let f = d.finish_answered xs es t r ((s _ es).1 h) in
          record { hands = handed_carries p f.hands; counts = f.counts };
      withdraw_answered = λ xs es t q h. d.withdraw_answered xs es t q ((s _ es).1 h);
      entries_heard = λ xs es h. d.entries_heard xs es ((s xs es).1 h);
      conserved = λ xs es n h. d.conserved xs es n ((s xs es).1 h);
    }
