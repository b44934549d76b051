-- The promises of the line. What can be seen of it are the replies to some calls, and so what was heard is sound and is the line; and the
-- last of those replies is what its call is told by the line that was heard before.
use mathlib.Core.Path.{◌≡◌, refl, sym, ap, ◌∙◌}
use mathlib.Core.Bool.{Bool, true}
use mathlib.Core.List.{List, [], ◌∷◌, ◌++◌, map}
use Rattle.meaning.specs.Names.{Name, key}
use Rattle.meaning.specs.Waiting.{Entry}
use Rattle.meaning.specs.Calls.{Exchange, call_in, refusal_in}
use Rattle.meaning.specs.Line.{opening, step, talk}
use Rattle.meaning.specs.Heard.{account}
use Rattle.meaning.specs.Demand.{Demand3}
use Rattle.meaning.specs.LinePromises.{line_of, Says, line_after, IdealSeen, LineKeepsItsPromises}
use Rattle.meaning.proofs.LineRefusals.{refused_if_due}
use Rattle.meaning.proofs.HeardSteps.{Sound}
use Rattle.meaning.proofs.LineTalk.{step_tells, refused_changes_nothing, talk_goes_on, talk_calls, talk_splits, first_told}
use Rattle.meaning.proofs.LineHeard.{ask_told, finish_told, withdraw_told, calls_heard}

module _ (permitted : List Name → Bool) (known : Name → Bool) where
  -- what was seen is sound, and shows who waits
  seen_heard : {xs : List Exchange} {es : List Entry} → IdealSeen permitted known xs es → Sound permitted (account xs) × (es ≡ (account xs).waiters)
  seen_heard h = let (s, q) = calls_heard permitted known h.calls in rw (← h.replies, ← h.entries) (s, ap (λ l. l.waiting) q)

  -- what comes first was seen before
  earlier : (xs ys : List Exchange) (es : List Entry) → IdealSeen permitted known (xs ++ ys) es → (before : List Entry) × IdealSeen permitted known xs before
  earlier xs ys es h =
      let (bs, ds, p, q) = talk_splits permitted known opening h.calls xs ys h.replies in
      ((line_after permitted known bs).waiting, record { calls = bs; replies = p; entries = refl })

  -- the last call was told what the line that was heard before it tells
  last_told : (xs : List Exchange) (x : Exchange) {es : List Entry} → IdealSeen permitted known (xs ++ x ∷ []) es
      → Sound permitted (account xs) × ((step permitted known (line_of (account xs)) (call_in x)).0 ≡ x)
  last_told xs x h =
      let (bs, ds, p, q) = talk_splits permitted known opening h.calls xs (x ∷ []) h.replies in
      let (s, l) = calls_heard permitted known bs in
      rw (← p) (s, rw (← l) (first_told permitted known (line_after permitted known bs) ds x [] q))

  -- what was seen shows the calls
  seen_calls : {xs : List Exchange} {es : List Entry} (h : IdealSeen permitted known xs es) → h.calls ≡ map call_in xs
  seen_calls h = sym (talk_calls permitted known opening h.calls) ∙ ap (map call_in) h.replies

  keeps_demand_3 : permitted [] ≡ true → Demand3 (IdealSeen permitted known) (Says permitted) (Says known)
  keeps_demand_3 empty =
      record {
        all_answered = λ cs. (
          talk permitted known opening cs,
          (line_after permitted known cs).waiting,
          record { calls = cs; replies = refl; entries = refl },
          talk_calls permitted known opening cs,
        );
        answered_alike = λ xs xs' es es' h h' e. let q : h.calls ≡ h'.calls = cc (seen_calls h, seen_calls h') in (cc, cc);
        seen_before = earlier;
        refused_exactly = λ xs x es m h. let (s, e) = last_told xs x h in
            rw (ap refusal_in (sym e) ∙ step_tells permitted known _ _) (refused_if_due permitted known (account xs) s.one (call_in x) m);
        orderly = λ xs es h. let (s, q) = seen_heard h in
            record { grants_permitted = s.lawful empty; at_most_one_unfinished = s.one; nobody_permitted_waits = s.settled };
        ask_answered = λ xs es t n r h. let (s, e) = last_told xs _ h in ask_told permitted known _ s t n r e;
        finish_answered = λ xs es t r h. let (s, e) = last_told xs _ h in finish_told permitted known _ s t r e;
        withdraw_answered = λ xs es t p h. let (s, e) = last_told xs _ h in withdraw_told permitted known _ s t p e;
        entries_heard = λ xs es h. (seen_heard h).1;
        conserved = λ xs es n h. let (s, q) = seen_heard h in rw q (s.conserved (key n));
      }

pub line_keeps_its_promises : LineKeepsItsPromises
line_keeps_its_promises permitted known =
    record {
      refused_changes_nothing = refused_changes_nothing permitted known;
      talk_goes_on = talk_goes_on permitted known opening;
      line_is_heard = λ cs. (calls_heard permitted known cs).1;
      demanded = keeps_demand_3 permitted known;
    }
