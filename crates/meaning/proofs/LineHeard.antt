-- What was heard of a line from its opening on is sound and is the line, call by call, so each call is answered as from the line that was
-- heard.
use mathlib.Core.Path.{◌≡◌, refl, ap, subst}
use mathlib.Core.Bool.{Bool}
use mathlib.Core.List.Memᴰ
use mathlib.Core.List.{List, [], ◌∷◌, ◌++◌}
use mathlib.Core.Option.{Option, some, none}
use Prim.Native.Nat.{ℕ}
use native.Mathlib.Omega.{arith}
use Rattle.meaning.specs.Names.{Name, key}
use Rattle.meaning.specs.Waiting.{entry_of}
use Rattle.meaning.specs.Calls.{Call, AskReply, FinishReply, refusal_in}
use Rattle.meaning.specs.Calls.Call.{ask, finish, withdraw}
use Rattle.meaning.specs.Calls.Reply.{done}
use Rattle.meaning.specs.Calls.Exchange.{asked, finished, withdrew}
use Rattle.meaning.specs.Line.{Line, tested, ask_step, finish_step, withdraw_step, picked, refusal, step, talk, after}
use Rattle.meaning.specs.Heard.{Account, granted_names, nothing, hear, hear_all, account, count}
use Rattle.meaning.specs.Demand.{Asked, Finished, Withdrawn}
use Rattle.meaning.specs.LinePromises.{line_of, Says, heard_of, line_after}
use Rattle.meaning.proofs.WaitingLaws.{Finds, seek_finds}
use Rattle.meaning.proofs.LineRefusals.{Tested, call_tested}
use Rattle.meaning.proofs.LineAnswers.{asking, ask_answers, finish_hands, finish_counts, finish_leaves, withdraw_answers, withdraw_leaves}
use Rattle.meaning.proofs.HeardSteps.{Sound, asked_sound, finished_sound, withdrawn_sound}
use Rattle.meaning.proofs.LineTalk.{step_tells}

module _ (permitted : List Name → Bool) (known : Name → Bool) where
  -- a is sound, and shows all of line l
  abbrev Heard : Line → Account → Type 0
  Heard l a = Sound permitted a × (l ≡ line_of a)

  picked_finds : (a : Account) → Finds (λ e. permitted (granted_names a ++ e.name ∷ [])) a.waiters (picked permitted known (line_of a))
  unfolding picked
  picked_finds a = seek_finds _ a.waiters

  module _ (a : Account) (s : Sound permitted a) where
    ask_heard : (t : ℕ) (n : Name) (o : Option ℕ) → Tested known a (ask t n) o
        → let r = tested (line_of a) o (ask_step permitted known (line_of a) (asking t n)) in Heard r.1 (hear a (asked t n r.0))
    unfolding hear
    ask_heard t n none w = let x = ask_answers permitted known a t n in (asked_sound permitted a s t n w x.0, x.1)
    ask_heard t n (some m) d = (s, refl)

    finish_heard : (t : ℕ) (o : Option ℕ) → Tested known a (finish t) o
        → let r = tested (line_of a) o (finish_step permitted known (line_of a) (picked permitted known (line_of a))) in
        Heard r.1 (hear a (finished t r.0))
    unfolding hear
    finish_heard t none m =
        let f = picked permitted known (line_of a) in (
          finished_sound permitted a s t (finish_step permitted known (line_of a) f).0 m (finish_hands permitted known a f (picked_finds a)),
          finish_leaves permitted known a t s.one s.distinct m f (picked_finds a),
        )
    finish_heard t (some k) d = (s, refl)

    withdraw_heard : (t : ℕ) (o : Option ℕ) → Tested known a (withdraw t) o
        → let r = tested (line_of a) o (withdraw_step permitted known (line_of a) (entry_of t a.waiters)) in
        Heard r.1 (hear a (withdrew t r.0))
    unfolding hear
    withdraw_heard t none w = (withdrawn_sound permitted a s t _ (withdraw_answers permitted known a t w), withdraw_leaves permitted known a t)
    withdraw_heard t (some m) d = (s, refl)

    step_heard : (c : Call) → let r = step permitted known (line_of a) c in Heard r.1 (hear a r.0)
    unfolding step
    step_heard (ask t n) = ask_heard t n (refusal permitted known (line_of a) (ask t n)) (call_tested permitted known a s.one (ask t n))
    step_heard (finish t) = finish_heard t (refusal permitted known (line_of a) (finish t)) (call_tested permitted known a s.one (finish t))
    step_heard (withdraw t) = withdraw_heard t (refusal permitted known (line_of a) (withdraw t)) (call_tested permitted known a s.one (withdraw t))

    -- a call that is done was not refused
    not_refused : (c : Call) → refusal_in (step permitted known (line_of a) c).0 ≡ none → refusal permitted known (line_of a) c ≡ none
    not_refused c e = rw step_tells at e

    pub ask_told : (t : ℕ) (n : Name) (r : AskReply) → (step permitted known (line_of a) (ask t n)).0 ≡ asked t n (done r)
        → Asked (Says permitted) a (key n) r
    unfolding step
    ask_told t n r e =
        let p = not_refused (ask t n) (ap refusal_in e) in
        let q : (ask_step permitted known (line_of a) (asking t n)).0 ≡ r = cc in
        rw (← q) (ask_answers permitted known a t n).0

    pub finish_told : (t : ℕ) (r : FinishReply) → (step permitted known (line_of a) (finish t)).0 ≡ finished t (done r) → Finished (Says permitted) a r
    unfolding step
    finish_told t r e =
        let f = picked permitted known (line_of a) in
        let p = not_refused (finish t) (ap refusal_in e) in
        let q : (finish_step permitted known (line_of a) f).0 ≡ r = cc in
        rw (← q)
        (record {
          hands = finish_hands permitted known a f (picked_finds a);
          counts = finish_counts permitted known a s.distinct f (picked_finds a);
        })

    pub withdraw_told : (t p : ℕ) → (step permitted known (line_of a) (withdraw t)).0 ≡ withdrew t (done p) → Withdrawn a t p
    unfolding step
    withdraw_told t p e =
        let o = not_refused (withdraw t) (ap refusal_in e) in
        let q : (withdraw_step permitted known (line_of a) (entry_of t a.waiters)).0 ≡ p = cc in
        rw (← q) (withdraw_answers permitted known a t (subst (Tested known a (withdraw t)) o (call_tested permitted known a s.one (withdraw t))))

  talk_heard : (a : Account) (cs : List Call) → Sound permitted a
      → Heard (after permitted known (line_of a) cs) (hear_all a (talk permitted known (line_of a) cs))
  unfolding talk after hear_all
  talk_heard a [] s = (s, refl)
  talk_heard a (c ∷ cs) s =
      let x = step_heard a s c in
      rw x.1 (talk_heard (hear a (step permitted known (line_of a) c).0) cs x.0)

  opening_sound : Sound permitted nothing
  unfolding count
  opening_sound =
      record { one = omega arith; distinct = tt; lawful = λ e. e; settled = λ i e m. absurd (Memᴰ.not-nil m); conserved = λ n. refl }

  pub calls_heard : (cs : List Call) → Heard (line_after permitted known cs) (heard_of permitted known cs)
  unfolding account
  calls_heard cs = talk_heard nothing cs opening_sound
