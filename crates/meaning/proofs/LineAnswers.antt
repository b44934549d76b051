-- What a call that is not refused is told, and the line that it leaves, for the line that was heard: by the cases of the step, with what its
-- search found.
use mathlib.Core.Path.{◌≡◌, refl, sym, ◌∙◌}
use mathlib.Core.Bool.{Bool, true, false, cond, ◌&&◌, false≢true}
use mathlib.Core.List.Memᴰ
use mathlib.Core.List.{List, [], ◌∷◌, ◌++◌, map-append, cons≢nil, Memᴰ}
use Prim.Native.Nat.{ℕ, ◌≤◌}
use native.Mathlib.Omega.{arith}
use lib.Dec.{eqb}
use lib.ListN.{length}
use borrow.Author.Tests.{eqb-true, eq-eqb}
use Rattle.meaning.specs.Names.{Name, key}
use Rattle.meaning.specs.Waiting.{terminals_of, Entry, Found, entry_of, put}
use Rattle.meaning.specs.Waiting.Found.{nobody, at}
use Rattle.meaning.specs.Calls.{AskReply}
use Rattle.meaning.specs.Calls.Reply.{done}
use Rattle.meaning.specs.Calls.AskReply.{granted, delayed}
use Rattle.meaning.specs.Calls.Exchange.{asked, finished, withdrew}
use Rattle.meaning.specs.Line.{Line, free, waits, granting, ask_step, finish_step, withdraw_step}
use Rattle.meaning.specs.Heard.{Account, granted_names, less, gone, hear_granted, hear_delayed, hear_finished, hear_withdrawn, hear}
use Rattle.meaning.specs.LinePromises.{unfinished_in, line_of, Says}
use Rattle.meaning.specs.Demand.{Runs, Waits, Asked, Handed, Examined, Withdrawn}
use Rattle.meaning.specs.Demand.Asked.{is_granted, is_delayed}
use Rattle.meaning.specs.Demand.Handed.{longest_goes, nobody_goes}
use Rattle.meaning.specs.Demand.Examined.{up_to_the_granted, all_of_them}
use Rattle.meaning.proofs.WaitingLaws.{not_true, Finds, seek_finds, waits_reads, Distinct, own_entry, none_own_ahead, put_last}

-- the entry that an ask makes
abbrev pub asking : ℕ → Name → Entry
asking t n = record { terminal = t; name = key n }

-- the finisher was the only one to run
pub less_unfinished : (t : ℕ) (us : List ℕ) → length us ≤ 1 → Memᴰ t us → less t us ≡ []
unfolding less
less_unfinished t [] o m = refl
less_unfinished t (u ∷ []) o m = rw (eq-eqb u t (sym (Memᴰ.eq_of_singleton m)))
less_unfinished t (u ∷ v ∷ us) o m = absurd (omega arith)

module _ (permitted : List Name → Bool) (known : Name → Bool) (a : Account) where
  -- an ask was answered as promised with r.0, and r.1 is the line that is heard then
  abbrev Answers : ℕ → Name → AskReply × Line → Type 0
  Answers t n r = Asked (Says permitted) a (key n) r.0 × (r.1 ≡ line_of (hear a (asked t n (done r.0))))

  ask_goes : (t : ℕ) (n : Name) (us : List ℕ) (goes : Bool) → a.unfinished ≡ us → permitted (granted_names a ++ key n ∷ []) ≡ goes
      → Answers t n
      (cond (free (unfinished_in us) && goes) (granted, granting (line_of a) (asking t n) a.waiters) (
        delayed (length a.waiters),
        record { history = granted_names a; running = unfinished_in a.unfinished; waiting = put (length a.waiters) (asking t n) a.waiters },
      ))
  unfolding hear hear_granted hear_delayed
  ask_goes t n [] true q e = (is_granted q e, rw (q, map-append))
  ask_goes t n [] false q e = (is_delayed (λ z. not_true e), rw put_last)
  ask_goes t n (u ∷ us) g q e = (is_delayed (λ z. absurd (cons≢nil (sym q ∙ z))), rw put_last)

  pub ask_answers : (t : ℕ) (n : Name) → Answers t n (ask_step permitted known (line_of a) (asking t n))
  unfolding ask_step
  ask_answers t n = ask_goes t n a.unfinished _ refl refl

  pub finish_hands : (f : Found) → Finds (λ e. permitted (granted_names a ++ e.name ∷ [])) a.waiters f
      → Handed (Says permitted) a (finish_step permitted known (line_of a) f).0.grants
  finish_hands nobody h = nobody_goes h refl
  finish_hands (at p e) h = longest_goes h.ahead h.after e h.listed h.others h.passes refl

  pub finish_counts : Distinct (terminals_of a.waiters) → (f : Found) → Finds (λ e. permitted (granted_names a ++ e.name ∷ [])) a.waiters f
      → let r = (finish_step permitted known (line_of a) f).0 in Examined a r.grants r.examined
  finish_counts d nobody h = all_of_them refl refl
  finish_counts d (at p e) h =
      up_to_the_granted h.ahead h.after e h.listed (none_own_ahead h.ahead h.after e h.listed d) refl (omega (arith, h.place))

  pub finish_leaves : (t : ℕ) → length a.unfinished ≤ 1 → Distinct (terminals_of a.waiters) → Runs a t
      → (f : Found) → Finds (λ e. permitted (granted_names a ++ e.name ∷ [])) a.waiters f
      → let r = finish_step permitted known (line_of a) f in r.1 ≡ line_of (hear a (finished t (done r.0)))
  unfolding hear hear_finished
  finish_leaves t o d m nobody h = rw (less_unfinished t a.unfinished o m)
  finish_leaves t o d m (at p e) h = rw (less_unfinished t a.unfinished o m, map-append, own_entry h.ahead h.after e h.listed d, h.place)

  withdraw_found_told : (t : ℕ) (f : Found) → Finds (λ e. eqb e.terminal t) a.waiters f → waits f ≡ true
      → Withdrawn a t (withdraw_step permitted known (line_of a) f).0
  withdraw_found_told t nobody h e = absurd (false≢true e)
  withdraw_found_told t (at p d) h e =
      record {
        ahead = h.ahead;
        entry = d;
        after = h.after;
        listed = h.listed;
        own = eqb-true d.terminal t h.passes;
        none_ahead = λ m. let (c, k, q) = Memᴰ.of_map (λ (e : Entry). e.terminal) h.ahead m in h.others c k (eq-eqb c.terminal t q);
        place = h.place;
      }

  pub withdraw_answers : (t : ℕ) → Waits a t → Withdrawn a t (withdraw_step permitted known (line_of a) (entry_of t a.waiters)).0
  withdraw_answers t w = withdraw_found_told t (entry_of t a.waiters) (seek_finds _ a.waiters) ((waits_reads t a.waiters).1 w)

  pub withdraw_leaves : (t : ℕ) → let r = withdraw_step permitted known (line_of a) (entry_of t a.waiters) in
      r.1 ≡ line_of (hear a (withdrew t (done r.0)))
  unfolding hear hear_withdrawn
  withdraw_leaves t = found_leaves (entry_of t a.waiters)
    where
      found_leaves : (f : Found) → (withdraw_step permitted known (line_of a) f).1
          ≡ record { history = granted_names a; running = unfinished_in a.unfinished; waiting = gone a.waiters f }
      found_leaves nobody = refl
      found_leaves (at p e) = refl
