-- Calls from an opening, by induction on the calls: lines that are alike answer the next call alike and are alike after it, and a call has
-- one outcome, so that whatever a call left is that.
use mathlib.Core.Path.{◌≡◌, refl, ap, ap₂, subst, ◌∙◌}
use mathlib.Core.List.Memᴰ
use mathlib.Core.List.{List, [], ◌∷◌, map, Memᴰ}
use mathlib.Core.Logic.{⊎_elim}
use mathlib.Core.Option.{some}
use Prim.Native.Nat.{ℕ, ◌≤◌, ◌<◌}
use native.Mathlib.Omega.{arith}
use lib.ListN.{length}
use Rattle.meaning.specs.Calls.{Call, Exchange, refusal_in}
use Rattle.meaning.specs.Following.{permits, set_after}
use Rattle.meaning.specs.Line.{Line, opening, refusal, step, talk, after}
use Rattle.meaning.proofs.LineTalk.{step_tells}
use Rattle.meaning.proofs.LineKeeps.{line_keeps_its_promises}
use Rattle.table.specs.Following.{table_permits}
use Rattle.table.specs.declared.cells.Table.{Table}
use Rattle.standing.specs.declared.entries.Entry.{Entry}
use Rattle.standing.specs.declared.records.Session.{Session}
use Rattle.standing.specs.Lists.{blanked}
use Rattle.standing.proofs.EntryLaws.{blanked_says}
use Rattle.std.specs.Prelude.{Ok}
use Rattle.steps.specs.Calling.{Opens}
use Rattle.steps.specs.Promises.{Untouched, BlankBehind}
use Rattle.steps.specs.Refusals.OpenRow.{short_list}
use Rattle.steps.specs.Steps.{open_step}
use Rattle.steps.specs.Steps as built
use Rattle.steps.proofs.CallCases.{opened_served}
use Rattle.steps.proofs.CallsKeep.{opened_sound}
use Rattle.steps.proofs.CallsBlank.{opened_blank}
use Rattle.steps.proofs.CallsLeave.{open_leaves_the_rest}
use Rattle.simulation.specs.Runs.{ReplyTo, Leaves, Made, calls_of, Run}
use Rattle.simulation.specs.Hearing.{exchanged, heard}
use Rattle.simulation.specs.Likeness.{known_in, Alike}
use Rattle.simulation.specs.Promises.{RunSimulates}
use Rattle.simulation.proofs.Leaving.{leaves_one, leaves_rest, leaves_blank}
use Rattle.simulation.proofs.Answering.{refused_from_ten}
use Rattle.simulation.proofs.CallsAlike.{call_alike}

-- it is not refused by 8 or 9
abbrev FromTen : Exchange → Type 0
FromTen x = (k : ℕ) → refusal_in x ≡ some k → 10 ≤ k

module _ (t : Table) where
  -- one call: the reply, and the lines after it
  record OneAlike (s₁ : Session) (l₁ : List Entry) (i : Line) (c : Call) (r : ReplyTo c) : Type 0 where
    same_reply : exchanged t c r ≡ (step (table_permits t) (known_in t) i c).0
    from_ten : FromTen (exchanged t c r)
    still_alike : Alike t s₁ l₁ (step (table_permits t) (known_in t) i c).1

  one_from_ten : (s : Session) (l : List Entry) (i : Line) → Alike t s l i → (c : Call) → FromTen (step (table_permits t) (known_in t) i c).0
  one_from_ten s l i a c k e =
      let refused = rw step_tells at e in
      subst (λ (x : Table). Alike x s l i → refusal (table_permits x) (known_in x) i c ≡ some k → 10 ≤ k) a.its_table
      (λ b. refused_from_ten s l i b c k) a refused

  one_alike : (s s₁ : Session) (l l₁ : List Entry) (i : Line) (c : Call) (r : ReplyTo c) → Alike t s l i → Leaves s l c r s₁ l₁
      → OneAlike s₁ l₁ i c r
  one_alike s s₁ l l₁ i c r a by =
      let x = call_alike t s l i a c in
      let (same, records, lists) = leaves_one s s₁ x.session l l₁ x.list c r x.reply by x.leaves in
      let reply : exchanged t c r ≡ (step (table_permits t) (known_in t) i c).0 = ap (exchanged t c) same ∙ x.same_reply in
      record {
        same_reply = reply;
        from_ten = rw reply (one_from_ten s l i a c);
        still_alike = rw (records, lists) x.still_alike;
      }

  -- any calls
  record RunAlike (s' : Session) (l l' : List Entry) (i : Line) (ms : List Made) : Type 0 where
    same_replies : map (heard t) ms ≡ talk (table_permits t) (known_in t) i (calls_of ms)
    all_from_ten : (m : Made) → Memᴰ m ms → FromTen (heard t m)
    still_alike : Alike t s' l' (after (table_permits t) (known_in t) i (calls_of ms))
    still_blank : BlankBehind s' l'
    still_untouched : Untouched l l'

  run_alike : (s s' : Session) (l l' : List Entry) (i : Line) (ms : List Made) → Alike t s l i → BlankBehind s l → Run s l ms s' l'
      → RunAlike s' l l' i ms
  unfolding Run talk after
  run_alike s s' l l' i [] a blank (is, il) =
      rw (is, il)
      (record {
        same_replies = refl;
        all_from_ten = λ m here. absurd (Memᴰ.not-nil here);
        still_alike = a;
        still_blank = blank;
        still_untouched = (refl, λ j h. refl);
      })
  run_alike s s' l l' i (m ∷ ms) a blank (s₁, l₁, by, run) =
      let one = one_alike s s₁ l l₁ i m.call m.reply a by in
      let rest = run_alike s₁ s' l₁ l' _ ms one.still_alike (leaves_blank s s₁ l l₁ m.call m.reply by blank) run in
      let touched = leaves_rest s s₁ l l₁ m.call m.reply by in
      record {
        same_replies = ap₂ (λ (x : Exchange) (xs : List Exchange). x ∷ xs) one.same_reply rest.same_replies;
        all_from_ten = λ d here. ⊎_elim (λ is. rw is one.from_ten) (rest.all_from_ten d) (Memᴰ.cases_cons here);
        still_alike = rest.still_alike;
        still_blank = rest.still_blank;
        still_untouched = (rest.still_untouched.0 ∙ touched.0, λ j h. rest.still_untouched.1 j h ∙ touched.1 j h);
      }

  -- an opening that was not refused
  module _ (s s₀ : Session) (l l₀ : List Entry) (opens : Opens s l t (Ok tt) s₀ l₀) where
    pub opened_so : (s₀ ≡ built.opening t) × (l₀ ≡ blanked 64 l)
    unfolding open_step
    opened_so = opened_served (λ o. (o.session ≡ built.opening t) × (o.list ≡ blanked 64 l)) opens refl (λ none. (refl, refl))

    long_enough : 64 ≤ length l
    long_enough =
        opened_served (λ o. 64 ≤ length l) opens refl
        (λ none. let long : ¬ (length l < 64) = λ short. none 8 (short_list short) in omega arith)

    pub opening_alike : Alike t s₀ l₀ opening
    unfolding table_permits permits set_after
    opening_alike =
        let (is, il) = opened_so in
        let sound = opened_sound s s₀ l l₀ t (Ok tt) opens refl in
        record {
          its_table = rw is;
          is_sound = sound;
          long_list = rw (il, (blanked_says 64 l).same_length) long_enough;
          grants_permitted = refl;
          its_set = rw is;
          same_runner = rw is;
          same_entries = rw is;
        }

pub run_simulates : RunSimulates
run_simulates t ms s l run =
    let first = run.opened in
    let blank = run.blanked in
    let alike = opening_alike t run.lent first run.list blank run.opens in
    let behind = opened_blank run.lent first run.list blank t (Ok tt) run.opens refl in
    let rest = open_leaves_the_rest run.lent first run.list blank t (Ok tt) run.opens in
    let all = run_alike t first s blank l opening ms alike behind run.runs in
    let grants = ap (λ (j : Line). j.history) ((line_keeps_its_promises (table_permits t) (known_in t)).line_is_heard (calls_of ms)) in
    record {
      same_replies = all.same_replies;
      alike = all.still_alike;
      its_set = rw (all.same_replies, ← grants, all.still_alike.same_runner) all.still_alike.its_set;
      blank_behind = all.still_blank;
      rest_as_lent = (all.still_untouched.0 ∙ rest.0, λ j h. all.still_untouched.1 j h ∙ rest.1 j h);
      not_by_8_or_9 = λ m k here. all.all_from_ten m here k;
    }
