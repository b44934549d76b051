-- A call that is not refused, of lines that are alike: the tests of its step come out the same for both lines, and what the step leaves
-- is alike. The name of an operation meets the set exactly if it is permitted after the grants.
use mathlib.Core.Path.{◌≡◌, refl, sym, ap, ap₂, subst, ◌∙◌}
use mathlib.Core.Bool.{Bool, true, false, ◌&&◌, and-eq-true_iff, false≢true}
use mathlib.Core.List.{List, [], ◌∷◌, ◌++◌, map}
use mathlib.Core.Option.{Option, some, none}
use Prim.Native.Nat.{ℕ, suc, ◌-◌, ◌<◌, ◌≤◌}
use native.Mathlib.Omega.{arith}
use lib.Bits.{bit_and}
use lib.Dec.{eqb}
use lib.ListN.{length, get_or, take, length-map}
use lib.Seq.{get_or-take, length-take-le}
use Rattle.meaning.specs.Names.{Name, key}
use Rattle.meaning.specs.Sets.{meeting, union_of}
use Rattle.meaning.specs.Waiting.{Entry as Named, place_of as placed, put, without}
use Rattle.meaning.specs.Calls.{Call}
use Rattle.meaning.specs.Calls.Call.{ask, finish, withdraw}
use Rattle.meaning.specs.Calls.Reply.{done}
use Rattle.meaning.specs.Calls.Exchange.{finished}
use Rattle.meaning.specs.Line.{Line, free, runs, granting as grants, refusal, ask_step, picked, examined_to, step}
use Rattle.meaning.proofs.NumberLaws.{number_held}
use Rattle.table.specs.Cells.{names_of}
use Rattle.table.specs.Following.{permission_set, found_in, permission_of, table_permits}
use Rattle.table.specs.declared.cells.Table.{Table}
use Rattle.table.proofs.OperationNames.{permission_named}
use Rattle.standing.specs.declared.numbers.Terminal.{Terminal}
use Rattle.standing.specs.declared.searches.Waiter.{Waiter}
use Rattle.standing.specs.declared.entries.Entry.{Entry}
use Rattle.standing.specs.declared.records.Session.{Session}
use Rattle.standing.specs.Lists.{blank_entry, in_use, place_of, put_at, taken_out}
use Rattle.standing.specs.Soundness.{meets_set}
use Rattle.standing.proofs.Seeking.{Finds, seek_finds, found_in_use}
use Rattle.std.specs.Prelude.{Ok, Option as RustOption, Some, None, is_none}
use Rattle.steps.specs.declared.replies.Ask.TheVariants.{Granted, Delayed}
use Rattle.steps.specs.Answers.{FinishReply, WithdrawReply}
use Rattle.steps.specs.declared.replies.Grant.{Grant}
use Rattle.steps.specs.declared.replies.Next.TheVariants.{Granted as Grants, Nobody as NoNext}
use Rattle.steps.specs.Steps.{granting, counting, freed, ask_step as built_ask, picked as built_pick}
use Rattle.steps.specs.Steps.{examined_to as built_examined, finish_step, entry_of as built_entry, withdraw_step}
use Rattle.steps.specs.Calling.{entry_for}
use Rattle.steps.specs.Calling.Serves.{does}
use Rattle.steps.specs.Refusals.{Row, NoRow}
use Rattle.simulation.specs.Runs.{ReplyTo, Leaves}
use Rattle.simulation.specs.Hearing.{entry_heard}
use Rattle.simulation.specs.Likeness.{known_in, runner_in, set_at, SetStands, Alike}
use Rattle.simulation.proofs.Histories.{set_moves_on, permitted_next}
use Rattle.simulation.proofs.EntriesHeard.{found_heard, seek_heard, place_heard, put_heard, taken_heard}
use Rattle.simulation.proofs.Leaving.{leaves_sound, leaves_rest}
use Rattle.simulation.proofs.Answering.{Answered, Verdict, entry_alike, tested_alike, refused_alike}

module _ (s : Session) (l : List Entry) (i : Line) (a : Alike s.table s l i) where
  abbrev t : Table
  t = s.table

  as_many : length (in_use s l) ≡ s.waiting
  as_many = length-take-le s.waiting l (omega (arith, a.is_sound.record_sound.count_most, a.long_list))

  as_many_heard : length i.waiting ≡ s.waiting
  as_many_heard = rw (← a.same_entries, length-map) as_many

  -- the name of an operation is permitted after the grants exactly if the operation meets the set after them
  meets_alike : (x : ℕ) → x ≡ set_at t i.history → (k : Name) (o : ℕ) → permission_of t k ≡ permission_set t o
      → table_permits t (i.history ++ k ∷ []) ≡ meeting x (permission_set t o)
  meets_alike x after k o same =
      permitted_next t i.history k a.grants_permitted ∙ ap₂ meeting (sym after) same

  -- the set that is shared with a grant
  shared_alike : (u x : ℕ) → x ≡ set_at t i.history → (k : Name) (o : ℕ) → permission_of t k ≡ permission_set t o
      → SetStands t (some u) (i.history ++ k ∷ []) (bit_and x (permission_set t o))
  shared_alike u x after k o same = (i.history, k, refl, ap₂ bit_and after (sym same))

  -- after a call that leaves these, record and list are sound and long enough; so the lines are alike if the rest is
  alike_after : (c : Call) (r : ReplyTo c) (s' : Session) (l' : List Entry) (j : Line) → Leaves s l c r s' l' → s'.table ≡ t
      → table_permits t j.history ≡ true → SetStands t j.running j.history s'.set → runner_in s'.running ≡ j.running
      → map (entry_heard t) (in_use s' l') ≡ j.waiting → Alike t s' l' j
  alike_after c r s' l' j by table permitted its runner entries =
      record {
        its_table = table;
        is_sound = leaves_sound s s' l l' c r by a.is_sound;
        long_list = omega (arith, (leaves_rest s s' l l' c r by).0, a.long_list);
        grants_permitted = permitted;
        its_set = its;
        same_runner = runner;
        same_entries = entries;
      }

  -- an ask for an operation that there is
  module _ (u : ℕ) (n : Name) (none-applies : NoRow (Row s l (ask u n))) (known : known_in t (key n) ≡ true)
      (goes_on : refusal (table_permits t) (known_in t) i (ask u n) ≡ none) where
    abbrev e : Entry
    e = entry_for s (record { 0 = u }) n

    permission_same : permission_of t (key n) ≡ permission_set t e.operation.0
    unfolding permission_of found_in
    permission_same = rw known

    entry_same : entry_heard t e ≡ record { terminal = u; name = key n }
    entry_same = ap (λ (k : Name). record { terminal = u; name = k }) (number_held (names_of t) (key n) known)

    -- both lines ask the same: whether the line is free, and the name permitted
    test_same : (st : RustOption Terminal) (r : Option ℕ) → runner_in st ≡ r → SetStands t r i.history s.set
        → (free r && table_permits t (i.history ++ key n ∷ [])) ≡ (is_none st && meets_set s e.operation.0)
    test_same None none q its = meets_alike s.set its (key n) e.operation.0 permission_same
    test_same None (some v) q its = cc
    test_same (Some v) none q its = cc
    test_same (Some v) (some w) q its = refl

    abbrev asked_for : Named
    asked_for = record { terminal = u; name = key n }

    ideal_test : (b : Bool) → (is_none s.running && meets_set s e.operation.0) ≡ b
        → (free i.running && table_permits t (i.history ++ key n ∷ [])) ≡ b
    ideal_test b test = test_same s.running i.running a.same_runner a.its_set ∙ test

    -- of a free line the set is the set after all grants
    free_set : (r : Option ℕ) → free r ≡ true → SetStands t r i.history s.set → s.set ≡ set_at t i.history
    free_set none is its = its
    free_set (some v) is its = absurd (false≢true is)

    ask_granted : (is_none s.running && meets_set s e.operation.0) ≡ true → Answered t s l i (ask u n)
    unfolding step ask_step built_ask
    ask_granted test =
        let (is_free, permitted) = (and-eq-true_iff (free i.running) _).0 (ideal_test true test) in
        let by : Leaves s l (ask u n) (Ok Granted) (granting s e s.waiting) l = does none-applies (rw test) in
        record {
          reply = Ok Granted;
          session = granting s e s.waiting;
          list = l;
          leaves = by;
          same_reply = rw (goes_on, ideal_test true test);
          still_alike = rw (goes_on, ideal_test true test)
              (alike_after (ask u n) (Ok Granted) (granting s e s.waiting) l (grants i asked_for i.waiting) by refl permitted
              (shared_alike u s.set (free_set i.running is_free a.its_set) (key n) e.operation.0 permission_same)
              refl a.same_entries);
        }

    ask_delayed : (is_none s.running && meets_set s e.operation.0) ≡ false → Answered t s l i (ask u n)
    unfolding step ask_step built_ask
    ask_delayed test =
        let place = place_of (in_use s l) e in
        let later = counting s (suc s.waiting) in
        let by : Leaves s l (ask u n) (Ok (Delayed place)) later (put_at place e l) = does none-applies (rw test) in
        let room = (leaves_sound s later l _ (ask u n) (Ok (Delayed place)) by a.is_sound).record_sound.count_most in
        let es = i.waiting in
        let waits : Line = record { history = i.history; running = i.running; waiting = put (placed es asked_for) asked_for es } in
        let same_place : placed es asked_for ≡ place = rw (← a.same_entries) (place_heard (entry_heard t) (in_use s l) e) in
        let entries : map (entry_heard t) (take (suc s.waiting) (put_at place e l)) ≡ waits.waiting =
        rw (← a.same_entries, ← entry_same) (put_heard (entry_heard t) s.waiting l e (omega (arith, room, a.long_list))) in
        record {
          reply = Ok (Delayed place);
          session = later;
          list = put_at place e l;
          leaves = by;
          same_reply = rw (goes_on, ideal_test false test, same_place);
          still_alike = rw (goes_on, ideal_test false test)
              (alike_after (ask u n) (Ok (Delayed place)) later (put_at place e l) waits by refl a.grants_permitted a.its_set
              a.same_runner entries);
        }

    ask_alike : Answered t s l i (ask u n)
    ask_alike = go (is_none s.running && meets_set s e.operation.0) refl
      where
        go : (b : Bool) → (is_none s.running && meets_set s e.operation.0) ≡ b → Answered t s l i (ask u n)
        go true test = ask_granted test
        go false test = ask_delayed test

  -- an entry in use asks for an operation that there is
  exists_in_use : (j : ℕ) → j < length (in_use s l) → (get_or (in_use s l) j blank_entry).operation.0 < t.names
  exists_in_use j h =
      let there : j < s.waiting = omega (arith, h, as_many) in
      let same = ap (λ (e : Entry). e.operation.0) (get_or-take s.waiting l j blank_entry there) in
      omega (arith, same, a.is_sound.operations_exist j there)

  -- a finish by the running terminal
  module _ (u v : ℕ) (none-applies : NoRow (Row s l (finish u))) (runs-now : i.running ≡ some v)
      (goes_on : refusal (table_permits t) (known_in t) i (finish u) ≡ none) where
    -- the set moves along the rows: it is then the set after all grants
    moved : union_of t.rows s.set ≡ set_at t i.history
    moved =
        let (g, k, is, shared) = subst (λ (r : Option ℕ). SetStands t r i.history s.set) runs-now a.its_set in
        ap (union_of t.rows) shared ∙ sym (set_moves_on t g k) ∙ ap (set_at t) (sym is)

    -- both lines pick the same entry
    picks_same : picked (table_permits t) (known_in t) i ≡ found_heard (entry_heard t) (built_pick (freed s) l)
    unfolding picked built_pick
    picks_same =
        rw (← a.same_entries)
        (seek_heard (entry_heard t) (λ e. meets_set (freed s) e.operation.0) (λ e. table_permits t (i.history ++ e.name ∷ [])) (in_use s l)
        (λ j h. meets_alike _ moved _ _ (permission_named t a.is_sound.record_sound.table_sound _ (exists_in_use j h))))

    abbrev Picks : RustOption Waiter → Type 0
    Picks = Finds (λ e. meets_set (freed s) e.operation.0) (in_use s l)

    examined_same : (f : RustOption Waiter) → examined_to (table_permits t) (known_in t) i (found_heard (entry_heard t) f) ≡ built_examined (freed s) l f
    examined_same None = as_many_heard
    examined_same (Some w) = refl

    handed_alike : (f : RustOption Waiter) → built_pick (freed s) l ≡ f → Picks f → Answered t s l i (finish u)
    unfolding step finish_step
    handed_alike None is finds =
        let reply : FinishReply = Ok (record { examined = built_examined (freed s) l None; next = NoNext }) in
        let by : Leaves s l (finish u) reply (freed s) l = does none-applies (rw is) in
        let after : Line = record { history = i.history; running = none; waiting = i.waiting } in
        record {
          reply = reply;
          session = freed s;
          list = l;
          leaves = by;
          same_reply = rw (goes_on, picks_same, is)
              (ap (λ (n : ℕ). finished u (done (record { examined = n; grants = none }))) (sym (examined_same None)));
          still_alike = rw (goes_on, picks_same, is)
              (alike_after (finish u) reply (freed s) l after by refl a.grants_permitted moved refl a.same_entries);
        }
    handed_alike (Some w) is finds =
        let e = w.entry in
        let grant : Grant = record { terminal = e.terminal; operation = e.operation } in
        let reply : FinishReply = Ok (record { examined = built_examined (freed s) l (Some w); next = Grants grant }) in
        let later = granting (freed s) e (s.waiting - 1) in
        let left = taken_out s.waiting w.place l in
        let by : Leaves s l (finish u) reply later left = does none-applies (rw is) in
        let sound = a.is_sound.record_sound in
        let fits : s.waiting ≤ length l = omega (arith, sound.count_most, a.long_list) in
        let (here, there) = found_in_use s l fits (λ e. meets_set (freed s) e.operation.0) w finds in
        let exists : e.operation.0 < t.names =
        omega (arith, ap (λ (d : Entry). d.operation.0) there, a.is_sound.operations_exist w.place here) in
        let same = permission_named t sound.table_sound e.operation.0 exists in
        let entries : map (entry_heard t) (take (s.waiting - 1) left) ≡ without w.place i.waiting =
        rw (← a.same_entries) (taken_heard (entry_heard t) s.waiting w.place l here fits) in
        record {
          reply = reply;
          session = later;
          list = left;
          leaves = by;
          same_reply = rw (goes_on, picks_same, is);
          still_alike = rw (goes_on, picks_same, is)
              (alike_after (finish u) reply later left (grants i (entry_heard t e) (without w.place i.waiting)) by refl
              (meets_alike _ moved _ _ same ∙ finds.passes) (shared_alike e.terminal.0 _ moved _ _ same) refl entries);
        }

    finish_alike : Answered t s l i (finish u)
    unfolding built_pick
    finish_alike = handed_alike (built_pick (freed s) l) refl (seek_finds _ (in_use s l))

  -- a withdrawal
  module _ (u : ℕ) (none-applies : NoRow (Row s l (withdraw u))) (goes_on : refusal (table_permits t) (known_in t) i (withdraw u) ≡ none) where
    taken_back_alike : (f : RustOption Waiter) → built_entry s l u ≡ f → Finds (λ e. eqb e.terminal.0 u) (in_use s l) f → Answered t s l i (withdraw u)
    unfolding step withdraw_step built_entry
    taken_back_alike None is finds =
        record {
          reply = Ok 0;
          session = s;
          list = l;
          leaves = does none-applies (rw is);
          same_reply = rw (goes_on, entry_alike s l i a u, is);
          still_alike = rw (goes_on, entry_alike s l i a u, is) a;
        }
    taken_back_alike (Some w) is finds =
        let reply : WithdrawReply = Ok w.place in
        let later = counting s (s.waiting - 1) in
        let left = taken_out s.waiting w.place l in
        let by : Leaves s l (withdraw u) reply later left = does none-applies (rw is) in
        let fits : s.waiting ≤ length l = omega (arith, a.is_sound.record_sound.count_most, a.long_list) in
        let here = (found_in_use s l fits (λ e. eqb e.terminal.0 u) w finds).0 in
        let after : Line = record { history = i.history; running = i.running; waiting = without w.place i.waiting } in
        let entries : map (entry_heard t) (take (s.waiting - 1) left) ≡ after.waiting =
        rw (← a.same_entries) (taken_heard (entry_heard t) s.waiting w.place l here fits) in
        record {
          reply = reply;
          session = later;
          list = left;
          leaves = by;
          same_reply = rw (goes_on, entry_alike s l i a u, is);
          still_alike = rw (goes_on, entry_alike s l i a u, is)
              (alike_after (withdraw u) reply later left after by refl a.grants_permitted a.its_set a.same_runner entries);
        }

    withdraw_alike : Answered t s l i (withdraw u)
    unfolding built_entry
    withdraw_alike = taken_back_alike (built_entry s l u) refl (seek_finds _ (in_use s l))

  -- a call whose tests came to this
  verdict_alike : (c : Call) (v : Option ℕ) → refusal (table_permits t) (known_in t) i c ≡ v → Verdict s l i a c v → Answered t s l i c
  verdict_alike c (some m) e first = refused_alike s l i a c m e first
  verdict_alike (ask u n) none e (applies, known) = ask_alike u n applies known e
  verdict_alike (finish u) none e (applies, own) = runner i.running refl own
    where
      runner : (r : Option ℕ) → i.running ≡ r → runs r u ≡ true → Answered t s l i (finish u)
      runner none is own = absurd (false≢true own)
      runner (some v) is own = finish_alike u v applies is e
  verdict_alike (withdraw u) none e (applies, _) = withdraw_alike u applies e

  own_table_alike : (c : Call) → Answered t s l i c
  own_table_alike c = verdict_alike c _ refl (tested_alike s l i a c)

-- each call of lines that are alike is answered alike
pub call_alike : (t : Table) (s : Session) (l : List Entry) (i : Line) → Alike t s l i → (c : Call) → Answered t s l i c
call_alike t s l i a =
    subst (λ (x : Table). Alike x s l i → (c : Call) → Answered x s l i c) a.its_table (λ b c. own_table_alike s l i b c) a
