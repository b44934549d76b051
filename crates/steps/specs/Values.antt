-- The calls by value: what the inner functions say. The contracts of the calls (Calling.antt) do not speak of it; the promises of the
-- core steps (Promises.antt) do, of `ask_core`, `finish_core`, `withdraw_core` and what they leave of a list.
use Rattle.std.specs.Prelude.{◌≡◌, Bool, true, false, cond, ◌&&◌, List, ◌↔◌, ℕ, suc, ◌-◌, eqb, ltb, Result, Ok, Err, Option, Some, None, is_none, is_some}
use Rattle.std.specs.Result.{result_and}
use Rattle.meaning.specs.Names.{key}
use Rattle.table.specs.declared.numbers.Operation.{Operation}
use Rattle.table.specs.Cells.{names_of}
use Rattle.table.specs.Following.{found_in}
use Rattle.table.specs.Soundness.{Sound as TableSound}
use Rattle.table.specs.declared.cells.Table.{Table}
use Rattle.standing.specs.declared.searches.Waiter.{Waiter}
use Rattle.standing.specs.declared.numbers.Terminal.{Terminal}
use Rattle.standing.specs.declared.entries.Entry.{Entry}
use Rattle.standing.specs.declared.records.Session.{Session}
use Rattle.standing.specs.declared.searches.Search.{Search}
use Rattle.steps.specs.declared.replies.CallRefusal.{CallRefusal}
use Rattle.steps.specs.declared.replies.CallRefusal.TheVariants.{ShortList, Unsound, NoTerminal, NoOperation}
use Rattle.steps.specs.declared.replies.CallRefusal.TheVariants.{Running, Waiting, NotRunning, NotWaiting}
use Rattle.steps.specs.declared.replies.Ask.TheVariants.{Granted, Delayed}
use Rattle.steps.specs.declared.replies.Next.TheVariants.{Granted as Grants, Nobody as NobodyNext}
use Rattle.steps.specs.declared.outcomes.Asked.{Asked}
use Rattle.steps.specs.declared.outcomes.Taken.{Taken}
use Rattle.steps.specs.declared.outcomes.Handed.{Handed}
use Rattle.steps.specs.declared.outcomes.Withdrawn.{Withdrawn}
use Rattle.steps.specs.Answers.{number_of, open_answer, ask_answer, finish_answer, withdraw_answer}
use Rattle.standing.specs.Lists.{blanked, put_at, taken_out}
use Rattle.standing.specs.Soundness.{RecordSound, meets_set}
use Rattle.steps.specs.Steps.{Outcome, opening, granting, counting, freed}
use Rattle.steps.specs.Calling.{refusing}

-- one more, of at most 64
unfoldable pub one_more : ℕ → ℕ
one_more n = cond (ltb n 64) (suc n) n

-- "the running terminal" is t
abbrev pub runs_in : Option Terminal → Terminal → Bool
runs_in None t = false
runs_in (Some u) t = eqb u.0 t.0

-- 8, 9 or 10, whichever comes first: for a list of n entries
unfoldable pub first_refusal : Bool → ℕ → Search → Terminal → Result (Unit {0}) CallRefusal
first_refusal sound n f t =
    cond (ltb n 64) (Err ShortList) (cond (sound && f.fits) (cond (ltb 63 t.0) (Err NoTerminal) (Ok tt)) (Err Unsound))

-- an opening: 8 or 9, whichever comes first, or the record opened over the table
unfoldable pub open_value : Bool → ℕ → Table → Result Session CallRefusal
open_value sound n t = cond (ltb n 64) (Err ShortList) (cond sound (Ok (opening t)) (Err Unsound))

-- "Ask": granted, and nobody is put into the list; or "the entry goes to the end of the list", where it waits
unfoldable pub ask_core : Session → Entry → Asked
ask_core s e =
    cond (is_none s.running && meets_set s e.operation.0)
    (record { reply = Granted; session = granting s e s.waiting; waiter = None })
    (record {
      reply = Delayed s.waiting;
      session = counting s (one_more s.waiting);
      waiter = Some (record { place = s.waiting; entry = e });
    })

-- an ask for an operation that exists: 12 or 13, whichever comes first, or its step
unfoldable pub ask_known : Session → Search → Entry → Result Asked CallRefusal
ask_known s f e = cond (runs_in s.running e.terminal) (Err Running) (cond (is_some f.own) (Err Waiting) (Ok (ask_core s e)))

-- an ask for the operation of a name, if there is one: 11, or on
abbrev pub ask_named : Session → Search → Terminal → Option Operation → Result Asked CallRefusal
ask_named s f t None = Err NoOperation
ask_named s f t (Some o) = ask_known s f (record { terminal = t; operation = o })

-- an ask: 8 to 13, whichever comes first, or its step, on a list of n entries
unfoldable pub ask_value : Bool → Session → ℕ → Search → Terminal → List ℕ → Result Asked CallRefusal
ask_value sound s n f t name =
    result_and (first_refusal sound n f t) (ask_named s f t (found_in (names_of s.table) (key name)))

-- "is taken out .. and that terminal runs. If there is none, the record is free": s is free already, with the set that the finish leaves
abbrev pub hand_core : Session → Option Waiter → Handed
hand_core s None = record { reply = record { examined = s.waiting; next = NobodyNext }; session = s; taken = None }
hand_core s (Some w) =
    record {
      reply =
          record {
            examined = one_more w.place;
            next = Grants (record { terminal = w.entry.terminal; operation = w.entry.operation });
          };
      session = granting s w.entry (s.waiting - 1);
      taken = Some (record { used = s.waiting; place = w.place });
    }

-- "Finish: the set becomes the union of the rows ..", and the line is handed on to the entry that was found
unfoldable pub finish_core : Session → Option Waiter → Handed
finish_core s first = hand_core (freed s) first

-- a finish: 8, 9, 10 or 14, whichever comes first, or its step, on a list of n entries
unfoldable pub finish_value : Bool → Session → ℕ → Search → Terminal → Result Handed CallRefusal
finish_value sound s n f t =
    result_and (first_refusal sound n f t) (cond (runs_in s.running t) (Ok (finish_core s f.first)) (Err NotRunning))

-- "Withdraw: its entry is taken out", the one at place p
unfoldable pub withdraw_core : Session → ℕ → Withdrawn
withdraw_core s p = record { session = counting s (s.waiting - 1); taken = record { used = s.waiting; place = p } }

-- a withdrawal of the entry that was found, if there is one: 15, or its step
abbrev pub withdraw_found : Session → Option Waiter → Result Withdrawn CallRefusal
withdraw_found s None = Err NotWaiting
withdraw_found s (Some w) = Ok (withdraw_core s w.place)

-- a withdrawal: 8, 9, 10 or 15, whichever comes first, or its step, on a list of n entries
unfoldable pub withdraw_value : Bool → Session → ℕ → Search → Terminal → Result Withdrawn CallRefusal
withdraw_value sound s n f t = result_and (first_refusal sound n f t) (withdraw_found s f.own)

-- a value that depends on whether something is so, and is the one where it is known
pub record Decided (P : Type 0) {R : Type 0} (value : Bool → R) (r : R) : Type 0 where
  pub sound : Bool
  pub says : (sound ≡ true) ↔ P
  pub is : r ≡ value sound

-- what an opening by value replies: its value, by whether the table is sound
abbrev pub OpenedBy : ℕ → Table → Result Session CallRefusal → Type 0
OpenedBy n t r = Decided (TableSound t) (λ sound. open_value sound n t) r

-- what an ask by value replies: its value, by whether the record is sound
abbrev pub AskedBy : Session → ℕ → Search → Terminal → List ℕ → Result Asked CallRefusal → Type 0
AskedBy s n f t name r = Decided (RecordSound s) (λ sound. ask_value sound s n f t name) r

-- what a finish by value replies: its value, by whether the record is sound
abbrev pub FinishedBy : Session → ℕ → Search → Terminal → Result Handed CallRefusal → Type 0
FinishedBy s n f t r = Decided (RecordSound s) (λ sound. finish_value sound s n f t) r

-- what a withdrawal by value replies: its value, by whether the record is sound
abbrev pub WithdrawnBy : Session → ℕ → Search → Terminal → Result Withdrawn CallRefusal → Type 0
WithdrawnBy s n f t r = Decided (RecordSound s) (λ sound. withdraw_value sound s n f t) r

-- "the entry goes to the end of the list": who waits is put at the place; where nobody is to wait, the list stays
abbrev pub put_waiter : List Entry → Option Waiter → List Entry
put_waiter l None = l
put_waiter l (Some w) = put_at w.place w.entry l

-- "When an entry is taken out, ..": the one at the place, of those in use
abbrev pub take_out : List Entry → Taken → List Entry
take_out l k = taken_out k.used k.place l

-- the same, if there is one to take out; else the list stays
abbrev pub take_out_any : List Entry → Option Taken → List Entry
take_out_any l None = l
take_out_any l (Some k) = take_out l k

-- what a call by value that is served leaves: of an opening, "the first 64 entries blank"
abbrev pub open_outcome : List Entry → Session → Outcome
open_outcome l s = record { answer = open_answer (Ok tt); session = s; list = blanked 64 l }

-- of an ask, the list with who waits, if anybody is to
abbrev pub ask_outcome : List Entry → Asked → Outcome
ask_outcome l v = record { answer = ask_answer (Ok v.reply); session = v.session; list = put_waiter l v.waiter }

-- of a finish, the list without whom the line is handed to, if anybody
abbrev pub finish_outcome : List Entry → Handed → Outcome
finish_outcome l v = record { answer = finish_answer (Ok v.reply); session = v.session; list = take_out_any l v.taken }

-- of a withdrawal, the list without its entry, whose place is the reply
abbrev pub withdraw_outcome : List Entry → Withdrawn → Outcome
withdraw_outcome l v = record { answer = withdraw_answer (Ok v.taken.place); session = v.session; list = take_out l v.taken }

-- and what any call by value leaves of record s and list l: one that is refused, both as they were
abbrev pub outcome_of : {A : Type 0} → Session → List Entry → (A → Outcome) → Result A CallRefusal → Outcome
outcome_of s l served (Ok v) = served v
outcome_of s l served (Err r) = refusing s l (number_of r)
