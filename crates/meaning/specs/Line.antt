-- The ideal line: what a terminal sees of a sorting line, said with histories alone. It reads a path only through the
-- histories that are permitted and the names that are known; positions, sets and tables do not occur.
use Rattle.std.specs.Prelude.{Bool, true, false, cond, not, ◌&&◌, List, [], ◌∷◌, ◌++◌, ℕ, suc, eqb, ltb, length}
use Rattle.std.proofs.Math.Option.{Option, some, none}
use Rattle.meaning.specs.Names.{Name, key}
use Rattle.meaning.specs.Waiting.{Entry, Found, seek, entry_of, place_of, put, without}
use Rattle.meaning.specs.Waiting.Found.{nobody, at}
use Rattle.meaning.specs.Calls.{Call, Reply, AskReply, FinishReply, Exchange}
use Rattle.meaning.specs.Calls.Call.{ask, finish, withdraw}
use Rattle.meaning.specs.Calls.Reply.{done, refused}
use Rattle.meaning.specs.Calls.AskReply.{granted, delayed}
use Rattle.meaning.specs.Calls.Exchange.{asked, finished, withdrew}

-- the names granted, oldest first; the running terminal, or none where the line is free; who waits for what
pub record Line : Type 0 where
  pub history : List Name
  pub running : Option ℕ
  pub waiting : List Entry

-- free, nothing granted, nobody waiting
abbrev pub opening : Line
opening = record { history = []; running = none; waiting = [] }

abbrev pub runs : Option ℕ → ℕ → Bool
runs none t = false
runs (some u) t = eqb u t

abbrev pub free : Option ℕ → Bool
free none = true
free (some u) = false

abbrev pub waits : Found → Bool
waits nobody = false
waits (at p e) = true

-- e's terminal runs, and the entries es wait
abbrev pub granting : Line → Entry → List Entry → Line
granting l e es = record { history = l.history ++ e.name ∷ []; running = some e.terminal; waiting = es }

-- a refused call leaves the line; any other does its step
abbrev pub tested : {A : Type 0} → Line → Option ℕ → A × Line → Reply A × Line
tested l (some m) r = (refused m, l)
tested l none r = (done r.0, r.1)

module _ (permitted : List Name → Bool) (known : Name → Bool) where
  -- the tests, "in number order": 10 terminal above 63, 11 no such operation, 12 ask by the running terminal, 13 ask by a
  -- waiting terminal, 14 finish by a terminal that isn't running, 15 withdraw by a terminal that isn't waiting
  unfoldable pub refusal : Line → Call → Option ℕ
  refusal l (ask t n) =
      cond (ltb 63 t) (some 10)
      (cond (not (known (key n))) (some 11)
      (cond (runs l.running t) (some 12)
      (cond (waits (entry_of t l.waiting)) (some 13) none)))
  refusal l (finish t) = cond (ltb 63 t) (some 10) (cond (not (runs l.running t)) (some 14) none)
  refusal l (withdraw t) = cond (ltb 63 t) (some 10) (cond (not (waits (entry_of t l.waiting))) (some 15) none)

  -- n is permitted after the history
  abbrev pub goes : Line → Name → Bool
  goes l n = permitted (l.history ++ n ∷ [])

  -- "if free and [permitted] .. the terminal runs, reply granted. Otherwise the entry goes to the end of the list, reply delayed"
  unfoldable pub ask_step : Line → Entry → AskReply × Line
  ask_step l e =
      cond (free l.running && goes l e.name) (granted, granting l e l.waiting)
      (delayed (place_of l.waiting e), record { history = l.history; running = l.running; waiting = put (place_of l.waiting e) e l.waiting })

  -- which entry a finish picks: "the list is examined from the front; the first entry whose operation [is permitted]"
  unfoldable pub picked : Line → Found
  picked l = seek (λ e. goes l e.name) l.waiting

  -- "the number of entries examined: the place of the granted entry plus 1, or the whole count"
  abbrev pub examined_to : Line → Found → ℕ
  examined_to l nobody = length l.waiting
  examined_to l (at p e) = suc p

  -- "is taken out .. and that terminal runs. If there is none, the record is free"
  abbrev pub finish_step : Line → Found → FinishReply × Line
  finish_step l nobody =
      (record { examined = examined_to l nobody; grants = none }, record { history = l.history; running = none; waiting = l.waiting })
  finish_step l (at p e) = (
    record { examined = examined_to l (at p e); grants = some (record { terminal = e.terminal; name = e.name }) },
    granting l e (without p l.waiting),
  )

  -- "its entry is taken out; the reply has the place it had"; without an entry the call is refused before
  abbrev pub withdraw_step : Line → Found → ℕ × Line
  withdraw_step l nobody = (0, l)
  withdraw_step l (at p e) = (p, record { history = l.history; running = l.running; waiting = without p l.waiting })

  -- a call's reply, and the line after it
  unfoldable pub step : Line → Call → Exchange × Line
  step l (ask t n) =
      let r = tested l (refusal l (ask t n)) (ask_step l (record { terminal = t; name = key n })) in
      (asked t n r.0, r.1)
  step l (finish t) =
      let r = tested l (refusal l (finish t)) (finish_step l (picked l)) in
      (finished t r.0, r.1)
  step l (withdraw t) =
      let r = tested l (refusal l (withdraw t)) (withdraw_step l (entry_of t l.waiting)) in
      (withdrew t r.0, r.1)

  -- the calls with their replies, and the line after them
  unfoldable pub talk : Line → List Call → List Exchange
  talk l [] = []
  talk l (c ∷ cs) = (step l c).0 ∷ talk (step l c).1 cs

  unfoldable pub after : Line → List Call → Line
  after l [] = l
  after l (c ∷ cs) = after (step l c).1 cs
