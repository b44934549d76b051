-- Demand 3: what can be seen of a line from its opening on, said of calls, replies and the entries that wait, and of nothing else.
use Rattle.std.specs.Prelude.{◌≡◌, ◌↔◌, ℕ, ◌+◌, ◌≤◌, ◌<◌, length}
use mathlib.Core.List.{List, [], ◌∷◌, ◌++◌, map, Memᴰ}
use Rattle.std.proofs.Math.Option.{Option, some, none}
use Rattle.meaning.specs.Names.{Name, key}
use Rattle.meaning.specs.Waiting.{Entry, terminals_of, names_of}
use Rattle.meaning.specs.Calls.{Call, Grant, AskReply, FinishReply, Exchange, call_in, refusal_in}
use Rattle.meaning.specs.Calls.Call.{ask, finish, withdraw}
use Rattle.meaning.specs.Calls.Reply.{done}
use Rattle.meaning.specs.Calls.AskReply.{granted, delayed}
use Rattle.meaning.specs.Calls.Exchange.{asked, finished, withdrew}
use Rattle.meaning.specs.Heard.{Account, granted_names, account, count}

-- t was granted something and has not finished; t waits
abbrev pub Runs : Account → ℕ → Type 0
Runs a t = Memᴰ t a.unfinished

abbrev pub Waits : Account → ℕ → Type 0
Waits a t = Memᴰ t (terminals_of a.waiters)

-- "No." and "given exactly when", 10 to 15, the lower number first; `Known` are the operations that there are
pub data Due (Known : Name → Type 0) (a : Account) : Call → ℕ → Type 0 where
  above_63_asks : (t : ℕ) (n : Name) → 63 < t → Due Known a (ask t n) 10
  above_63_finishes : (t : ℕ) → 63 < t → Due Known a (finish t) 10
  above_63_withdraws : (t : ℕ) → 63 < t → Due Known a (withdraw t) 10
  no_such_operation : (t : ℕ) (n : Name) → t ≤ 63 → ¬ Known (key n) → Due Known a (ask t n) 11
  asks_while_running : (t : ℕ) (n : Name) → t ≤ 63 → Known (key n) → Runs a t → Due Known a (ask t n) 12
  asks_while_waiting : (t : ℕ) (n : Name) → t ≤ 63 → Known (key n) → ¬ Runs a t → Waits a t → Due Known a (ask t n) 13
  finishes_not_running : (t : ℕ) → t ≤ 63 → ¬ Runs a t → Due Known a (finish t) 14
  withdraws_not_waiting : (t : ℕ) → t ≤ 63 → ¬ Waits a t → Due Known a (withdraw t) 15

-- what an ask that is not refused is told: granted if nothing is unfinished and n is permitted then, else delayed with the
-- number of entries ahead
pub data Asked (Permitted : List Name → Type 0) (a : Account) (n : Name) : AskReply → Type 0 where
  is_granted : a.unfinished ≡ [] → Permitted (granted_names a ++ n ∷ []) → Asked Permitted a n granted
  is_delayed : (a.unfinished ≡ [] → ¬ Permitted (granted_names a ++ n ∷ [])) → Asked Permitted a n (delayed (length a.waiters))

-- who is handed the line by a finish that is not refused: the longest waiting whose name is then permitted; or nobody's is
pub data Handed (Permitted : List Name → Type 0) (a : Account) (g : Option Grant) : Type 0 where
  longest_goes : (ahead after : List Entry) (e : Entry) → a.waiters ≡ ahead ++ e ∷ after
      → ((d : Entry) → Memᴰ d ahead → ¬ Permitted (granted_names a ++ d.name ∷ []))
      → Permitted (granted_names a ++ e.name ∷ []) → g ≡ some (record { terminal = e.terminal; name = e.name }) → Handed Permitted a g
  nobody_goes : ((d : Entry) → Memᴰ d a.waiters → ¬ Permitted (granted_names a ++ d.name ∷ [])) → g ≡ none → Handed Permitted a g

-- "the number of entries examined: the place of the granted entry plus 1, or the whole count"; the granted entry is its terminal's
-- first
pub data Examined (a : Account) (g : Option Grant) (n : ℕ) : Type 0 where
  up_to_the_granted : (ahead after : List Entry) (e : Entry) → a.waiters ≡ ahead ++ e ∷ after → ¬ Memᴰ e.terminal (terminals_of ahead)
      → g ≡ some (record { terminal = e.terminal; name = e.name }) → n ≡ length ahead + 1 → Examined a g n
  all_of_them : g ≡ none → n ≡ length a.waiters → Examined a g n

-- what a finish that is not refused is told
pub record Finished (Permitted : List Name → Type 0) (a : Account) (r : FinishReply) : Type 0 where
  pub hands : Handed Permitted a r.grants
  pub counts : Examined a r.grants r.examined

-- what a withdrawal that is not refused is told: the place of the terminal's entry, with none of its own ahead
pub record Withdrawn (a : Account) (t p : ℕ) : Type 0 where
  pub ahead : List Entry
  pub entry : Entry
  pub after : List Entry
  pub listed : a.waiters ≡ ahead ++ entry ∷ after
  pub own : entry.terminal ≡ t
  pub none_ahead : ¬ Memᴰ t (terminals_of ahead)
  pub place : p ≡ length ahead

-- of what was heard: the grants in order are a permitted history; at most one is unfinished; while none is, nobody
-- waiting is permitted
pub record Orderly (Permitted : List Name → Type 0) (a : Account) : Type 0 where
  pub grants_permitted : Permitted (granted_names a)
  pub at_most_one_unfinished : length a.unfinished ≤ 1
  pub nobody_permitted_waits : a.unfinished ≡ [] → (e : Entry) → Memᴰ e a.waiters
      → ¬ Permitted (granted_names a ++ e.name ∷ [])

-- `Seen xs es` says that the exchanges xs can be had from an opening on, and leave the entries es waiting; `Permitted` are the line's
-- permitted histories, `Known` its operations
pub record Demand3 (Seen : List Exchange → List Entry → Type 0) (Permitted : List Name → Type 0) (Known : Name → Type 0) : Type 0 where
  -- any calls can be made, and all get replies; equal calls get equal replies, and leave equal entries
  pub all_answered : (cs : List Call) → (xs : List Exchange) × (es : List Entry) × Seen xs es × (map call_in xs ≡ cs)
  pub answered_alike : (xs xs' : List Exchange) (es es' : List Entry) → Seen xs es → Seen xs' es' → map call_in xs ≡ map call_in xs'
      → (xs ≡ xs') × (es ≡ es')
  -- a reply does not depend on later calls
  pub seen_before : (xs ys : List Exchange) (es : List Entry) → Seen (xs ++ ys) es → (before : List Entry) × Seen xs before
  -- refusals are given exactly when they are due
  pub refused_exactly : (xs : List Exchange) (x : Exchange) (es : List Entry) (m : ℕ) → Seen (xs ++ x ∷ []) es
      → (refusal_in x ≡ some m) ↔ Due Known (account xs) (call_in x) m
  -- the grants in order are a permitted history; at most one is unfinished; while none is, nobody waiting is permitted
  pub orderly : (xs : List Exchange) (es : List Entry) → Seen xs es → Orderly Permitted (account xs)
  -- an ask is granted or delayed, a finish grants the longest waiting that is permitted then, a withdrawal is told its place
  pub ask_answered : (xs : List Exchange) (es : List Entry) (t : ℕ) (n : Name) (r : AskReply) → Seen (xs ++ asked t n (done r) ∷ []) es
      → Asked Permitted (account xs) (key n) r
  pub finish_answered : (xs : List Exchange) (es : List Entry) (t : ℕ) (r : FinishReply) → Seen (xs ++ finished t (done r) ∷ []) es
      → Finished Permitted (account xs) r
  pub withdraw_answered : (xs : List Exchange) (es : List Entry) (t p : ℕ) → Seen (xs ++ withdrew t (done p) ∷ []) es
      → Withdrawn (account xs) t p
  -- calls and replies show all there is: who waits for what, longest waiting first
  pub entries_heard : (xs : List Exchange) (es : List Entry) → Seen xs es → es ≡ (account xs).waiters
  -- "for each operation, asks that were granted or delayed equal grants, withdrawals and present waiters together; the first
  -- three are counted from calls and replies, the last from the list"
  pub conserved : (xs : List Exchange) (es : List Entry) (n : Name) → Seen xs es
      → count (key n) (names_of (account xs).asks)
      ≡ count (key n) (granted_names (account xs)) + count (key n) (names_of (account xs).withdrawals) + count (key n) (names_of es)
