-- What calls and replies show, to somebody who sees nothing else of a line.
use Rattle.std.specs.Prelude.{cond, List, [], ◌∷◌, ◌++◌, map, ℕ, suc, eqb}
use Rattle.std.proofs.Math.Option.{Option, some, none}
use Rattle.meaning.specs.Names.{Name, key, same}
use Rattle.meaning.specs.Waiting.{Entry, Found, entry_of, without}
use Rattle.meaning.specs.Waiting.Found.{nobody, at}
use Rattle.meaning.specs.Calls.{Grant, Exchange}
use Rattle.meaning.specs.Calls.Reply.{done, refused}
use Rattle.meaning.specs.Calls.AskReply.{granted, delayed}
use Rattle.meaning.specs.Calls.Exchange.{asked, finished, withdrew}

-- the asks that were granted or delayed; the grants in order; what was withdrawn; the terminals that were granted and have
-- not finished; and the asks that were delayed and since neither granted nor withdrawn, longest waiting first
pub record Account : Type 0 where
  pub asks : List Entry
  pub grants : List Grant
  pub withdrawals : List Entry
  pub unfinished : List ℕ
  pub waiters : List Entry

abbrev pub nothing : Account
nothing = record { asks = []; grants = []; withdrawals = []; unfinished = []; waiters = [] }

-- the grants in order, as a history
abbrev pub granted_names : Account → List Name
granted_names a = map (λ g. g.name) a.grants

-- the terminals without one t
unfoldable pub less : ℕ → List ℕ → List ℕ
less t [] = []
less t (u ∷ us) = cond (eqb u t) us (u ∷ less t us)

-- the waiters without the entry found, and that entry
abbrev pub gone : List Entry → Found → List Entry
gone es nobody = es
gone es (at p e) = without p es

abbrev pub entry_in : Found → List Entry
entry_in nobody = []
entry_in (at p e) = e ∷ []

-- an ask was granted; it was delayed
unfoldable pub hear_granted : Account → Entry → Account
hear_granted a e =
    record {
      asks = a.asks ++ e ∷ [];
      grants = a.grants ++ record { terminal = e.terminal; name = e.name } ∷ [];
      withdrawals = a.withdrawals;
      unfinished = a.unfinished ++ e.terminal ∷ [];
      waiters = a.waiters;
    }

unfoldable pub hear_delayed : Account → Entry → Account
hear_delayed a e =
    record {
      asks = a.asks ++ e ∷ [];
      grants = a.grants;
      withdrawals = a.withdrawals;
      unfinished = a.unfinished;
      waiters = a.waiters ++ e ∷ [];
    }

-- terminal t finished, and g was granted, if anybody was
unfoldable pub hear_finished : Account → ℕ → Option Grant → Account
hear_finished a t none =
    record {
      asks = a.asks;
      grants = a.grants;
      withdrawals = a.withdrawals;
      unfinished = less t a.unfinished;
      waiters = a.waiters;
    }
hear_finished a t (some g) =
    record {
      asks = a.asks;
      grants = a.grants ++ g ∷ [];
      withdrawals = a.withdrawals;
      unfinished = less t a.unfinished ++ g.terminal ∷ [];
      waiters = gone a.waiters (entry_of g.terminal a.waiters);
    }

-- terminal t withdrew what it waited for
unfoldable pub hear_withdrawn : Account → ℕ → Account
hear_withdrawn a t =
    record {
      asks = a.asks;
      grants = a.grants;
      withdrawals = a.withdrawals ++ entry_in (entry_of t a.waiters);
      unfinished = a.unfinished;
      waiters = gone a.waiters (entry_of t a.waiters);
    }

-- what one more exchange shows; a refused call shows nothing
unfoldable pub hear : Account → Exchange → Account
hear a (asked t n (done granted)) = hear_granted a (record { terminal = t; name = key n })
hear a (asked t n (done (delayed p))) = hear_delayed a (record { terminal = t; name = key n })
hear a (asked t n (refused m)) = a
hear a (finished t (done r)) = hear_finished a t r.grants
hear a (finished t (refused m)) = a
hear a (withdrew t (done p)) = hear_withdrawn a t
hear a (withdrew t (refused m)) = a

-- what a list of exchanges shows to somebody who knows a already; and from an opening
unfoldable pub hear_all : Account → List Exchange → Account
hear_all a [] = a
hear_all a (x ∷ xs) = hear_all (hear a x) xs

unfoldable pub account : List Exchange → Account
account xs = hear_all nothing xs

-- how often n is among ns
unfoldable pub count : Name → List Name → ℕ
count n [] = 0
count n (m ∷ ms) = cond (same m n) (suc (count n ms)) (count n ms)
