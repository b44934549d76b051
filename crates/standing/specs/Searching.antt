-- Looking through the list once, an entry at a time: what the inner functions say. The contracts of the calls do not speak of it.
use Rattle.std.specs.Prelude.{Bool, true, cond, not, ◌&&◌, List, [], ◌∷◌, map, ℕ, suc, ◌^◌, eqb, ltb, take, Option, Some, None}
use Rattle.std.specs.Bool.{then_some}
use Rattle.std.specs.Int.{is_power_of_two}
use Rattle.std.specs.Int.Bits.{bit_or}
use Rattle.std.specs.Option.{option_or}
use Rattle.meaning.specs.Sets.{mem, union_of}
use Rattle.table.specs.declared.numbers.Operation.{Operation}
use Rattle.standing.specs.declared.searches.Waiter.{Waiter}
use Rattle.standing.specs.declared.numbers.Terminal.{Terminal}
use Rattle.standing.specs.declared.entries.Entry.{Entry}
use Rattle.standing.specs.declared.records.Session.{Session}
use Rattle.standing.specs.declared.searches.Search.{Search}

-- the set of n alone; of a number from 64 on, the empty set
unfoldable pub bit_of : ℕ → ℕ
bit_of n = cond (ltb n 64) (2 ^ n) 0

-- the operations, as a set, of the positions in s
unfoldable pub operations_in : List Operation → ℕ → ℕ
operations_in os s = union_of (map (λ o. bit_of o.0) os) s

-- an entry is as it may be, after those so far
unfoldable pub entry_fits : Search → Entry → Bool
entry_fits s e =
    ltb e.terminal.0 64
    && not (mem e.terminal.0 s.taken)
    && ltb e.operation.0 s.names
    && not (mem e.operation.0 s.barred)

-- what was found before stays
abbrev pub or_here : Option Waiter → Bool → ℕ → Entry → Option Waiter
or_here found here p e = option_or found (then_some here (record { place = p; entry = e }))

-- the entry e at place p is examined
unfoldable pub examined : Search → Entry → ℕ → Search
examined s e p =
    record {
      terminal = s.terminal;
      wanted = s.wanted;
      names = s.names;
      barred = s.barred;
      taken = bit_or s.taken (bit_of e.terminal.0);
      fits = s.fits && entry_fits s e;
      own = or_here s.own (eqb e.terminal.0 s.terminal.0) p e;
      first = or_here s.first (mem e.operation.0 s.wanted) p e;
    }

-- the entries, from place p on, one after the other
unfoldable pub looked : ℕ → Search → List Entry → Search
looked p s [] = s
looked p s (e ∷ es) = looked (suc p) (examined s e p) es

-- the operations of a set, in a record's table
abbrev pub operations_by : Session → ℕ → ℕ
operations_by s set = operations_in (take s.table.positions s.table.operations) set

-- while free, no entry may have an operation that meets the set; while running, none may have the running terminal
abbrev pub barred_in : Option Terminal → ℕ → ℕ
barred_in None os = os
barred_in (Some t) os = 0

abbrev pub taken_in : Option Terminal → ℕ
taken_in None = 0
taken_in (Some t) = bit_of t.0

-- while running, the terminal is below 64 and one operation meets the set
abbrev pub running_fits : Option Terminal → ℕ → Bool
running_fits None os = true
running_fits (Some t) os = ltb t.0 64 && is_power_of_two os

-- what a search starts with: for terminal t, and for the first entry of an operation in w
unfoldable pub searching : Session → Terminal → ℕ → Search
searching s t w =
    record {
      terminal = t;
      wanted = w;
      names = s.table.names;
      barred = barred_in s.running (operations_by s s.set);
      taken = taken_in s.running;
      fits = true;
      own = None;
      first = None;
    }

-- an ask and a withdrawal look for the terminal only; a finish for the operations that meet the set that it leaves
abbrev pub looking : Session → Terminal → Search
looking s t = searching s t 0

abbrev pub looking_next : Session → Terminal → Search
looking_next s t = searching s t (operations_by s (union_of s.table.rows s.set))
