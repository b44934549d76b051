-- What is promised of the table of an expression. Each promise is a type here; proofs/ has a proof of each, under the same name
-- in small letters.
use Rattle.std.specs.Prelude.{◌≡◌, true, ◌↔◌, ℕ, ◌≤◌, ◌<◌, length, get_or}
use mathlib.Core.List.{List, [], Memᴰ}
use Rattle.meaning.specs.Names.{Name, key}
use Rattle.meaning.specs.Words.{Expr, Begins, names}
use Rattle.meaning.specs.Operations.{distinct}
use Rattle.meaning.specs.Positions.{size}
use Rattle.text.specs.Tokens.{well_formed}
use Rattle.table.specs.Following.{table_permits}
use Rattle.table.specs.Soundness.{Sound}
use Rattle.table.specs.Rules.{table_of}

-- an expression within the limits, of names that are well formed: what an accepted text has
pub record Limited (e : Expr) : Type 0 where
  pub positions : size e ≤ 64
  pub names_few : length (distinct (names e)) ≤ 32
  pub well_formed : (n : Name) → Memᴰ n (names e) → well_formed n ≡ true

-- its table is sound
abbrev pub RulesTableSound : Type 0
RulesTableSound = (e : Expr) → Limited e → Sound (table_of e)

-- demand 2: its table permits a history exactly if the history begins a repetition
abbrev pub RulesTablePermits : Type 0
RulesTablePermits = (e : Expr) → Limited e → (h : List Name) → (table_permits (table_of e) h ≡ true) ↔ Begins e h

-- "1 if no name stands at two positions, else 0"
abbrev pub MarkSays : Type 0
MarkSays =
    (e : Expr) → Limited e
    → ((table_of e).mark ≡ 1) ↔ ((p q : ℕ) → p < size e → q < size e → key (get_or (names e) p []) ≡ key (get_or (names e) q []) → p ≡ q)
