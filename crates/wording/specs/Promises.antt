-- What is promised of lines and numbers beside the contracts. Each promise is a type here; proofs/ has a proof of each, under the same name
-- in small letters.
use Rattle.std.specs.Prelude.{◌≡◌, true, List, [], ◌∷◌, ◌++◌, ◌↔◌, ℕ, length, Option as Maybe}
use Rattle.std.proofs.Math.Option.{some}
use Rattle.meaning.specs.Calls.Call.{ask, finish, withdraw}
use Rattle.wording.specs.Lines.{space, before}
use Rattle.wording.specs.Orders.{ask_word, finish_word, withdraw_word, all_digits, is_number, value_of, call_of, Reads}
use Rattle.wording.specs.Writing.{Puts, Writes, decimal}
use Rattle.wording.specs.declared.orders.Order.{Order}
use Rattle.wording.specs.declared.writing.Output.{Output}

-- exactly one outcome of `read_line`, and of what puts bytes
abbrev pub ReadLineDetermined : Type 0
ReadLineDetermined = (line : List ℕ) (r r' : Maybe Order) → Reads line r → Reads line r' → r ≡ r'

abbrev pub PutsDetermined : Type 0
PutsDetermined =
    (out s after after' : List ℕ) (at k k' : ℕ) → Puts out at s k after → Puts out at s k' after' → (k ≡ k') × (after ≡ after')

abbrev pub WritesDetermined : Type 0
WritesDetermined =
    (before after after' : Output) (s : List ℕ) → Writes before s after → Writes before s after'
    → (after.at ≡ after'.at) × (after.bytes.now ≡ after'.bytes.now) × (after.bytes.ghost_name ≡ after'.bytes.ghost_name)

-- "Numbers are printed without leading zeros": what is printed of n is digits, reads as n, and starts with 0 only if n is 0
pub record Decimal (n : ℕ) : Type 0 where
  pub digits : all_digits (decimal n) ≡ true
  pub reads : value_of (decimal n) ≡ n
  pub no_leading_zero : (s : List ℕ) → decimal n ≡ 48 ∷ s → n ≡ 0

abbrev pub DecimalRight : Type 0
DecimalRight = (n : ℕ) → Decimal n

-- "`ask T NAME`, `finish T` or `withdraw T`, one space between fields, T of 1 to 3 digits, NAME one or more bytes without a space": a
-- line is a call exactly if it is so written

-- T, as written
pub record NumberWritten (t : ℕ) : Type 0 where
  pub written : List ℕ
  pub is_number : is_number written ≡ true
  pub value : value_of written ≡ t

-- an ask, as written
pub record AskWritten (line : List ℕ) (t : ℕ) (name : List ℕ) : Type 0 where
  pub number : NumberWritten t
  pub some_byte : ¬ (name ≡ [])
  pub no_space : before space name ≡ length name
  pub line_is : line ≡ ask_word ++ space ∷ (number.written ++ space ∷ name)

-- a finish or a withdrawal, as written
pub record TwoWritten (word line : List ℕ) (t : ℕ) : Type 0 where
  pub number : NumberWritten t
  pub line_is : line ≡ word ++ space ∷ number.written

abbrev pub CallsAsWritten : Type 0
CallsAsWritten =
    ((line : List ℕ) (t : ℕ) (name : List ℕ) → (call_of line ≡ some (ask t name)) ↔ AskWritten line t name)
    × ((line : List ℕ) (t : ℕ) → (call_of line ≡ some (finish t)) ↔ TwoWritten finish_word line t)
    × ((line : List ℕ) (t : ℕ) → (call_of line ≡ some (withdraw t)) ↔ TwoWritten withdraw_word line t)
