-- Document 01, "Program": the call that a line is. `Maybe` is the Option of the program, which reads; `Option` is that of the calls.
use Rattle.std.specs.Prelude.{◌≡◌, Bool, true, false, cond, ◌&&◌, List, [], ◌∷◌, ℕ, ◌+◌, ◌*◌, ◌-◌, ◌≤◌, leb, length, drop}
use Rattle.std.specs.Prelude.{Option as Maybe, Some, None}
use Rattle.std.proofs.Math.Option.{Option, some, none}
use Rattle.standing.specs.declared.numbers.Terminal.{Terminal}
use Rattle.meaning.specs.Names.{same}
use Rattle.meaning.specs.Calls.{Call}
use Rattle.meaning.specs.Calls.Call.{ask, finish, withdraw}
use Rattle.text.specs.Classes.{is_digit}
use Rattle.wording.specs.Lines.{fields_of}
use Rattle.wording.specs.declared.orders.Order.{Order}
use Rattle.wording.specs.declared.orders.Order.TheVariants.{Ask, Finish, Withdraw}

-- the bytes of `ask`, of `finish` and of `withdraw`
abbrev pub ask_word : List ℕ
ask_word = 97 ∷ 115 ∷ 107 ∷ []

abbrev pub finish_word : List ℕ
finish_word = 102 ∷ 105 ∷ 110 ∷ 105 ∷ 115 ∷ 104 ∷ []

abbrev pub withdraw_word : List ℕ
withdraw_word = 119 ∷ 105 ∷ 116 ∷ 104 ∷ 100 ∷ 114 ∷ 97 ∷ 119 ∷ []

-- all of the bytes are digits
unfoldable pub all_digits : List ℕ → Bool
all_digits [] = true
all_digits (b ∷ s) = is_digit b && all_digits s

-- "T of 1 to 3 digits"
unfoldable pub is_number : List ℕ → Bool
is_number s = leb 1 (length s) && leb (length s) 3 && all_digits s

-- the value of digits behind a number v
unfoldable pub value_from : ℕ → List ℕ → ℕ
value_from v [] = v
value_from v (b ∷ s) = value_from (v * 10 + (b - 48)) s

-- the value of digits
abbrev pub value_of : List ℕ → ℕ
value_of s = value_from 0 s

-- "NAME one or more bytes without a space": a field has no space, so it must only have a byte
abbrev pub is_not_empty : List ℕ → Bool
is_not_empty [] = false
is_not_empty (b ∷ s) = true

-- "`finish T` or `withdraw T`"
unfoldable pub two_fields : List ℕ → List ℕ → Option Call
two_fields word t =
    cond (is_number t)
    (cond (same word finish_word) (some (finish (value_of t)))
    (cond (same word withdraw_word) (some (withdraw (value_of t))) none))
    none

-- "`ask T NAME`"
unfoldable pub three_fields : List ℕ → List ℕ → List ℕ → Option Call
three_fields word t name = cond (same word ask_word && is_number t && is_not_empty name) (some (ask (value_of t) name)) none

-- "Any other line" is no call
abbrev pub call_in : List (List ℕ) → Option Call
call_in [] = none
call_in (word ∷ []) = none
call_in (word ∷ t ∷ []) = two_fields word t
call_in (word ∷ t ∷ name ∷ []) = three_fields word t name
call_in (word ∷ t ∷ name ∷ more ∷ fields) = none

-- "Each later line is `ask T NAME`, `finish T` or `withdraw T`"
unfoldable pub call_of : List ℕ → Option Call
call_of line = call_in (fields_of line)

-- ---- For the functions inside: the contract of `read_line` does not speak of these three.

-- the number that some bytes are, as the program holds it
unfoldable pub number_in : List ℕ → Maybe Terminal
number_in s = cond (is_number s) (Some (record { 0 = value_of s })) None

-- what is read in two fields, and in the last two of three: a number, and a name that starts at a place
abbrev pub two_read : List ℕ → Maybe Terminal → Maybe Order
two_read word (Some t) = cond (same word finish_word) (Some (Finish t)) (cond (same word withdraw_word) (Some (Withdraw t)) None)
two_read word None = None

abbrev pub three_read : Maybe Terminal → ℕ → Maybe Order
three_read (Some t) from = Some (Ask (record { terminal = t; from = from }))
three_read None from = None

-- ---- The contract of `read_line`.

-- the call that was read in a line, if one was, and where its name starts
abbrev pub call_read : List ℕ → Maybe Order → Option Call
call_read line (Some (Ask a)) = some (ask a.terminal.0 (drop a.from line))
call_read line (Some (Finish t)) = some (finish t.0)
call_read line (Some (Withdraw t)) = some (withdraw t.0)
call_read line None = none

abbrev pub name_start : Maybe Order → ℕ
name_start (Some (Ask a)) = a.from
name_start (Some (Finish t)) = 0
name_start (Some (Withdraw t)) = 0
name_start None = 0

-- what is read in a line is the call that some fields are, and its name stands in the line
pub record ReadsAs (line : List ℕ) (fields : List (List ℕ)) (r : Maybe Order) : Type 0 where
  pub call : call_read line r ≡ call_in fields
  pub within : name_start r ≤ length line

-- what is read in a line is its call
abbrev pub Reads : List ℕ → Maybe Order → Type 0
Reads line r = ReadsAs line (fields_of line) r
