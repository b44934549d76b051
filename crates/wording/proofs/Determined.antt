-- What each public function answers is determined: two answers that both meet its contract are one.
use mathlib.Core.Path.{◌≡◌, refl, sym, ap, ap₂, ◌∙◌}
use mathlib.Core.List.{List, []}
use mathlib.Core.Option.{Option, some, none}
use Prim.Native.Nat.{ℕ, ◌≤◌}
use native.Mathlib.Omega.{arith}
use lib.ListN.{length, length-drop}
use Rattle.std.specs.Prelude.{Option as Maybe, Some, None}
use Rattle.meaning.specs.Calls.{Call}
use Rattle.meaning.specs.Calls.Call.{ask, finish, withdraw}
use Rattle.wording.specs.Lines.{before}
use Rattle.wording.specs.Orders.{call_read, name_start}
use Rattle.wording.specs.Promises.{ReadLineDetermined, PutsDetermined, WritesDetermined}
use Rattle.wording.specs.declared.orders.Asking.{Asking}
use Rattle.wording.specs.declared.orders.Order.{Order}
use Rattle.wording.specs.declared.orders.Order.TheVariants.{Ask, Finish, Withdraw}

pub bytes_before_determined : (b : ℕ) (s : List ℕ) (r r' : ℕ) → r ≡ before b s → r' ≡ before b s → r ≡ r'
bytes_before_determined b s r r' e e' = e ∙ sym e'

pub puts_determined : PutsDetermined
puts_determined out s after after' at k k' h h' = (h.place ∙ sym h'.place, h.output ∙ sym h'.output)

pub writes_determined : WritesDetermined
writes_determined before after after' s h h' =
    let (place, output) = puts_determined _ _ _ _ _ _ _ h.puts h'.puts in (place, output, h.same_lent ∙ sym h'.same_lent)

-- what is told by a call that was read, or by none
abbrev kind_read : Option Call → ℕ
kind_read none = 3
kind_read (some (ask t n)) = 0
kind_read (some (finish t)) = 1
kind_read (some (withdraw t)) = 2

abbrev who_read : Option Call → ℕ
who_read none = 0
who_read (some (ask t n)) = t
who_read (some (finish t)) = t
who_read (some (withdraw t)) = t

abbrev name_read : Option Call → List ℕ
name_read none = []
name_read (some (ask t n)) = n
name_read (some (finish t)) = []
name_read (some (withdraw t)) = []

-- the call of an ask that was read tells who asks, and where the name starts: it has a byte, so it ends where the line does
ask_read_one : (line : List ℕ) (a b : Asking) → a.from ≤ length line → b.from ≤ length line
    → call_read line (Some (Ask a)) ≡ call_read line (Some (Ask b)) → a ≡ b
ask_read_one line a b fits fits' e =
    let lengths = length-drop a.from line in
    let lengths' = length-drop b.from line in
    let same_name = ap (λ o. length (name_read o)) e in
    let place : a.from ≡ b.from = omega (arith, lengths, lengths', same_name, fits, fits') in
    let who : a.terminal.0 ≡ b.terminal.0 = ap who_read e in
    ap₂ (λ t k. record { terminal = record { 0 = t }; from = k }) who place

read_one : (line : List ℕ) (r r' : Maybe Order) → name_start r ≤ length line → name_start r' ≤ length line → call_read line r ≡ call_read line r'
    → r ≡ r'
read_one line (Some (Ask a)) (Some (Ask b)) h h' e = ap (λ a. Some (Ask a)) (ask_read_one line a b h h' e)
read_one line (Some (Ask a)) (Some (Finish t)) h h' e = let clash = ap kind_read e in absurd (omega (arith, clash))
read_one line (Some (Ask a)) (Some (Withdraw t)) h h' e = let clash = ap kind_read e in absurd (omega (arith, clash))
read_one line (Some (Ask a)) None h h' e = let clash = ap kind_read e in absurd (omega (arith, clash))
read_one line (Some (Finish t)) (Some (Ask b)) h h' e = let clash = ap kind_read e in absurd (omega (arith, clash))
read_one line (Some (Finish t)) (Some (Finish u)) h h' e = ap (λ n. Some (Finish (record { 0 = n }))) (ap who_read e)
read_one line (Some (Finish t)) (Some (Withdraw u)) h h' e = let clash = ap kind_read e in absurd (omega (arith, clash))
read_one line (Some (Finish t)) None h h' e = let clash = ap kind_read e in absurd (omega (arith, clash))
read_one line (Some (Withdraw t)) (Some (Ask b)) h h' e = let clash = ap kind_read e in absurd (omega (arith, clash))
read_one line (Some (Withdraw t)) (Some (Finish u)) h h' e = let clash = ap kind_read e in absurd (omega (arith, clash))
read_one line (Some (Withdraw t)) (Some (Withdraw u)) h h' e = ap (λ n. Some (Withdraw (record { 0 = n }))) (ap who_read e)
read_one line (Some (Withdraw t)) None h h' e = let clash = ap kind_read e in absurd (omega (arith, clash))
read_one line None (Some (Ask b)) h h' e = let clash = ap kind_read e in absurd (omega (arith, clash))
read_one line None (Some (Finish u)) h h' e = let clash = ap kind_read e in absurd (omega (arith, clash))
read_one line None (Some (Withdraw u)) h h' e = let clash = ap kind_read e in absurd (omega (arith, clash))
read_one line None None h h' e = refl

pub read_line_determined : ReadLineDetermined
read_line_determined line r r' h h' = read_one line r r' h.within h'.within (h.call ∙ sym h'.call)
