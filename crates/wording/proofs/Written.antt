-- A line is a call exactly if it is written as one: the fields of a line, joined by spaces, are the line, and none has a space in it.
use mathlib.Core.Path.{◌≡◌, refl, sym, ap, ◌∙◌}
use mathlib.Core.Bool.{Bool, true, false, cond}
use mathlib.Core.List.{List, [], ◌∷◌, ◌++◌, nil≢cons}
use mathlib.Core.Logic.{◌⊎◌, inl, inr, ⊎_elim}
use mathlib.Core.Option.{Option, some, none, none-ne-some}
use Prim.Native.Nat.{ℕ, suc, ◌≤◌}
use native.Mathlib.Omega.{arith}
use borrow.Author.Tests.{eqb-true}
use lib.Dec.{eqb}
use lib.ListN.{length}
use Rattle.meaning.specs.Names.{same}
use Rattle.meaning.specs.Calls.{Call}
use Rattle.meaning.specs.Calls.Call.{ask, finish, withdraw}
use Rattle.meaning.proofs.NameLaws.{same_equal}
use Rattle.text.specs.Tokens.{span}
use Rattle.wording.specs.Lines.{space, before, fields_of}
use Rattle.wording.specs.Orders.{ask_word, finish_word, withdraw_word, is_number, value_of, is_not_empty, two_fields, three_fields, call_in, call_of}
use Rattle.wording.specs.Promises.{AskWritten, TwoWritten, CallsAsWritten}
use Rattle.wording.proofs.Fields.{one_field, some_field, digits_no_space, number_digits}

-- the fields with a space between any two
unfoldable joined : List (List ℕ) → List ℕ
joined [] = []
joined (f ∷ []) = f
joined (f ∷ g ∷ fs) = f ++ space ∷ joined (g ∷ fs)

joined_onto : (b : ℕ) (f : List ℕ) (fs : List (List ℕ)) → joined ((b ∷ f) ∷ fs) ≡ b ∷ joined (f ∷ fs)
unfolding joined
joined_onto b f [] = refl
joined_onto b f (g ∷ fs) = refl

fields_joined : (s : List ℕ) → joined (fields_of s) ≡ s
unfolding joined fields_of
fields_joined [] = refl
fields_joined (b ∷ s) = go (eqb b space) refl (some_field s) (fields_joined s)
  where
    go : (t : Bool) → eqb b space ≡ t → (w : List ℕ) × (ws : List (List ℕ)) × (fields_of s ≡ w ∷ ws) → joined (fields_of s) ≡ s
        → joined (fields_of (b ∷ s)) ≡ b ∷ s
    go true e (w, ws, is) rest = let same_byte = eqb-true b space e in rw (e, is) (rw same_byte (ap (λ r. space ∷ r) (rw is at rest)))
    go false e (w, ws, is) rest = rw (e, is) (joined_onto b w ws ∙ ap (λ r. b ∷ r) (rw is at rest))

-- ---- no field has a space
unfoldable NoSpaces : List (List ℕ) → Type 0
NoSpaces [] = Unit {0}
NoSpaces (f ∷ fs) = (before space f ≡ length f) × NoSpaces fs

fields_no_spaces : (s : List ℕ) → NoSpaces (fields_of s)
unfolding NoSpaces span fields_of
fields_no_spaces [] = (refl, tt)
fields_no_spaces (b ∷ s) = go (eqb b space) refl (fields_of s) refl (fields_no_spaces s)
  where
    go : (t : Bool) → eqb b space ≡ t → (fs : List (List ℕ)) → fields_of s ≡ fs → NoSpaces (fields_of s) → NoSpaces (fields_of (b ∷ s))
    go true e fs is rest = rw e (refl, rest)
    go false e [] is rest = rw (e, is) (rw e refl, tt)
    go false e (f ∷ fs) is rest = let (here, others) = rw is at rest in rw (e, is) (rw e (ap suc here), others)

-- bytes without a space, in front of a space
fields_front : (f s : List ℕ) → length f ≤ before space f → fields_of (f ++ space ∷ s) ≡ f ∷ fields_of s
unfolding span fields_of
fields_front [] s h = refl
fields_front (b ∷ f) s h = go (eqb b space) refl (fields_front f s)
  where
    go : (t : Bool) → eqb b space ≡ t → (length f ≤ before space f → fields_of (f ++ space ∷ s) ≡ f ∷ fields_of s)
        → fields_of ((b ∷ f) ++ space ∷ s) ≡ (b ∷ f) ∷ fields_of s
    go true e rest = absurd (omega (arith, rw e at h))
    go false e rest = rw (e, rest (omega (arith, rw e at h))) refl

-- ---- what fields say that are a call
or_else : Call → Option Call → Call
or_else d none = d
or_else d (some c) = c

two_says : (w s : List ℕ) (c : Call) → two_fields w s ≡ some c
    → (is_number s ≡ true) × (((w ≡ finish_word) × (c ≡ finish (value_of s))) ⊎ ((w ≡ withdraw_word) × (c ≡ withdraw (value_of s))))
unfolding or_else two_fields
two_says w s c e = go (is_number s) (same w finish_word) (same w withdraw_word) refl refl refl e
  where
    go : (n f d : Bool) → is_number s ≡ n → same w finish_word ≡ f → same w withdraw_word ≡ d → two_fields w s ≡ some c
        → (is_number s ≡ true) × (((w ≡ finish_word) × (c ≡ finish (value_of s))) ⊎ ((w ≡ withdraw_word) × (c ≡ withdraw (value_of s))))
    go false f d p q r h = absurd (none-ne-some c (rw p at h))
    go true true d p q r h = (p, inl (same_equal w finish_word q, sym (ap (or_else c) (rw (p, q) at h))))
    go true false true p q r h = (p, inr (same_equal w withdraw_word r, sym (ap (or_else c) (rw (p, q, r) at h))))
    go true false false p q r h = absurd (none-ne-some c (rw (p, q, r) at h))

three_says : (w s n : List ℕ) (c : Call) → three_fields w s n ≡ some c
    → (is_number s ≡ true) × (w ≡ ask_word) × (n ≡ [] → ⊥) × (c ≡ ask (value_of s) n)
unfolding or_else three_fields
three_says w s n c e = go (same w ask_word) (is_number s) n refl refl e
  where
    go : (f d : Bool) (n : List ℕ) → same w ask_word ≡ f → is_number s ≡ d → three_fields w s n ≡ some c
        → (is_number s ≡ true) × (w ≡ ask_word) × (n ≡ [] → ⊥) × (c ≡ ask (value_of s) n)
    go false d n q p h = absurd (none-ne-some c (rw q at h))
    go true false n q p h = absurd (none-ne-some c (rw (q, p) at h))
    go true true [] q p h = absurd (none-ne-some c (rw (q, p) at h))
    go true true (b ∷ n) q p h =
        (p, same_equal w ask_word q, (λ none_left. nil≢cons (sym none_left)), sym (ap (or_else c) (rw (q, p) at h)))

-- the ways in which a line can be written that is call c
data Written (line : List ℕ) (c : Call) : Type 0 where
  ask_line : (s n : List ℕ) → is_number s ≡ true → (n ≡ [] → ⊥) → before space n ≡ length n
      → line ≡ ask_word ++ space ∷ (s ++ space ∷ n) → c ≡ ask (value_of s) n → Written line c
  finish_line : (s : List ℕ) → is_number s ≡ true → line ≡ finish_word ++ space ∷ s → c ≡ finish (value_of s) → Written line c
  withdraw_line : (s : List ℕ) → is_number s ≡ true → line ≡ withdraw_word ++ space ∷ s → c ≡ withdraw (value_of s) → Written line c

call_written : (line : List ℕ) (c : Call) → call_of line ≡ some c → Written line c
unfolding NoSpaces joined call_of
call_written line c e = go (fields_of line) refl (fields_joined line) (fields_no_spaces line) e
  where
    go : (fs : List (List ℕ)) → fields_of line ≡ fs → joined (fields_of line) ≡ line → NoSpaces (fields_of line)
        → call_in (fields_of line) ≡ some c → Written line c
    go [] is all free h = absurd (none-ne-some c (rw is at h))
    go (w ∷ []) is all free h = absurd (none-ne-some c (rw is at h))
    go (w ∷ s ∷ []) is all free h =
        let (number, either) = two_says w s c (rw is at h) in
        let whole : line ≡ w ++ space ∷ s = sym (rw is at all) in
        ⊎_elim
        (λ (word, call). finish_line s number (whole ∙ ap (λ v. v ++ space ∷ s) word) call)
        (λ (word, call). withdraw_line s number (whole ∙ ap (λ v. v ++ space ∷ s) word) call)
        either
    go (w ∷ s ∷ n ∷ []) is all free h =
        let (number, word, filled, call) = three_says w s n c (rw is at h) in
        let whole : line ≡ w ++ space ∷ (s ++ space ∷ n) = sym (rw is at all) in
        let no-spaces = rw is at free in
        ask_line s n number filled no-spaces.1.1.0 (whole ∙ ap (λ v. v ++ space ∷ (s ++ space ∷ n)) word) call
    go (w ∷ s ∷ n ∷ m ∷ fs) is all free h = absurd (none-ne-some c (rw is at h))

-- ---- and the other way round
number_free : (s : List ℕ) → is_number s ≡ true → length s ≤ before space s
number_free s e = digits_no_space s (number_digits s e)

ask_called : (s n : List ℕ) → is_number s ≡ true → (n ≡ [] → ⊥) → before space n ≡ length n
    → call_of (ask_word ++ space ∷ (s ++ space ∷ n)) ≡ some (ask (value_of s) n)
unfolding same span call_of three_fields
ask_called s n number filled free =
    let rest = fields_front s n (number_free s number) in
    let last = one_field n (omega (arith, free)) in
    rw (fields_front ask_word (s ++ space ∷ n) (omega arith), rest, last, number) (by_name n filled)
  where
    by_name : (n : List ℕ) → (n ≡ [] → ⊥) → cond (is_not_empty n) (some (ask (value_of s) n)) none ≡ some (ask (value_of s) n)
    by_name [] h = absurd (h refl)
    by_name (b ∷ n) h = refl

two_called : (w s : List ℕ) → length w ≤ before space w → is_number s ≡ true → call_of (w ++ space ∷ s) ≡ two_fields w s
unfolding call_of
two_called w s free number = ap call_in (fields_front w s free ∙ ap (λ fs. w ∷ fs) (one_field s (number_free s number)))

finish_called : (s : List ℕ) → is_number s ≡ true → call_of (finish_word ++ space ∷ s) ≡ some (finish (value_of s))
unfolding same span two_fields
finish_called s number = two_called finish_word s (omega arith) number ∙ rw number refl

withdraw_called : (s : List ℕ) → is_number s ≡ true → call_of (withdraw_word ++ space ∷ s) ≡ some (withdraw (value_of s))
unfolding same span two_fields
withdraw_called s number = two_called withdraw_word s (omega arith) number ∙ rw number refl

-- ---- calls are told apart
kind_of : Call → ℕ
kind_of (ask t n) = 0
kind_of (finish t) = 1
kind_of (withdraw t) = 2

whose : Call → ℕ
whose (ask t n) = t
whose (finish t) = t
whose (withdraw t) = t

named : Call → List ℕ
named (ask t n) = n
named (finish t) = []
named (withdraw t) = []

as_ask : (line : List ℕ) (t : ℕ) (name : List ℕ) → Written line (ask t name) → AskWritten line t name
unfolding kind_of whose named
as_ask line t name (ask_line s n number filled free is call) =
    let names : name ≡ n = ap named call in
    record {
      number = record { written = s; is_number = number; value = sym (ap whose call) };
      some_byte = λ e. filled (sym names ∙ e);
      no_space = rw names free;
      line_is = is ∙ rw names refl;
    }
as_ask line t name (finish_line s number is call) = let clash = ap kind_of call in absurd (omega (arith, clash))
as_ask line t name (withdraw_line s number is call) = let clash = ap kind_of call in absurd (omega (arith, clash))

as_finish : (line : List ℕ) (t : ℕ) → Written line (finish t) → TwoWritten finish_word line t
unfolding kind_of whose
as_finish line t (ask_line s n number filled free is call) = let clash = ap kind_of call in absurd (omega (arith, clash))
as_finish line t (finish_line s number is call) =
    record { number = record { written = s; is_number = number; value = sym (ap whose call) }; line_is = is }
as_finish line t (withdraw_line s number is call) = let clash = ap kind_of call in absurd (omega (arith, clash))

as_withdraw : (line : List ℕ) (t : ℕ) → Written line (withdraw t) → TwoWritten withdraw_word line t
unfolding kind_of whose
as_withdraw line t (ask_line s n number filled free is call) = let clash = ap kind_of call in absurd (omega (arith, clash))
as_withdraw line t (finish_line s number is call) = let clash = ap kind_of call in absurd (omega (arith, clash))
as_withdraw line t (withdraw_line s number is call) =
    record { number = record { written = s; is_number = number; value = sym (ap whose call) }; line_is = is }

pub calls_as_written : CallsAsWritten
calls_as_written = (
  λ line t name. (
    λ e. as_ask line t name (call_written line (ask t name) e),
    λ w.
        ap call_of w.line_is
        ∙ ask_called w.number.written name w.number.is_number w.some_byte w.no_space
        ∙ ap (λ v. some (ask v name)) w.number.value,
  ),
  λ line t. (
    λ e. as_finish line t (call_written line (finish t) e),
    λ w. ap call_of w.line_is ∙ finish_called w.number.written w.number.is_number ∙ ap (λ v. some (finish v)) w.number.value,
  ),
  λ line t. (
    λ e. as_withdraw line t (call_written line (withdraw t) e),
    λ w. ap call_of w.line_is ∙ withdraw_called w.number.written w.number.is_number ∙ ap (λ v. some (withdraw v)) w.number.value,
  ),
)
