-- What the readers promise each other, in terms of the machine of crates/grammar: reading a part takes the machine from one state to
-- another, or to a refusal. Nothing here needs to be believed: the contract of `compile` is in Compiling.antt.
use Rattle.std.specs.Prelude.{◌≡◌, Bool, true, false, cond, not, ◌&&◌, ◌||◌, List, ◌++◌, ◌⊎◌, ℕ, ◌+◌, ◌-◌, ◌≤◌, ◌<◌, eqb, length, drop, Result, Ok, Err, Some as Follows, None as Ends}
use Rattle.std.specs.Prelude as prelude
use Rattle.std.proofs.Math.Option.{Option, none}
use Rattle.meaning.specs.Names.{Name}
use Rattle.meaning.specs.Words.{Expr, names}
use Rattle.text.specs.Faults.{number_of, numbered}
use Rattle.text.specs.declared.faults.Fault.{Fault}
use Rattle.text.specs.Tokens.{next_token}
use Rattle.text.specs.declared.tokens.Token.{Token}
use Rattle.text.specs.declared.tokens.Token.TheVariants.{Semicolon, Plus, Star, Open, Close, Path, End, Name as Named, TextEnd, Bad, Long}
use Rattle.text.specs.declared.tokens.Read.{Read}
use Rattle.grammar.specs.Symbols.{items_from}
use Rattle.grammar.specs.Machine.{Left, State, Verdict, judge_from, nothing_left, then_after, sum_to}
use Rattle.grammar.specs.Machine.State.{wanting, having}
use Rattle.grammar.specs.Machine.Verdict.{refused}
use Rattle.table.specs.Cells.{zeros}
use Rattle.table.specs.declared.cells.Table.{Table}
use Rattle.parts.specs.declared.joining.Part.{Part}
use Rattle.parts.specs.Parts.{either, then, starred, completed}
use Rattle.parts.specs.Progress.{noted, Fine, part_of, star_times}
use Rattle.compiler.specs.declared.replies.Compiled.{Compiled}
use Rattle.compiler.specs.declared.readers.Reading.{Reading}
use Rattle.compiler.specs.declared.readers.Halt.{Halt}
use Rattle.compiler.specs.declared.replies.Refusal.{Refusal}

-- the number by which a token is refused where it does not fit
abbrev pub unfit : Token → ℕ
unfit Semicolon = 4
unfit Plus = 4
unfit Star = 4
unfit Open = 4
unfit Close = 4
unfit Path = 4
unfit End = 4
unfit (Named n) = 4
unfit TextEnd = 4
unfit Bad = 2
unfit Long = 3

-- the fault that has this number
abbrev pub fault_of : Token → Fault
fault_of t = numbered (unfit t)

-- what a reader's answer says: the number of refusal, or 0; how many bytes are left unread, or from the refusal's place on; and the part,
-- which is nothing where there is a refusal
pub record Seen : Type 0 where
  pub number : ℕ
  pub left : ℕ
  pub part : Part

abbrev pub part_read : ℕ → Part → Seen
part_read left p = record { number = 0; left = left; part = p }

abbrev pub read_so : Reading → Seen
read_so r = part_read r.left r.part

abbrev pub halted : ℕ → ℕ → Seen
halted n left = record { number = n; left = left; part = record { empty = false; first = 0; last = 0; table = zeros } }

abbrev pub seen : Result Reading Halt → Seen
seen (Ok r) = read_so r
seen (Err h) = halted (number_of h.fault) h.left

-- what r gives, with another part
abbrev pub with_part : Seen → Part → Seen
with_part r p = record { number = r.number; left = r.left; part = p }

-- l and then r, l or r
abbrev pub then_read : Seen → Seen → Seen
then_read l r = with_part r (then l.part r.part)

abbrev pub or_read : Seen → Seen → Seen
or_read l r = with_part r (either l.part r.part)

-- the token behind what was read
abbrev pub behind : List ℕ → Seen → Read
behind s r = next_token (drop (length s - r.left) s)

-- the number of a token's kind, by which tokens are told apart
abbrev pub kind : Token → ℕ
kind Semicolon = 0
kind Plus = 1
kind Star = 2
kind Open = 3
kind Close = 4
kind Path = 5
kind End = 6
kind (Named n) = 7
kind TextEnd = 8
kind Bad = 9
kind Long = 10

-- the tokens that have to stand somewhere: `)`, `path`, `end`, and the end of the text
abbrev pub is_close : Token → Bool
is_close t = eqb (kind t) 4

abbrev pub is_path : Token → Bool
is_path t = eqb (kind t) 5

abbrev pub is_end : Token → Bool
is_end t = eqb (kind t) 6

abbrev pub is_text_end : Token → Bool
is_text_end t = eqb (kind t) 8

-- a factor begins with it
abbrev pub begins : Token → Bool
begins t = eqb (kind t) 3 || eqb (kind t) 7

-- e, and the `)` behind it, or the refusal of what stands there instead
abbrev pub close_by : Seen → Read → Seen
close_by e u =
    cond (is_close u.token) (record { number = 0; left = e.left - u.used; part = e.part })
    (halted (unfit u.token) (e.left - u.start))

unfoldable pub closed : List ℕ → Seen → Seen
closed s e = cond (eqb e.number 0) (close_by e (behind s e)) e

-- what closing answers, of an expression with this part: how many bytes are left, or the refusal
abbrev pub closed_so : Result ℕ Halt → Part → Seen
closed_so (Ok left) p = part_read left p
closed_so (Err h) p = halted (number_of h.fault) h.left

-- what the program makes of an answer
abbrev pub made : Result Table Refusal → Compiled
made (Ok t) = record { reply = Ok tt; table = t }
made (Err r) = record { reply = Err r; table = zeros }

-- a refused compile
abbrev pub refused_at : ℕ → ℕ → Compiled
refused_at n k = made (Err (record { fault = numbered n; place = k }))

-- the whole path, where nothing but s is left, from place k on
abbrev pub conclude_by : Read → ℕ → Part → Compiled
conclude_by u k p = cond (is_text_end u.token) (made (Ok (completed p))) (refused_at (unfit u.token) (k + u.start))

unfoldable pub concluded : List ℕ → ℕ → Part → Compiled
concluded s k p = conclude_by (next_token s) k p

-- the expression of the text, and the `end` behind it
abbrev pub end_by : List ℕ → Seen → ℕ → Read → Compiled
end_by text e k u = cond (is_end u.token) (concluded (drop (k + u.used) text) (k + u.used) e.part) (refused_at (unfit u.token) (k + u.start))

unfoldable pub ended : List ℕ → Seen → Compiled
ended text e =
    cond (eqb e.number 0) (end_by text e (length text - e.left) (behind text e)) (refused_at e.number (length text - e.left))

-- which tokens may stand behind a factor, a sequence and an expression: what none of them would go on with
abbrev pub ends_factor : Token → Bool
ends_factor t = not (eqb (kind t) 2)

abbrev pub ends_sequence : Token → Bool
ends_sequence t = ends_factor t && not (eqb (kind t) 0) && not (begins t)

abbrev pub ends_expression : Token → Bool
ends_expression t = ends_sequence t && not (eqb (kind t) 1)

-- where the next factor of a sequence starts, by the token at byte k: behind a `;`, or at once
abbrev pub factor_by : Token → ℕ → ℕ → prelude.Option ℕ
factor_by t k used = cond (eqb (kind t) 0) (Follows (k + used)) (cond (begins t) (Follows k) Ends)

-- where the next sequence of a sum starts: behind a `+`
abbrev pub sequence_by : Token → ℕ → ℕ → prelude.Option ℕ
sequence_by t k used = cond (eqb (kind t) 1) (Follows (k + used)) Ends

-- the same where `left` bytes of s are unread
abbrev pub from_by : (Token → ℕ → ℕ → prelude.Option ℕ) → List ℕ → ℕ → prelude.Option ℕ
from_by by s left = by (next_token (drop (length s - left) s)).token (length s - left) (next_token (drop (length s - left) s)).used

abbrev pub factor_from : List ℕ → ℕ → prelude.Option ℕ
factor_from = from_by factor_by

abbrev pub sequence_from : List ℕ → ℕ → prelude.Option ℕ
sequence_from = from_by sequence_by

-- the text, from where `left` bytes are unread
abbrev pub rest : List ℕ → ℕ → List ℕ
rest text left = drop (length text - left) text

-- s is what is left of a text
pub record Tail (text s : List ℕ) : Type 0 where
  pub within : length s ≤ length text
  pub same : s ≡ rest text (length s)

-- what the machine says of a text of which `left` bytes are unread
unfoldable pub verdict : List ℕ → ℕ → State → List Name → Verdict
verdict text left st ns = judge_from (length text) (items_from (length text - left) (rest text left)) st ns

-- reading from s to where r stands takes the machine, whatever parentheses are open around it, from one state to another ..
abbrev pub Goes : List ℕ → ℕ → ℕ → (List Left → State) → List Name → (List Left → State) → List Name → Type 0
Goes s left d from ns to ns' =
    (text : List ℕ) (ks : List Left) → Tail text s → length ks ≡ d → verdict text (length s) (from ks) ns ≡ verdict text left (to ks) ns'

-- .. or to a refusal
abbrev pub Stops : List ℕ → Seen → ℕ → (List Left → State) → List Name → Type 0
Stops s r d from ns =
    (text : List ℕ) (ks : List Left) → Tail text s → length ks ≡ d
    → verdict text (length s) (from ks) ns ≡ refused r.number (length text - r.left)

-- stars were read from the front of s, and none stands behind them
pub record StarsRead (s : List ℕ) (used : ℕ) : Type 0 where
  pub within : used ≤ length s
  pub times : ℕ
  pub some_if : eqb used 0 ≡ eqb times 0
  pub ends : ends_factor (next_token (drop used s)).token ≡ true
  pub goes : (l : Left) (f : Expr) (d : ℕ) (ns : List Name)
      → Goes s (length s - used) d (λ ks. having l f ks) ns (λ ks. having l (star_times times f) ks) ns

-- p with its stars
pub record StarryRead (s : List ℕ) (p r : Seen) : Type 0 where
  pub within : r.left ≤ p.left
  pub refused_stays : (p.number ≡ 0 → ⊥) → r ≡ p
  pub times : ℕ
  pub number_stays : r.number ≡ p.number
  pub part_starred : p.number ≡ 0 → r.part ≡ cond (eqb times 0) p.part (starred p.part)
  pub ends : p.number ≡ 0 → ends_factor (behind s r).token ≡ true
  pub goes : p.number ≡ 0 → (l : Left) (f : Expr) (d : ℕ) (ns : List Name) (text : List ℕ) (ks : List Left) → Tail text s → length ks ≡ d
      → verdict text p.left (having l f ks) ns ≡ verdict text r.left (having l (star_times times f) ks) ns

-- the part e was read behind the names ns, with the rows rs
pub record PartRead (s : List ℕ) (r : Seen) (ends : Token → Bool) (ns : List Name) (rs : List ℕ) (e : Expr) : Type 0 where
  pub part : r.part ≡ part_of e ns rs
  pub fine : Fine (ns ++ names e)
  pub ended : ends (behind s r).token ≡ true

-- a reading is one of two: a part, or a refusal
abbrev pub EitherWay : Seen → Type 0 → Type 0 → Type 0
EitherWay r goes stops = ((r.number ≡ 0) × goes) ⊎ ((r.number ≡ 0 → ⊥) × stops)

-- what stands to the left: a sum, and behind it a sequence
abbrev pub on_sum : Option Expr → Option Expr → Left
on_sum s r = record { sum = s; run = r }

-- what a reader of some kind of part promises. `from` is the state in which such a part has to come and `to` the one in which it was
-- read, whatever stands around it (A); what was read (B) has an expression, and `ends` tells the tokens that may stand behind it
pub record ReadsAs {A B : Type 0} (from : A → List Left → State) (to : A → B → List Left → State) (whole : B → Expr)
    (ends : Token → Bool) (s : List ℕ) (d : ℕ) (t : Table) (r : Seen) : Type 0 where
  pub within : r.left ≤ length s
  pub fewer : r.number ≡ 0 → r.left < length s
  pub outcome : (ns : List Name) (rs : List ℕ) → t ≡ noted ns rs → Fine ns
      → EitherWay r
      ((b : B) × PartRead s r ends ns rs (whole b) × ((a : A) → Goes s r.left d (from a) ns (to a b) (ns ++ names (whole b))))
      ((a : A) → Stops s r d (from a) ns)

-- a factor, whatever stands to its left
abbrev pub FactorRead : List ℕ → ℕ → Table → Seen → Type 0
FactorRead = ReadsAs {A = Left} {B = Expr} (λ l ks. wanting l ks) (λ l f ks. having l f ks) (λ f. f) ends_factor

-- a sequence, whatever sum stands to its left: all but its last factor, and that
abbrev pub Run : Type 0
Run = Option Expr × Expr

abbrev pub SequenceRead : (Token → Bool) → List ℕ → ℕ → Table → Seen → Type 0
SequenceRead =
    ReadsAs {A = Option Expr} {B = Run} (λ sum ks. wanting (on_sum sum none) ks) (λ sum b ks. having (on_sum sum b.0) b.1 ks)
    (λ b. then_after b.0 b.1)

-- an expression: all but its last factor, and that
abbrev pub Sum : Type 0
Sum = Left × Expr

abbrev pub ExpressionRead : (Token → Bool) → List ℕ → ℕ → Table → Seen → Type 0
ExpressionRead =
    ReadsAs {A = Unit {0}} {B = Sum} (λ _ ks. wanting nothing_left ks) (λ _ b ks. having b.0 b.1 ks) (λ b. sum_to b.0 b.1)
