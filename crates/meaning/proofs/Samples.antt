-- What the definitions compute: the readings of document 01 that concern the rules alone, and the errors that it expects, one list
-- of cases for each claim; and a rewriting inside a longer sum.
use mathlib.Core.Path.{◌≡◌, refl}
use mathlib.Core.Bool.{Bool, true, false}
use mathlib.Core.List.{List, [], ◌∷◌, map}
use Prim.Native.Nat.{ℕ}
use Rattle.meaning.specs.Names.{Name, key, same}
use Rattle.meaning.specs.Words.{Expr}
use Rattle.meaning.specs.Words.Expr.{name, seq, choice, star}
use Rattle.meaning.specs.Sets.{mem, union_of}
use Rattle.meaning.specs.Positions.{size, can_be_empty, first, last, follows, positions_of, row, rows_from, rows, start, permission}
use Rattle.meaning.specs.Following.{permits}
use Rattle.meaning.specs.Rewriting.{fill, Rewritten}
use Rattle.meaning.specs.Rewriting.Rule.{factor_left, regroup_choice}
use Rattle.meaning.specs.Rewriting.Place.{here, right_of_choice}
use Rattle.meaning.specs.Rewriting.Rewritten.{by, then}

abbrev a : Name
a = 97 ∷ []

abbrev b : Name
b = 98 ∷ []

abbrev c : Name
c = 99 ∷ []

-- an expression, its start set and its rows; {1} is 1, {2} is 2, {1 4} is 9
record Reading : Type 0 where
  path : Expr
  starts : ℕ
  rowed : List ℕ

readings : List Reading
readings =
    -- a b (a + b*) c: rows {2} {3 4 5} {5} {4 5} {1}
    record {
      path = seq (seq (seq (name a) (name b)) (choice (name a) (star (name b)))) (name c);
      starts = 1;
      rowed = 2 ∷ 28 ∷ 16 ∷ 24 ∷ 1 ∷ [];
    }
    -- write (write (write read)* read)* read, with a for write and b for read: rows {2 6} {3 5} {4} {3 5} {2 6} {1}
    ∷ record {
      path = seq (seq (name a) (star (seq (seq (name a) (star (seq (name a) (name b)))) (name b)))) (name b);
      starts = 1;
      rowed = 34 ∷ 20 ∷ 8 ∷ 20 ∷ 34 ∷ 1 ∷ [];
    }
    -- a (b + b (a b)*): rows {2 3} {1} {1 4} {5} {1 4}
    ∷ record {
      path = seq (name a) (choice (name b) (seq (name b) (star (seq (name a) (name b)))));
      starts = 1;
      rowed = 6 ∷ 1 ∷ 9 ∷ 16 ∷ 9 ∷ [];
    }
    -- a*: row {1}
    ∷ record { path = star (name a); starts = 1; rowed = 1 ∷ [] }
    ∷ []

readings_are_so : map (λ r. rows r.path) readings ≡ map (λ r. r.rowed) readings
unfolding readings mem size can_be_empty first last follows row rows_from rows
readings_are_so = refl

readings_start_so : map (λ r. start r.path) readings ≡ map (λ r. r.starts) readings
unfolding readings size can_be_empty first start
readings_start_so = refl

-- an expression, a history, and whether it is permitted
record Question : Type 0 where
  path : Expr
  history : List Name
  answer : Bool

questions : List Question
questions =
    -- the last positions lead back to the first
    record { path = seq (name a) (name b); history = a ∷ b ∷ a ∷ []; answer = true }
    ∷ record { path = seq (name a) (name b); history = a ∷ a ∷ []; answer = false }
    -- a b + a c permits b as well as c after a
    ∷ record { path = choice (seq (name a) (name b)) (seq (name a) (name c)); history = a ∷ b ∷ []; answer = true }
    ∷ record { path = choice (seq (name a) (name b)) (seq (name a) (name c)); history = a ∷ c ∷ []; answer = true }
    -- a b* c permits c after a
    ∷ record { path = seq (seq (name a) (star (name b))) (name c); history = a ∷ c ∷ []; answer = true }
    -- (inject exclude)* count: no count between an inject and its exclude
    ∷ record { path = seq (star (seq (name a) (name b))) (name c); history = a ∷ b ∷ c ∷ c ∷ []; answer = true }
    ∷ record { path = seq (star (seq (name a) (name b))) (name c); history = a ∷ c ∷ []; answer = false }
    ∷ []

questions_are_answered : map (λ q. permits (rows q.path) (permission q.path) (start q.path) q.history) questions ≡ map (λ q. q.answer) questions
unfolding questions key same mem union_of size can_be_empty first last follows positions_of row rows_from rows start permission permits
questions_are_answered = refl

-- d + ab + ac, grouped from the left as it is read, rewritten inside the sum to d + a(b + c)
rewritten_inside_a_sum : (x y z u : Expr) → Rewritten (choice (choice u (seq x y)) (seq x z)) (choice u (seq x (choice y z)))
unfolding fill
rewritten_inside_a_sum x y z u =
    then _ (choice u (choice (seq x y) (seq x z))) _
    (by here _ _ _ _ (regroup_choice u (seq x y) (seq x z)) refl refl)
    (by (right_of_choice u here) _ _ _ _ (factor_left x y z) refl refl)
