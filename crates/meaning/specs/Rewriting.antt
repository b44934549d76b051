-- The four rewritings of document 001, section 5, anywhere inside a path, sequences and choices regrouped freely.
use Rattle.std.specs.Prelude.{◌≡◌}
use Rattle.meaning.specs.Words.{Expr}
use Rattle.meaning.specs.Words.Expr.{seq, choice, star}

-- one rewriting of a whole expression, or one regrouping
pub data Rule : Expr → Expr → Type 0 where
  -- ab + ac → a(b + c)
  factor_left : (a b c : Expr) → Rule (choice (seq a b) (seq a c)) (seq a (choice b c))
  -- ac + bc → (a + b)c
  factor_right : (a b c : Expr) → Rule (choice (seq a c) (seq b c)) (seq (choice a b) c)
  -- a + b → b + a
  exchange : (a b : Expr) → Rule (choice a b) (choice b a)
  -- a + a → a
  repeat : (a : Expr) → Rule (choice a a) a
  -- (ab)c → a(bc)
  regroup_seq : (a b c : Expr) → Rule (seq (seq a b) c) (seq a (seq b c))
  -- (a + b) + c → a + (b + c)
  regroup_choice : (a b c : Expr) → Rule (choice (choice a b) c) (choice a (choice b c))

-- a place inside a path: an expression with a hole
pub data Place : Type 0 where
  here : Place
  left_of_seq : Place → Expr → Place
  right_of_seq : Expr → Place → Place
  left_of_choice : Place → Expr → Place
  right_of_choice : Expr → Place → Place
  under_star : Place → Place

-- the path with x in its hole
unfoldable pub fill : Place → Expr → Expr
fill here x = x
fill (left_of_seq p e) x = seq (fill p x) e
fill (right_of_seq e p) x = seq e (fill p x)
fill (left_of_choice p e) x = choice (fill p x) e
fill (right_of_choice e p) x = choice e (fill p x)
fill (under_star p) x = star (fill p x)

-- y is x rewritten: any number of rules, at any places, in either direction
pub data Rewritten : Expr → Expr → Type 0 where
  same : (x : Expr) → Rewritten x x
  by : (p : Place) (a b x y : Expr) → Rule a b → x ≡ fill p a → y ≡ fill p b → Rewritten x y
  back : (x y : Expr) → Rewritten x y → Rewritten y x
  then : (x y z : Expr) → Rewritten x y → Rewritten y z → Rewritten x z
