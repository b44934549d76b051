-- The longer path of document 001, section 5, is rewritten into the shorter one. x is part of y if x + y is rewritten into y; two expressions
-- that are part of each other are rewritten into each other, and which are is seen term by term.
use mathlib.Core.Path.{◌≡◌, refl, ap, ◌∙◌}
use Rattle.meaning.specs.Words.{Expr}
use Rattle.meaning.specs.Words.Expr.{seq, choice}
use Rattle.meaning.specs.Rewriting.{Rule, Place, fill, Rewritten}
use Rattle.meaning.specs.Rewriting.Rule.{factor_left, factor_right, exchange, repeat, regroup_choice}
use Rattle.meaning.specs.Rewriting.Place.{here, left_of_seq, right_of_seq, left_of_choice, right_of_choice}
use Rattle.meaning.specs.Rewriting.Rewritten.{same, by, back, then}
use Rattle.meaning.specs.Promises.{longer, shorter, LongerRewritten}

-- one rule, at the whole; a rewriting turned round; one rewriting after the other
rule : {x y : Expr} → Rule x y → Rewritten x y
unfolding fill
rule r = by here _ _ _ _ r refl refl

turned : {x y : Expr} → Rewritten x y → Rewritten y x
turned r = back _ _ r

infixr 20 ◌▸◌
◌▸◌ : {x y z : Expr} → Rewritten x y → Rewritten y z → Rewritten x z
r ▸ q = then _ _ _ r q

-- a rewriting of a part is one of the whole f: its places are one further in
inside : (f : Expr → Expr) (further : Place → Place) → ((p : Place) (x : Expr) → f (fill p x) ≡ fill (further p) x)
    → {x y : Expr} → Rewritten x y → Rewritten (f x) (f y)
inside f further law (same x) = same (f x)
inside f further law (by p a b x y r d e) = by (further p) a b (f x) (f y) r (ap f d ∙ law p a) (ap f e ∙ law p b)
inside f further law (back x y r) = turned (inside f further law r)
inside f further law (then x y z r q) = inside f further law r ▸ inside f further law q

module _ {x y : Expr} (z : Expr) (r : Rewritten x y) where
  before : Rewritten (seq x z) (seq y z)
  unfolding fill
  before = inside (λ e. seq e z) (λ p. left_of_seq p z) (λ p e. refl) r

  behind : Rewritten (seq z x) (seq z y)
  unfolding fill
  behind = inside (seq z) (right_of_seq z) (λ p e. refl) r

  left : Rewritten (choice x z) (choice y z)
  unfolding fill
  left = inside (λ e. choice e z) (λ p. left_of_choice p z) (λ p e. refl) r

  right : Rewritten (choice z x) (choice z y)
  unfolding fill
  right = inside (choice z) (right_of_choice z) (λ p e. refl) r

-- x adds nothing to y
abbrev Part : Expr → Expr → Type 0
Part x y = Rewritten (choice x y) y

part_of_each_other : {x y : Expr} → Part x y → Part y x → Rewritten x y
part_of_each_other h k = turned k ▸ rule (exchange _ _) ▸ h

-- an expression is part of itself, and a part of a summand is part of the sum
itself : {x : Expr} → Part x x
itself = rule (repeat _)

of_left : {x y z : Expr} → Part x y → Part x (choice y z)
of_left h = turned (rule (regroup_choice _ _ _)) ▸ left _ h

of_right : {x y z : Expr} → Part x y → Part x (choice z y)
of_right h = right _ (rule (exchange _ _)) ▸ of_left h ▸ rule (exchange _ _)

-- a sum of parts is a part, and a sequence of parts is part of the sequence
sum : {x y z : Expr} → Part x z → Part y z → Part (choice x y) z
sum h k = rule (regroup_choice _ _ _) ▸ right _ k ▸ h

chained : {x y z : Expr} → Part x y → Part y z → Part x z
chained h k = right _ (turned k) ▸ turned (rule (regroup_choice _ _ _)) ▸ left _ h ▸ k

both : {x x' y y' : Expr} → Part x y → Part x' y' → Part (seq x x') (seq y y')
both h k = chained (rule (factor_right _ _ _) ▸ before _ h) (rule (factor_left _ _ _) ▸ behind _ k)

-- where all products are parts, so is the product of the sums
sum_before : {x y z w : Expr} → Part (seq x z) w → Part (seq y z) w → Part (seq (choice x y) z) w
sum_before h k = left _ (turned (rule (factor_right _ _ _))) ▸ sum h k

sum_behind : {x y z w : Expr} → Part (seq z x) w → Part (seq z y) w → Part (seq z (choice x y)) w
sum_behind h k = left _ (turned (rule (factor_left _ _ _))) ▸ sum h k

-- which sequence is part of which sum
ruleset parts = (itself, of_left, of_right, both)

module _ (a b c p q r : Expr) where
  longer_in_shorter : Part (longer a b c p q r) (shorter a b c p q r)
  longer_in_shorter = search (sum, parts) depth 12

  -- each of the nine products is in one of the six terms
  shorter_in_longer : Part (shorter a b c p q r) (longer a b c p q r)
  shorter_in_longer =
      sum_before (sum_before
      (sum_behind (sum_behind (search parts depth 8) (search parts depth 8)) (search parts depth 8))
      (sum_behind (sum_behind (search parts depth 8) (search parts depth 8)) (search parts depth 8)))
      (sum_behind (sum_behind (search parts depth 8) (search parts depth 8)) (search parts depth 8))

pub longer_rewritten : LongerRewritten
longer_rewritten a b c p q r = part_of_each_other (longer_in_shorter a b c p q r) (shorter_in_longer a b c p q r)
