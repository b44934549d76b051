-- The rewritings keep the words: each rule does, words of a whole depend on the words of its parts only, and so a rule may be
-- used at any place inside a path.
use mathlib.Core.Path.{refl, sym, ap, ◌∙◌}
use mathlib.Core.Logic.{inl, inr, ⊎_map}
use mathlib.Core.List.{List, ◌++◌, append_assoc}
use Rattle.meaning.specs.Names.{Name}
use Rattle.meaning.specs.Words.{Expr, Repeated, Word}
use Rattle.meaning.specs.Words.Expr.{seq, choice, star}
use Rattle.meaning.specs.Words.Repeated.{none, more}
use Rattle.meaning.specs.Rewriting.{Rule, Place, fill, Rewritten}
use Rattle.meaning.specs.Rewriting.Rule.{factor_left, factor_right, exchange, repeat, regroup_seq, regroup_choice}
use Rattle.meaning.specs.Rewriting.Place.{here, left_of_seq, right_of_seq, left_of_choice, right_of_choice, under_star}
use Rattle.meaning.specs.Rewriting.Rewritten.{same, by, back, then}
use Rattle.meaning.specs.Promises.{WordIsCongruent, RewritingKeepsWords, RewritingKeepsBegins}

-- every word of x is one of y
abbrev pub Within : Expr → Expr → Type 0
Within x y = (w : List Name) → Word x w → Word y w

-- the words of a whole depend on those of its parts only
pub within_seq : (a a' b b' : Expr) → Within a a' → Within b b' → Within (seq a b) (seq a' b')
unfolding Word
within_seq a a' b b' f g w (u, v, wa, wb, e) = (u, v, f u wa, g v wb, e)

pub within_choice : (a a' b b' : Expr) → Within a a' → Within b b' → Within (choice a b) (choice a' b')
unfolding Word
within_choice a a' b b' f g w h = ⊎_map (f w) (g w) h

repeated_within : (W X : List Name → Type 0) → ((w : List Name) → W w → X w) → {w : List Name} → Repeated W w → Repeated X w
repeated_within W X f (none e) = none e
repeated_within W X f (more u v h t e) = more u v (f u h) (repeated_within W X f t) e

pub within_star : (a a' : Expr) → Within a a' → Within (star a) (star a')
unfolding Word
within_star a a' f w r = repeated_within (Word a) (Word a') f r

pub within_fill : (p : Place) (x y : Expr) → Within x y → Within (fill p x) (fill p y)
unfolding fill
within_fill here x y f = f
within_fill (left_of_seq p e) x y f = within_seq _ _ e e (within_fill p x y f) (λ w h. h)
within_fill (right_of_seq e p) x y f = within_seq e e _ _ (λ w h. h) (within_fill p x y f)
within_fill (left_of_choice p e) x y f = within_choice _ _ e e (within_fill p x y f) (λ w h. h)
within_fill (right_of_choice e p) x y f = within_choice e e _ _ (λ w h. h) (within_fill p x y f)
within_fill (under_star p) x y f = within_star _ _ (within_fill p x y f)

pub word_is_congruent : WordIsCongruent
word_is_congruent p x y f w = (within_fill p x y (λ v. (f v).0) w, within_fill p y x (λ v. (f v).1) w)

-- each rule keeps the words, in both directions
rule_there : {x y : Expr} → Rule x y → Within x y
unfolding Word
rule_there (factor_left a b c) w (inl (u, v, h, k, e)) = (u, v, h, inl k, e)
rule_there (factor_left a b c) w (inr (u, v, h, k, e)) = (u, v, h, inr k, e)
rule_there (factor_right a b c) w (inl (u, v, h, k, e)) = (u, v, inl h, k, e)
rule_there (factor_right a b c) w (inr (u, v, h, k, e)) = (u, v, inr h, k, e)
rule_there (exchange a b) w (inl h) = inr h
rule_there (exchange a b) w (inr h) = inl h
rule_there (repeat a) w (inl h) = h
rule_there (repeat a) w (inr h) = h
rule_there (regroup_seq a b c) w (u, v, (x, y, f, g, d), h, e) =
    (x, y ++ v, f, (y, v, g, h, refl), e ∙ ap (λ (l : List Name). l ++ v) d ∙ append_assoc x y v)
rule_there (regroup_choice a b c) w (inl (inl h)) = inl h
rule_there (regroup_choice a b c) w (inl (inr h)) = inr (inl h)
rule_there (regroup_choice a b c) w (inr h) = inr (inr h)

rule_back : {x y : Expr} → Rule x y → Within y x
unfolding Word
rule_back (factor_left a b c) w (u, v, h, inl k, e) = inl (u, v, h, k, e)
rule_back (factor_left a b c) w (u, v, h, inr k, e) = inr (u, v, h, k, e)
rule_back (factor_right a b c) w (u, v, inl h, k, e) = inl (u, v, h, k, e)
rule_back (factor_right a b c) w (u, v, inr h, k, e) = inr (u, v, h, k, e)
rule_back (exchange a b) w (inl h) = inr h
rule_back (exchange a b) w (inr h) = inl h
rule_back (repeat a) w h = inl h
rule_back (regroup_seq a b c) w (x, v, f, (y, z, g, h, d), e) =
    (x ++ y, z, (x, y, f, g, refl), h, e ∙ ap (λ (l : List Name). x ++ l) d ∙ sym (append_assoc x y z))
rule_back (regroup_choice a b c) w (inl h) = inl (inl h)
rule_back (regroup_choice a b c) w (inr (inl h)) = inl (inr h)
rule_back (regroup_choice a b c) w (inr (inr h)) = inr h

-- a whole rewriting: there and back
rewritten_within : {x y : Expr} → Rewritten x y → Within x y × Within y x
rewritten_within (same x) = (λ w h. h, λ w h. h)
rewritten_within (by p a b x y r d e) = (
  λ w h. rw e (within_fill p a b (rule_there r) w (rw d at h)),
  λ w h. rw d (within_fill p b a (rule_back r) w (rw e at h)),
)
rewritten_within (back x y r) = let s = rewritten_within r in (s.1, s.0)
rewritten_within (then x y z r q) =
    let s = rewritten_within r in
    let t = rewritten_within q in
    (λ w h. t.0 w (s.0 w h), λ w h. s.1 w (t.1 w h))

pub rewriting_keeps_words : RewritingKeepsWords
rewriting_keeps_words x y r w = let s = rewritten_within r in (s.0 w, s.1 w)

pub rewriting_keeps_begins : RewritingKeepsBegins
rewriting_keeps_begins x y r h =
    let s = rewritten_within r in
    (λ (w, b). (w, within_star x y s.0 (h ++ w) b), λ (w, b). (w, within_star y x s.1 (h ++ w) b))
