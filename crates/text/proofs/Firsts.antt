-- What `position` answers, in the words of `span`.
use Rattle.std.proofs.Common.{◌≡◌, ℕ, Bool, true, false, cond, not, List, [], ◌∷◌, Some, None, length, ltb, ◌≤◌, refl, ◌∙◌, arith}
use Rattle.std.proofs.lemmas.Grind.{common_steps}
use Rattle.std.specs.Option.{unwrap_or}
use Rattle.std.specs.List.{position, position_or_len, prefix_len}
use Rattle.std.proofs.lemmas.List.Sums.{prefix_len-le-length}
use Rattle.text.specs.Tokens.{span}

pub span_is : (test : ℕ → Bool) (s : List ℕ) → prefix_len test s ≡ span test s
unfolding span
span_is test [] = refl
span_is test (b ∷ s) = go (test b) refl (span_is test s)
  where
    go : (t : Bool) → test b ≡ t → prefix_len test s ≡ span test s → prefix_len test (b ∷ s) ≡ span test (b ∷ s)
    go true e rest = rw (e, rest) (omega arith)
    go false e rest = rw e refl

pub unwrap_cut : (a n : ℕ) → a ≤ n → unwrap_or (cond (ltb a n) (Some a) None) n ≡ a
unwrap_cut a n h = grind (arith, common_steps)

not_not : (b : Bool) → not (not b) ≡ b
not_not true = refl
not_not false = refl

same_prefix : (f g : ℕ → Bool) → ((b : ℕ) → f b ≡ g b) → (s : List ℕ) → prefix_len f s ≡ prefix_len g s
same_prefix f g same [] = refl
same_prefix f g same (b ∷ s) = rw (same b, same_prefix f g same s) refl

-- the first place that fails a test, or the end
pub first_failing : (test : ℕ → Bool) (s : List ℕ) → unwrap_or (position (λ b. not (test b)) s) (length s) ≡ span test s
first_failing test s =
    unwrap_cut (position_or_len (λ b. not (test b)) s) (length s) (prefix_len-le-length _ s)
    ∙ same_prefix _ test (λ b. not_not (test b)) s
    ∙ span_is test s
