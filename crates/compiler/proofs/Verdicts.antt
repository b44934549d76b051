-- One token of the machine, where a reader stands: what comes of a text with a tail left, by the tail's first token.
use mathlib.Core.Path.{◌≡◌, refl, sym, ap, ap₂, ◌∙◌}
use mathlib.Core.Bool.{Bool, true, false, false≢true}
use mathlib.Core.List.{List, ◌∷◌}
use mathlib.Core.Option.{Option, some, none}
use Prim.Native.Nat.{ℕ, ◌+◌, ◌-◌}
use native.Mathlib.Omega.{arith}
use lib.ListN.{length, take, drop}
use Rattle.meaning.specs.Names.{Name}
use Rattle.text.specs.Tokens.{next_token}
use Rattle.text.specs.declared.tokens.Token.{Token}
use Rattle.text.specs.declared.tokens.Token.TheVariants.{Semicolon, Plus, Star, Open, Close, Path, End, Name as Named, TextEnd, Bad, Long}
use Rattle.text.proofs.Reading.{start_within_used, used_within_text, end_starts_last}
use Rattle.grammar.specs.Symbols.{Symbol, Item, items_by, items_from}
use Rattle.grammar.specs.Symbols.Symbol.{semicolon, plus, asterisk, opening, closing, path, end, name}
use Rattle.grammar.specs.Symbols.Lexeme.{symbol}
use Rattle.grammar.specs.Machine.{State, Verdict, step_to, depth_of, limit_at, names_on, at_end, stepped, judge_item, judge_from}
use Rattle.grammar.specs.Machine.State.{outside, wanting, having, finished}
use Rattle.grammar.specs.Machine.Verdict.{refused}
use Rattle.grammar.proofs.Items.{reading_goes_on}
use Rattle.compiler.specs.Reading.{rest, Tail, verdict, unfit}
use Rattle.compiler.proofs.Tails.{tail_behind}

-- the token is the symbol t, whatever stands behind it
abbrev pub Is : Token → List ℕ → Symbol → Type 0
Is T w t = (k : ℕ) (xs : List Item) → items_by T k w xs ≡ record { place = k; lexeme = symbol t } ∷ xs

pub is_semicolon : (w : List ℕ) → Is Semicolon w semicolon
unfolding items_by
is_semicolon w k xs = refl

pub is_plus : (w : List ℕ) → Is Plus w plus
unfolding items_by
is_plus w k xs = refl

pub is_asterisk : (w : List ℕ) → Is Star w asterisk
unfolding items_by
is_asterisk w k xs = refl

pub is_opening : (w : List ℕ) → Is Open w opening
unfolding items_by
is_opening w k xs = refl

pub is_closing : (w : List ℕ) → Is Close w closing
unfolding items_by
is_closing w k xs = refl

pub is_path_told : (w : List ℕ) → Is Path w path
unfolding items_by
is_path_told w k xs = refl

pub is_end_told : (w : List ℕ) → Is End w end
unfolding items_by
is_end_told w k xs = refl

pub is_name : (n : ℕ) (w : List ℕ) → Is (Named n) w (name (take n w))
unfolding items_by
is_name n w k xs = refl

-- there is no step
abbrev pub no_step : Option State → Bool
no_step none = true
no_step (some s) = false

abbrev pub unfinished : State → Bool
unfinished outside = true
unfinished (wanting l ks) = true
unfinished (having l f ks) = true
unfinished (finished e) = false

-- the machine has no step from the state at the token; w is the text from the token on
abbrev pub stuck_at : State → Token → List ℕ → Bool
stuck_at st Semicolon w = no_step (step_to st semicolon)
stuck_at st Plus w = no_step (step_to st plus)
stuck_at st Star w = no_step (step_to st asterisk)
stuck_at st Open w = no_step (step_to st opening)
stuck_at st Close w = no_step (step_to st closing)
stuck_at st Path w = no_step (step_to st path)
stuck_at st End w = no_step (step_to st end)
stuck_at st (Named n) w = no_step (step_to st (name (take n w)))
stuck_at st TextEnd w = unfinished st
stuck_at st Bad w = true
stuck_at st Long w = true

-- a symbol without a step is refused by 4
refused_by_4 : (n k : ℕ) (o : Option State) (go : State → Verdict) → no_step o ≡ true → stepped n k o go ≡ refused 4 k
unfolding stepped
refused_by_4 n k none go h = refl
refused_by_4 n k (some s) go h = absurd (false≢true h)

ended_by_4 : (size : ℕ) (st : State) → unfinished st ≡ true → at_end size st ≡ refused 4 size
unfolding at_end
ended_by_4 size outside h = refl
ended_by_4 size (wanting l ks) h = refl
ended_by_4 size (having l f ks) h = refl
ended_by_4 size (finished e) h = absurd (false≢true h)

-- stuck at the token T, which stands at k, the machine refuses it there by its number
stuck_refused : (T : Token) (size k : ℕ) (w : List ℕ) (xs : List Item) (st : State) (ns : List Name) → stuck_at st T w ≡ true →
    (T ≡ TextEnd → k ≡ size)
    → judge_from size (items_by T k w xs) st ns ≡ refused (unfit T) k
unfolding judge_from judge_item items_by
stuck_refused Semicolon size k w xs st ns h e = refused_by_4 _ k _ _ h
stuck_refused Plus size k w xs st ns h e = refused_by_4 _ k _ _ h
stuck_refused Star size k w xs st ns h e = refused_by_4 _ k _ _ h
stuck_refused Open size k w xs st ns h e = refused_by_4 _ k _ _ h
stuck_refused Close size k w xs st ns h e = refused_by_4 _ k _ _ h
stuck_refused Path size k w xs st ns h e = refused_by_4 _ k _ _ h
stuck_refused End size k w xs st ns h e = refused_by_4 _ k _ _ h
stuck_refused (Named n) size k w xs st ns h e = refused_by_4 _ k _ _ h
stuck_refused TextEnd size k w xs st ns h e = ended_by_4 size st h ∙ ap (refused 4) (sym (e refl))
stuck_refused Bad size k w xs st ns h e = refl
stuck_refused Long size k w xs st ns h e = refl

-- where the first token of s stands in the text
abbrev pub place : List ℕ → List ℕ → ℕ
place text s = length text - (length s - (next_token s).start)

module _ (text s : List ℕ) (h : Tail text s) where
  place_is : length text - length s + (next_token s).start ≡ place text s
  place_is = omega (arith, h.within, start_within_used s, used_within_text s)

  -- the machine at s: its first token, and then what is left
  verdict_item : (st : State) (ns : List Name) → verdict text (length s) st ns
      ≡ judge_from (length text) (items_by (next_token s).token (place text s) (drop (next_token s).start s)
      (items_from (length text - (length s - (next_token s).used)) (rest text (length s - (next_token s).used)))) st ns
  unfolding verdict
  verdict_item st ns =
      let used = (next_token s).used in
      let far : length text - length s + used ≡ length text - (length s - used) = omega (arith, h.within, used_within_text s) in
      let behind = ap₂ items_from far (tail_behind text s h used (used_within_text s)) in
      ap (λ (w : List ℕ). judge_from (length text) (items_from (length text - length s) w) st ns) (sym h.same)
      ∙ ap (λ (is : List Item). judge_from (length text) is st ns)
      (reading_goes_on (length text - length s) s
      ∙ ap₂ (λ (k : ℕ) (is : List Item). items_by (next_token s).token k (drop (next_token s).start s) is) place_is behind)

  -- a symbol is stepped over, or refused by 4 or by a limit
  pub verdict_symbol : (T : Token) (t : Symbol) → (next_token s).token ≡ T → Is T (drop (next_token s).start s) t
      → (st : State) (ns : List Name) → verdict text (length s) st ns
      ≡ stepped (limit_at (depth_of st) ns t) (place text s) (step_to st t) (λ st'. verdict text (length s - (next_token s).used) st'
      (names_on ns t))
  unfolding judge_from judge_item verdict
  verdict_symbol T t e is st ns = verdict_item st ns ∙ rw (e, is (place text s) _) refl

  -- where the machine is stuck, the refusal
  pub verdict_stuck : (st : State) (ns : List Name) → stuck_at st (next_token s).token (drop (next_token s).start s) ≡ true
      → verdict text (length s) st ns ≡ refused (unfit (next_token s).token) (place text s)
  verdict_stuck st ns stuck =
      verdict_item st ns
      ∙ stuck_refused (next_token s).token (length text) _ _ _ st ns stuck
      (λ e. omega (arith, h.within, end_starts_last s e))

  -- where the text ends, so does the machine
  pub verdict_ends : (next_token s).token ≡ TextEnd → (st : State) (ns : List Name) → verdict text (length s) st ns ≡ at_end (length text) st
  unfolding judge_from items_by
  verdict_ends e st ns = verdict_item st ns ∙ rw e refl
