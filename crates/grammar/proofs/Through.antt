-- The machine comes through whatever is unrefused, item by item as `decides` says; so what is unrefused is within the limits.
use mathlib.Core.Path.{◌≡◌, refl, ◌∙◌}
use mathlib.Core.List.{List, [], ◌∷◌, ◌++◌, append_assoc, append-nil}
use Prim.Native.Nat.{ℕ}
use native.Mathlib.Omega.{arith}
use Rattle.grammar.specs.Symbols.{Symbol, Item, Reads}
use Rattle.grammar.specs.Symbols.Reads.{nothing, next}
use Rattle.grammar.specs.Symbols.Lexeme.{symbol}
use Rattle.grammar.specs.Refusals.{names_in, Within, Unrefused}
use Rattle.grammar.specs.Machine.{State, judge_from}
use Rattle.grammar.specs.Machine.State.{outside}
use Rattle.grammar.proofs.Deciding.{Kept, kept_none, Decided, decides}
use Rattle.grammar.proofs.Deciding.Decided.{refuses, goes_on}
use Rattle.grammar.proofs.Unrefusals.{unrefused_front}

-- from state s behind u, the machine comes through items that read as ts, and judges what is left from there
abbrev Through : ℕ → List Item → List Symbol → State → List Item → List Symbol → Type 0
Through size rest u s is ts = (s' : State) × Kept (u ++ ts) s'
    × (judge_from size (is ++ rest) s (names_in u) ≡ judge_from size rest s' (names_in (u ++ ts)))

comes_through : (size : ℕ) (rest : List Item) (u : List Symbol) (s : State) → Kept u s → {is : List Item} {ts : List Symbol} → Reads is ts
    → Unrefused (u ++ ts) → Through size rest u s is ts
unfolding judge_from
comes_through size rest u s kept nothing h = (s, rw append-nil kept, rw append-nil)
comes_through size rest u s kept (next {k} {t} {is} {ts} r) h =
    go (decides u s kept (symbol t)) (λ s' kept'. comes_through size rest (u ++ t ∷ []) s' kept' r (rw append_assoc h))
  where
    go : Decided u s (symbol t) → ((s' : State) → Kept (u ++ t ∷ []) s' → Through size rest (u ++ t ∷ []) s' is ts)
        → Through size rest u s (record { place = k; lexeme = symbol t } ∷ is) (t ∷ ts)
    go (refuses n least judged) later = absurd (h u ts t n refl least.0)
    go (goes_on s' no_row kept' judged) later =
        let (s'', kept'', on) = later s' kept' in
        (s'', rw append_assoc at kept'', judged k _ ∙ rw append_assoc at on)

-- the same from before `path`
pub through_all : (size : ℕ) (rest : List Item) {is : List Item} {ts : List Symbol} → Reads is ts → Unrefused ts
    → (s : State) × Kept ts s × (judge_from size (is ++ rest) outside [] ≡ judge_from size rest s (names_in ts))
unfolding names_in
through_all size rest r h = comes_through size rest [] outside kept_none r h

-- symbols read of some items are read of their front
reads_front : (u v : List Symbol) {is : List Item} → Reads is (u ++ v) → (is' : List Item) × Reads is' u
reads_front [] v r = ([], nothing)
reads_front (t ∷ u) v (next {k} r) = let (is', r') = reads_front u v r in (record { place = k; lexeme = symbol t } ∷ is', next r')

-- what is unrefused is within the limits: the machine comes through each front of it
pub unrefused_within : {is : List Item} {u : List Symbol} → Reads is u → Unrefused u → Within u
unrefused_within r h =
    let (s, kept, judged) = through_all 0 [] r h in
    record {
      depth = λ a b e.
          let (is', front) = reads_front a b (rw e at r) in
          let (s', kept', judged') = through_all 0 [] front (unrefused_front a b (rw e at h)) in
          omega (arith, kept'.under);
      positions = kept.under.positions;
      names = kept.under.names;
    }
