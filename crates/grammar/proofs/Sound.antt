-- What the machine says of a text is so: by induction on the items left, behind others that it has come through and that are unrefused.
use mathlib.Core.Path.{◌≡◌, refl, sym, ◌∙◌}
use mathlib.Core.Bool.{Bool, true, false, cond}
use mathlib.Core.List.{List, [], ◌∷◌, ◌++◌, append_assoc, append-nil}
use mathlib.Core.Option.{some}
use Prim.Native.Nat.{ℕ, ◌≤◌}
use native.Mathlib.Omega.{arith}
use lib.Dec.{ltb}
use lib.ListN.{length}
use borrow.Author.Tests.{ltb-true, ltb-false}
use Rattle.grammar.specs.Symbols.{Symbol, Lexeme, Item, items, Reads}
use Rattle.grammar.specs.Symbols.Reads.{nothing, next}
use Rattle.grammar.specs.Symbols.Lexeme.{symbol}
use Rattle.grammar.specs.Refusals.{names_in, Accepted, Unrefused, Refused}
use Rattle.grammar.specs.Refusals.Refused.{too_long, at_a_token, stops_short}
use Rattle.grammar.specs.Machine.{State, Verdict, at_end, judge_item, judge_from, judge}
use Rattle.grammar.specs.Machine.State.{outside, wanting, having, finished}
use Rattle.grammar.specs.Machine.Verdict.{accepted, refused}
use Rattle.grammar.proofs.Runs.{reached}
use Rattle.grammar.proofs.Derived.{whole_runs}
use Rattle.grammar.proofs.Completed.{finished_whole}
use Rattle.grammar.proofs.Deciding.{Kept, kept_none, Decided, decides}
use Rattle.grammar.proofs.Deciding.Decided.{refuses, goes_on}
use Rattle.grammar.proofs.Unrefusals.{unrefused_nothing, unrefused_snoc}
use Rattle.grammar.proofs.Through.{unrefused_within}

reads_snoc : {is : List Item} {u : List Symbol} → Reads is u → (k : ℕ) (t : Symbol)
    → Reads (is ++ record { place = k; lexeme = symbol t } ∷ []) (u ++ t ∷ [])
reads_snoc nothing k t = next nothing
reads_snoc (next r) k t = next (reads_snoc r k t)

-- what a verdict says of a text
abbrev pub Outcome : List ℕ → Verdict → Type 0
Outcome text (accepted e) = Accepted text e
Outcome text (refused n k) = Refused text n k

module _ (text : List ℕ) (short : length text ≤ 4096) where
  -- at the end of the items, all read and unrefused
  module _ (u : List Symbol) (read : Reads (items text) u) (h : Unrefused u) where
    -- not in the state of a whole text
    stops : (s : State) → reached u ≡ some s → at_end (length text) s ≡ refused 4 (length text) → Refused text 4 (length text)
    unfolding at_end
    stops s leads said =
        stops_short u short read h λ e d.
        let ends = whole_runs d in
        let last : s ≡ finished e = cc in
        let other : accepted e ≡ refused 4 (length text) = rw last at said in
        let z : ◌≡◌ {A = ℕ} 0 1 = cc in
        omega arith

    ends_so : (s : State) → reached u ≡ some s → Outcome text (at_end (length text) s)
    unfolding at_end
    ends_so outside leads = stops outside leads refl
    ends_so (wanting l ks) leads = stops (wanting l ks) leads refl
    ends_so (having l f ks) leads = stops (having l f ks) leads refl
    ends_so (finished e) leads =
        record { short = short; symbols = u; read = read; whole = finished_whole u e leads; limits = unrefused_within read h }

  -- with the items xs left, behind others that are read as u and unrefused
  abbrev JudgedSo : List Item → List Item → List Symbol → State → Type 0
  JudgedSo xs before u s = items text ≡ before ++ xs → Reads before u → Unrefused u → Kept u s
      → Outcome text (judge_from (length text) xs s (names_in u))

  judged_so : (xs before : List Item) (u : List Symbol) (s : State) → JudgedSo xs before u s
  unfolding judge_from
  judged_so [] before u s e read h kept = ends_so u (rw (e, append-nil) read) h s kept.leads
  judged_so (x ∷ xs) before u s e read h kept = go x.place (decides u s kept x.lexeme) e (judged_so xs)
    where
      go : (k : ℕ) {y : Lexeme} → Decided u s y → items text ≡ before ++ record { place = k; lexeme = y } ∷ xs
          → ((before' : List Item) (u' : List Symbol) (s' : State) → JudgedSo xs before' u' s')
          → Outcome text (judge_item s (names_in u) k y (judge_from (length text) xs))
      go k (refuses n least judged) e later = rw (judged k _) (at_a_token before xs _ u n short e read h least.0 least.1)
      go k (goes_on {t} s' no_row kept' judged) e later =
          rw (judged k _)
          (later _ (u ++ t ∷ []) s' (e ∙ sym (append_assoc before (_ ∷ []) xs)) (reads_snoc read k t) (unrefused_snoc u t h no_row) kept')

-- what the machine says is so
pub judge_sound : (text : List ℕ) → Outcome text (judge text)
unfolding judge names_in
judge_sound text = go (ltb 4096 (length text)) refl
  where
    go : (b : Bool) → ltb 4096 (length text) ≡ b → Outcome text (cond b (refused 1 4096) (judge_from (length text) (items text) outside []))
    go true e = too_long (ltb-true 4096 (length text) e)
    go false e =
        judged_so text (ltb-false 4096 (length text) e) (items text) [] [] outside refl nothing unrefused_nothing kept_none
