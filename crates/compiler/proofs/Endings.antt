-- Where a reading of a text ends: what is left there, the token behind it, and what the machine makes of that token.
use mathlib.Core.Path.{◌≡◌, sym, ap, ◌∙◌}
use mathlib.Core.Bool.{true, false, true≢false}
use mathlib.Core.List.{List}
use Prim.Native.Nat.{ℕ, ◌+◌, ◌-◌, ◌≤◌, ◌<◌}
use native.Mathlib.Omega.{arith}
use lib.ListN.{length, drop, length-drop}
use lib.Seq.{drop-drop}
use Rattle.meaning.specs.Names.{Name}
use Rattle.text.specs.Tokens.{next_token}
use Rattle.text.specs.declared.tokens.Token.{Token}
use Rattle.text.proofs.Reading.{start_within_used, used_within_text, token_moves_on}
use Rattle.grammar.specs.Symbols.{Symbol}
use Rattle.grammar.specs.Machine.{State, step_to, depth_of, limit_at, names_on, stepped}
use Rattle.grammar.specs.Machine.Verdict.{refused}
use Rattle.compiler.specs.Reading.{Tail, verdict, behind, is_text_end, unfit}
use Rattle.compiler.specs.Reading.{Seen}
use Rattle.compiler.proofs.Tails.{tail_drop}
use Rattle.compiler.proofs.Verdicts.{Is, stuck_at, verdict_symbol, verdict_stuck}

-- what stands behind a reading of a part of s stands behind it in s
pub behind_part : (s : List ℕ) (j : ℕ) (r : Seen) → j ≤ length s → r.left ≤ length s - j → behind (drop j s) r ≡ behind s r
behind_part s j r fits w =
    let far : j + (length (drop j s) - r.left) ≡ length s - r.left = omega (arith, length-drop j s) in
    ap next_token (drop-drop (length (drop j s) - r.left) j s ∙ ap (λ (k : ℕ). drop k s) far)

-- where a reading of s ends
module _ (s : List ℕ) (r : Seen) (w : r.left ≤ length s) where
  unfoldable pub ending : List ℕ
  ending = drop (length s - r.left) s

  pub ending_size : length ending ≡ r.left
  unfolding ending
  ending_size = omega (arith, length-drop (length s - r.left) s)

  pub ending_tail : (text : List ℕ) → Tail text s → Tail text ending
  unfolding ending
  ending_tail text h = tail_drop text s h (length s - r.left) (omega arith)

  -- the token there lies within what is left
  pub behind_fits : (behind s r).used ≤ r.left
  unfolding ending
  behind_fits = omega (arith, ending_size, used_within_text ending)

  pub behind_starts : (behind s r).start ≤ r.left
  unfolding ending
  behind_starts = omega (arith, behind_fits, start_within_used ending)

  module _ (text : List ℕ) (h : Tail text s) (st : State) (ns : List Name) where
    -- a symbol is stepped over, or refused by 4 or by a limit
    pub behind_symbol : (T : Token) (t : Symbol) → (behind s r).token ≡ T → Is T (drop (behind s r).start (drop (length s - r.left) s)) t
        → verdict text r.left st ns
        ≡ stepped (limit_at (depth_of st) ns t) (length text - (r.left - (behind s r).start)) (step_to st t)
        (λ st'. verdict text (r.left - (behind s r).used) st' (names_on ns t))
    unfolding ending
    behind_symbol T t e is = rw ending_size at (verdict_symbol text ending (ending_tail text h) T t e is st ns)

    -- where the machine is stuck, the refusal
    pub behind_stuck : stuck_at st (behind s r).token (drop (behind s r).start (drop (length s - r.left) s)) ≡ true
        → verdict text r.left st ns ≡ refused (unfit (behind s r).token) (length text - (r.left - (behind s r).start))
    unfolding ending
    behind_stuck stuck = rw ending_size at (verdict_stuck text ending (ending_tail text h) st ns stuck)

-- any token but the end of the text uses up some of it
pub moves : (s : List ℕ) (T : Token) → (next_token s).token ≡ T → is_text_end T ≡ false → (next_token s).start < (next_token s).used
moves s T e other = token_moves_on s (λ z. true≢false (sym (ap is_text_end z) ∙ ap is_text_end e ∙ other))
