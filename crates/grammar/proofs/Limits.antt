-- The machine's limits are the rows 5 to 7: behind symbols that pass none (`Under`), the limit that a symbol passes is the least of the rows
-- that refuse it; and if it passes none, all is within the limits behind it too.
use mathlib.Core.Path.{◌≡◌, refl}
use mathlib.Core.Bool.{Bool, true, false, cond, not, ◌&&◌}
use mathlib.Core.List.{List, [], ◌∷◌, ◌++◌}
use Prim.Native.Nat.{ℕ, ◌+◌, ◌≤◌, ◌<◌}
use native.Mathlib.Omega.{arith}
use lib.Dec.{leb}
use lib.ListN.{length, length-append}
use borrow.Author.Tests.{leb-true, leb-false, le-leb}
use Rattle.meaning.specs.Names.{Name, key}
use Rattle.meaning.specs.Operations.{holds, distinct}
use Rattle.meaning.proofs.OperationLaws.{added_known, added_within, distinct_snoc}
use Rattle.grammar.specs.Symbols.{Symbol}
use Rattle.grammar.specs.Symbols.Symbol.{semicolon, plus, asterisk, opening, closing, path, end, name}
use Rattle.grammar.specs.Symbols.Lexeme.{symbol}
use Rattle.grammar.specs.Refusals.{opened, closed, names_in, StartsNoText, Row}
use Rattle.grammar.specs.Refusals.Row.{bad_byte, long_name, no_text, too_deep, one_position_too_many, one_name_too_many}
use Rattle.grammar.specs.Machine.{limit_at, names_on}

-- symbols that pass no limit, with d parentheses open
pub record Under (u : List Symbol) (d : ℕ) : Type 0 where
  pub deep : d + closed u ≡ opened u
  pub shallow : d ≤ 16
  pub positions : length (names_in u) ≤ 64
  pub names : length (distinct (names_in u)) ≤ 32

-- the number of the limit that a symbol passes behind the names ns with d open, 0 for none, and why: only a `(` and a name count
data Meets (d : ℕ) (ns : List Name) : Symbol → ℕ → Type 0 where
  deepest : 16 ≤ d → Meets d ns opening 5
  deeper : d < 16 → Meets d ns opening 0
  last_position : (n : Name) → 64 ≤ length ns → Meets d ns (name n) 6
  last_name : (n : Name) → holds (distinct ns) (key n) ≡ false → 32 ≤ length (distinct ns) → Meets d ns (name n) 7
  known_name : (n : Name) → length ns < 64 → holds (distinct ns) (key n) ≡ true → Meets d ns (name n) 0
  new_name : (n : Name) → length ns < 64 → length (distinct ns) < 32 → Meets d ns (name n) 0
  no_matter : {t : Symbol} → opened (t ∷ []) ≡ 0 → names_on ns t ≡ ns → Meets d ns t 0

parenthesis_meets : (d : ℕ) (ns : List Name) (b : Bool) → leb 16 d ≡ b → Meets d ns opening (cond b 5 0)
parenthesis_meets d ns true e = deepest (leb-true 16 d e)
parenthesis_meets d ns false e = deeper (leb-false 16 d e)

name_meets : (d : ℕ) (ns : List Name) (n : Name) (a b c : Bool)
    → leb 64 (length ns) ≡ a → holds (distinct ns) (key n) ≡ b → leb 32 (length (distinct ns)) ≡ c
    → Meets d ns (name n) (cond a 6 (cond (not b && c) 7 0))
name_meets d ns n true b c p h q = last_position n (leb-true 64 (length ns) p)
name_meets d ns n false true c p h q = known_name n (leb-false 64 (length ns) p) h
name_meets d ns n false false true p h q = last_name n h (leb-true 32 (length (distinct ns)) q)
name_meets d ns n false false false p h q = new_name n (leb-false 64 (length ns) p) (leb-false 32 (length (distinct ns)) q)

meets : (d : ℕ) (ns : List Name) (t : Symbol) → Meets d ns t (limit_at d ns t)
unfolding limit_at opened names_on
meets d ns opening = parenthesis_meets d ns (leb 16 d) refl
meets d ns (name n) = name_meets d ns n _ _ _ refl refl refl
meets d ns semicolon = no_matter refl refl
meets d ns plus = no_matter refl refl
meets d ns asterisk = no_matter refl refl
meets d ns closing = no_matter refl refl
meets d ns path = no_matter refl refl
meets d ns end = no_matter refl refl

six_or_seven : (b : Bool) → (0 < cond b 6 7) × (cond b 6 7 ≤ 7)
six_or_seven true = omega arith
six_or_seven false = omega arith

module _ (u : List Symbol) (d : ℕ) (under : Under u d) where
  meets_row : {t : Symbol} {n : ℕ} → Meets d (names_in u) t n → 0 < n → Row u (symbol t) n
  meets_row (deepest h) some = too_deep refl (omega arith)
  meets_row (deeper h) some = absurd (omega arith)
  meets_row (last_position n h) some = one_position_too_many n refl (omega arith)
  meets_row (last_name n new h) some = one_name_too_many n refl new (omega arith)
  meets_row (known_name n h known) some = absurd (omega arith)
  meets_row (new_name n h h') some = absurd (omega arith)
  meets_row (no_matter o k) some = absurd (omega arith)

  -- a limit that is passed is a row
  pub limit_row : (t : Symbol) → 0 < limit_at d (names_in u) t → Row u (symbol t) (limit_at d (names_in u) t)
  limit_row t some = meets_row (meets d (names_in u) t) some

  -- and there is one below each row, where the grammar goes on
  pub row_limit : (t : Symbol) {m : ℕ} → Row u (symbol t) m → ¬ StartsNoText (u ++ t ∷ [])
      → (0 < limit_at d (names_in u) t) × (limit_at d (names_in u) t ≤ m)
  unfolding limit_at
  row_limit t (bad_byte e) goes_on = let z : ◌≡◌ {A = ℕ} 0 1 = cc in absurd (omega arith)
  row_limit t (long_name e) goes_on = let z : ◌≡◌ {A = ℕ} 0 1 = cc in absurd (omega arith)
  row_limit t (no_text t' e stops) goes_on = let q : t ≡ t' = cc in absurd (goes_on (rw q stops))
  row_limit t (too_deep e h) goes_on = let q : t ≡ opening = cc in rw (q, le-leb 16 d (omega arith)) (omega arith)
  row_limit t (one_position_too_many n e h) goes_on =
      let q : t ≡ name n = cc in
      rw (q, le-leb 64 (length (names_in u)) (omega arith)) (omega arith)
  row_limit t (one_name_too_many n e new h) goes_on =
      let q : t ≡ name n = cc in
      rw (q, new, le-leb 32 (length (distinct (names_in u))) (omega arith)) (six_or_seven (leb 64 (length (names_in u))))

  -- the limits behind one symbol more
  abbrev Keeps : Symbol → Type 0
  Keeps t = (d + opened (t ∷ []) ≤ 16) × (length (names_on (names_in u) t) ≤ 64) × (length (distinct (names_on (names_in u) t)) ≤ 32)

  meets_keeps : {t : Symbol} {n : ℕ} → Meets d (names_in u) t n → n ≡ 0 → Keeps t
  unfolding opened names_on
  meets_keeps (deepest h) e = absurd (omega arith)
  meets_keeps (deeper h) e = omega arith
  meets_keeps (last_position n h) e = absurd (omega arith)
  meets_keeps (last_name n new h) e = absurd (omega arith)
  meets_keeps (known_name n h known) e = rw (length-append, distinct_snoc, added_known _ n known) (omega arith)
  meets_keeps (new_name n h h') e =
      rw (length-append, distinct_snoc) (omega (arith, added_within (distinct (names_in u)) n))
  meets_keeps (no_matter o k) e = rw (o, k) (omega arith)

  -- a symbol that passes none leaves all within the limits
  pub limit_keeps : (t : Symbol) → limit_at d (names_in u) t ≡ 0 → Keeps t
  limit_keeps t e = meets_keeps (meets d (names_in u) t) e
