-- `text::tokens::well_formed` meets its contract: at each `return` what the calls ensure are the tests of one law of WellFormed.antt.
use mathlib.Core.Path.{◌≡◌, sym, ap, ◌∙◌}
use mathlib.Core.Bool.{Bool, true, false}
use mathlib.Core.List.{List}
use Prim.Native.Nat.{ℕ}
use lib.ListN.{get_or}
use Rattle.text.specs.Classes.{class_of, starts_name}
use Rattle.text.specs.Tokens.{is_name}
use Rattle.text.specs.declared.classes.Class.{Class}
use Rattle.text.proofs.WellFormed.{whole_word, part_word, no_letter_first, nothing_there}
use Rattle.text.proofs.Ways.{first_byte, no_first_byte}
use Rattle.text.proofs.tokens.well_formed.Goals as goal

-- whether the first byte is a letter, by the class that was looked up
first_starts : (n : List ℕ) (b : ℕ) (r : Class) (t test : Bool) → b ≡ get_or n 0 0 → r ≡ class_of b → t ≡ starts_name r → t ≡ test
    → starts_name (class_of (get_or n 0 0)) ≡ test
first_starts n b r t test first is starts e = rw (← first, ← is, ← starts) e

pub returns-in_default : goal.returns-in_default
returns-in_default c = sym (nothing_there _ (no_first_byte _ c.in_default.ensures.value))

pub returns-then-not-starts_name : goal.returns-then-not-starts_name
returns-then-not-starts_name c =
    let n = c.args.n.now in
    let (some, first) = first_byte n c.in-Some.first.now c.in-Some.ensures.value in
    sym (no_letter_first n some (first_starts n _ _ _ false first c.class.ensures c.starts_name.ensures c.if-not-starts_name.true))

pub returns-then-run-n : goal.returns-then-run-n
returns-then-run-n c =
    let n = c.args.n.now in
    let (some, first) = first_byte n c.in-Some.first.now c.in-Some.ensures.value in
    sym (part_word n some (first_starts n _ _ _ true first c.class.ensures c.starts_name.ensures c.if-not-starts_name.false)
    (λ e. c.if-run-n.true (c.run.ensures ∙ e)))

pub returns : goal.returns
returns c =
    let n = c.args.n.now in
    let (some, first) = first_byte n c.in-Some.first.now c.in-Some.ensures.value in
    let whole = whole_word n some (first_starts n _ _ _ true first c.class.ensures c.starts_name.ensures c.if-not-starts_name.false)
    (sym c.run.ensures ∙ c.if-run-n.false) in
    c.is_name.ensures ∙ ap is_name c.word_token.ensures ∙ sym whole
