-- The reader of sequences, turn by turn: it starts with a factor, grows by each factor that follows, and ends where none does.
use mathlib.Core.Path.{◌≡◌, refl, ap, ◌∙◌}
use mathlib.Core.List.{List}
use mathlib.Core.Option.{Option, some, none}
use Prim.Native.Nat.{ℕ}
use Rattle.meaning.specs.Words.{Expr}
use Rattle.grammar.specs.Machine.{Left, State, onward, then_after}
use Rattle.grammar.specs.Machine.State.{wanting, having}
use Rattle.table.specs.declared.cells.Table.{Table}
use Rattle.compiler.specs.Reading.{FactorRead, SequenceRead, Run, on_sum, then_read, behind, factor_from, ends_factor, ends_sequence}
use Rattle.std.specs.Prelude.{None as Ends}
use Rattle.compiler.specs.Reading.{Seen}
use Rattle.compiler.proofs.Tails.{slice}
use Rattle.compiler.proofs.Growing as growing
use Rattle.compiler.proofs.Joining.{names_then, then_joined}
use Rattle.compiler.proofs.Onwards.{GoesOn, no_factor_follows}

-- where a factor is wanted and read, and where a sequence is
abbrev wanted : Left → List Left → State
wanted l ks = wanting l ks

abbrev was_read : Left → Expr → List Left → State
was_read l f ks = having l f ks

abbrev pub wanted_run : Option Expr → List Left → State
wanted_run sum ks = wanting (on_sum sum none) ks

abbrev pub run_read : Option Expr → Run → List Left → State
run_read sum b ks = having (on_sum sum b.0) b.1 ks

abbrev pub in_order : Run → Expr
in_order b = then_after b.0 b.1

-- what stands to the left of a factor that follows
abbrev turn : Option Expr → Run → Left
turn sum b = onward (on_sum sum b.0) b.1

module _ (s : List ℕ) (d : ℕ) (t : Table) where
  -- a factor is a sequence
  pub sequence_starts : (f : Seen) → FactorRead s d t f → SequenceRead ends_factor s d t f
  sequence_starts f given =
      growing.starts wanted_run run_read in_order s d t wanted was_read (λ f. f) (λ sum. on_sum sum none) (λ f. (none, f)) ends_factor f given
      (λ a ks. refl) (λ a c ks. refl) (λ c. refl)

  module _ (q : Seen) (given : SequenceRead ends_factor s d t q) (z : q.number ≡ 0) where
    pub sequence_ends : factor_from s q.left ≡ Ends → SequenceRead ends_sequence s d t q
    sequence_ends e =
        growing.ends_there wanted_run run_read in_order s d t ends_factor q given z ends_sequence (no_factor_follows (behind s
        q).token _ _ e)

    -- another factor follows, at byte j
    module _ (j : ℕ) (on : GoesOn onward s q j) (t' : Table) (so-far-is : t' ≡ q.part.table) (f : Seen) (told : FactorRead (slice s j) d t' f) where
      pub factor_refused : (f.number ≡ 0 → ⊥) → SequenceRead ends_sequence s d t f
      factor_refused =
          growing.next_refused wanted_run run_read in_order s d t ends_factor q given z wanted was_read (λ f. f)
          turn j on.fits on.less (λ text h sum b. on.on text h (on_sum sum b.0) b.1)
          t' so-far-is f ends_factor told ends_sequence

      pub sequence_grows : f.number ≡ 0 → (r : Seen) → r ≡ then_read q f → SequenceRead ends_factor s d t r
      sequence_grows y r joined =
          growing.grows wanted_run run_read in_order s d t ends_factor q given z wanted was_read (λ f. f)
          turn j on.fits on.less (λ text h sum b. on.on text h (on_sum sum b.0) b.1)
          t' so-far-is f ends_factor told (λ b g. (some (in_order b), g)) (λ a b c ks. refl) (λ b c ns. names_then (in_order b) c ns) y r
          (ap (λ (x : Seen). x.number) joined) (ap (λ (x : Seen). x.left) joined)
          (λ ns rs b c is_b is_c. ap (λ (x : Seen). x.part) joined ∙ then_joined q (in_order b) ns rs is_b f c is_c)
