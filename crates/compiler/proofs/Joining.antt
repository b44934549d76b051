-- What was read and what is read behind it, joined: the names, the table so far, and the part of the whole.
use mathlib.Core.Path.{◌≡◌, sym, ap, ◌∙◌}
use mathlib.Core.List.{List, ◌++◌, append_assoc}
use Prim.Native.Nat.{ℕ}
use lib.ListN.{length}
use Rattle.meaning.specs.Names.{Name}
use Rattle.meaning.specs.Words.{Expr, names}
use Rattle.meaning.specs.Words.Expr.{seq, choice}
use Rattle.parts.specs.Progress.{noted, part_of, rows_after}
use Rattle.parts.specs.declared.joining.Part.{Part}
use Rattle.parts.proofs.Laws.{part_behind, part_then, part_either, table_behind}
use Rattle.compiler.specs.Reading.{then_read, or_read}
use Rattle.compiler.specs.Reading.{Seen}

module _ (a b : Expr) (ns : List Name) where
  pub names_then : ns ++ names (seq a b) ≡ (ns ++ names a) ++ names b
  unfolding names
  names_then = sym (append_assoc ns (names a) (names b))

  pub names_or : ns ++ names (choice a b) ≡ (ns ++ names a) ++ names b
  unfolding names
  names_or = sym (append_assoc ns (names a) (names b))

-- q was read behind the names ns, with the rows rs
module _ (q : Seen) (a : Expr) (ns : List Name) (rs : List ℕ) (is-a : q.part ≡ part_of a ns rs) where
  pub table_so_far : q.part.table ≡ noted (ns ++ names a) (rows_after a (length ns) rs)
  table_so_far = ap (λ (p : Part). p.table) is-a ∙ table_behind a ns rs

  -- and f behind it
  module _ (f : Seen) (b : Expr) (is_b : f.part ≡ part_behind a b ns rs) where
    pub then_joined : (then_read q f).part ≡ part_of (seq a b) ns rs
    then_joined = rw (is-a, is_b) (part_then a b ns rs)

    pub or_joined : (or_read q f).part ≡ part_of (choice a b) ns rs
    or_joined = rw (is-a, is_b) (part_either a b ns rs)
