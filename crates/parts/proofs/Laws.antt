-- The parts of an expression come to the part of the whole: each rule of the program is the rule of document 01.
use mathlib.Core.Path.{◌≡◌, refl, sym, ap, ap₂, ◌∙◌}
use mathlib.Core.Bool.{Bool, true, false, cond}
use mathlib.Core.List.{List, [], ◌∷◌, ◌++◌, append_assoc}
use Prim.Native.Nat.{ℕ, zero, suc, ◌+◌, ◌/◌}
use native.Mathlib.Omega.{arith}
use borrow.Author.Tests.{ne_eqb}
use lib.Bits.{bit_or, or_self}
use lib.Dec.{eqb}
use lib.ListN.{length, length-append}
use Rattle.meaning.specs.Names.{Name}
use Rattle.meaning.specs.Words.{Expr, names}
use Rattle.meaning.specs.Words.Expr.{seq, choice, star}
use Rattle.meaning.specs.Positions.{size, can_be_empty, first, last}
use Rattle.meaning.specs.Sets.{mem}
use Rattle.meaning.proofs.Numbering.{size_names}
use Rattle.meaning.proofs.SetLaws.{union_assoc}
use Rattle.table.specs.declared.cells.Table.{Table}
use Rattle.table.specs.Linking.{linked}
use Rattle.parts.specs.declared.joining.Part.{Part}
use Rattle.parts.specs.Parts.{either, then, starred}
use Rattle.parts.specs.Progress.{noted, rows_after, part_of, star_times}

-- the table behind a part
pub table_behind : (e : Expr) (ns : List Name) (rs : List ℕ) → (part_of e ns rs).table ≡ noted (ns ++ names e) (rows_after e (length ns) rs)
unfolding part_of
table_behind e ns rs = refl

-- the part that is read behind another
abbrev pub part_behind : Expr → Expr → List Name → List ℕ → Part
part_behind a b ns rs = part_of b (ns ++ names a) (rows_after a (length ns) rs)

-- t with other rows
abbrev with_rows : Table → List ℕ → Table
with_rows t rs =
    record {
      positions = t.positions;
      names = t.names;
      start = t.start;
      operations = t.operations;
      rows = rs;
      lengths = t.lengths;
      bytes = t.bytes;
      mark = t.mark;
    }

-- how many positions stand before it
before : (a : Expr) (ns : List Name) → length (ns ++ names a) ≡ length ns + size a
before a ns = length-append ns (names a) ∙ ap (λ (n : ℕ). length ns + n) (sym (size_names a))

pub part_either : (a b : Expr) (ns : List Name) (rs : List ℕ) → either (part_of a ns rs) (part_behind a b ns rs) ≡ part_of (choice a b) ns rs
unfolding part_of can_be_empty first last names rows_after
part_either a b ns rs = rw (before a ns, append_assoc) refl

pub part_then : (a b : Expr) (ns : List Name) (rs : List ℕ) → then (part_of a ns rs) (part_behind a b ns rs) ≡ part_of (seq a b) ns rs
unfolding part_of can_be_empty first last names rows_after noted
part_then a b ns rs = rw (before a ns, append_assoc) refl

pub part_star : (a : Expr) (ns : List Name) (rs : List ℕ) → starred (part_of a ns rs) ≡ part_of (star a) ns rs
unfolding part_of can_be_empty first last names rows_after noted
part_star a ns rs = refl

-- joining a set twice is joining it once
row_again : (t : Bool) (r f : ℕ) → cond t (bit_or (cond t (bit_or r f) r) f) (cond t (bit_or r f) r) ≡ cond t (bit_or r f) r
row_again true r f = union_assoc r f f ∙ ap (bit_or r) (or_self f)
row_again false r f = refl

-- and so is linking
link_again : (rs : List ℕ) (l f : ℕ) → linked (linked rs l f) l f ≡ linked rs l f
unfolding linked
link_again [] l f = refl
link_again (r ∷ rs) l f = ap₂ ◌∷◌ (row_again (mem 0 l) r f) (link_again rs (l / 2) f)

star_again : (p : Part) → starred (starred p) ≡ starred p
star_again p =
    ap (λ (rs : List ℕ). record { empty = true; first = p.first; last = p.last; table = with_rows p.table rs })
    (link_again p.table.rows p.last p.first)

-- a part that is starred any number of times, but not none, is starred once
pub part_stars : (n : ℕ) (e : Expr) (ns : List Name) (rs : List ℕ)
    → cond (eqb n 0) (part_of e ns rs) (starred (part_of e ns rs)) ≡ part_of (star_times n e) ns rs
unfolding star_times
part_stars zero e ns rs = refl
part_stars (suc n) e ns rs = rw (ne_eqb (suc n) 0 (λ z. omega arith)) (once n)
  where
    once : (m : ℕ) → starred (part_of e ns rs) ≡ part_of (star_times (suc m) e) ns rs
    once zero = part_star e ns rs
    once (suc m) = sym (star_again (part_of e ns rs)) ∙ ap starred (once m) ∙ part_star (star_times (suc m) e) ns rs

pub names_starred : (n : ℕ) (e : Expr) → names (star_times n e) ≡ names e
unfolding star_times names
names_starred zero e = refl
names_starred (suc n) e = names_starred n e
