-- What the program compares is name i, and it is one of the first n.
use Rattle.std.proofs.Common.{rules, arith, ◌≡◌, ◌∙◌, sym, length, take, min, ◌<◌, get_or, List, [], ℕ}
use lib.ListN.{length-take}
use lib.Seq.{get_or-take}
use Rattle.meaning.specs.Names.{Name, key, same}
use Rattle.table.specs.Cells.{spellings}
use Rattle.table.specs.declared.cells.Table.{Table}
use Rattle.table.proofs.Finding.{none_searched, one_more_searched, found_here, found_nowhere}
use Rattle.table.proofs.Spellings.{length_spellings}
use Rattle.table.proofs.cells.Table.find_among.Goals as goal

-- the names searched, and how many there are
abbrev searched : ℕ → Table → List Name
searched n t = take n (spellings t.lengths t.bytes)

counted : (n : ℕ) (t : Table) → length t.lengths ≡ 32 → length (searched n t) ≡ min n 32
counted n t all = rw (← all, ← (length_spellings t.lengths t.bytes)) (length-take _ _)

-- name i of those searched is the one that is read
read : (n i : ℕ) (t : Table) (bytes : List ℕ) → i < n → bytes ≡ get_or (spellings t.lengths t.bytes) i [] → bytes ≡ get_or (searched n t) i []
read n i t bytes used e = e ∙ sym (get_or-take n (spellings t.lengths t.bytes) i [] used)

pub loop-i-init : goal.loop-i-init
loop-i-init c = none_searched (searched c.args.n c.args.self.now) _

pub returns-then-same_name : goal.returns-then-same_name
returns-then-same_name c =
    let t = c.args.self.now in
    let all : length t.lengths ≡ 32 = search rules in
    let i = c.loop-i.i in
    let compared : c.same_name.result ≡ same (key (get_or (searched c.args.n t) i [])) (key c.args.name.now) =
    rw (read c.args.n i t _ (omega arith) c.spelling.ensures) at c.same_name.ensures in
    found_here (searched c.args.n t) _ i c.loop-i.invariant (omega (arith, counted c.args.n t all)) (sym compared ∙ c.if-same_name.true)

pub loop-i-preserved : goal.loop-i-preserved
loop-i-preserved c =
    let t = c.args.self.now in
    let all : length t.lengths ≡ 32 = search rules in
    let i = c.loop-i.i in
    let compared : c.same_name.result ≡ same (key (get_or (searched c.args.n t) i [])) (key c.args.name.now) =
    rw (read c.args.n i t _ (omega arith) c.spelling.ensures) at c.same_name.ensures in
    one_more_searched (searched c.args.n t) _ i c.loop-i.invariant (omega (arith, counted c.args.n t all)) (sym compared ∙ c.if-same_name.false)

pub returns : goal.returns
returns c =
    let t = c.args.self.now in
    let all : length t.lengths ≡ 32 = search rules in
    found_nowhere (searched c.args.n t) _ c.loop-i.i c.loop-i.invariant (omega (arith, counted c.args.n t all))
