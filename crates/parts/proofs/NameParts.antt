-- One name more is placed as the limits and rules say. The names of the table are read back as they were written, so the name is found
-- exactly if its key is among the distinct names; a known name adds its operation, a new one its spelling as well, each in the first
-- unused cell. What the table then holds is what is noted of one name more.
use mathlib.Core.Path.{◌≡◌, refl, ap}
use mathlib.Core.Bool.{Bool, true, false, cond, not, ◌&&◌}
use mathlib.Core.Logic.{⊎_elim}
use mathlib.Core.List.Memᴰ
use mathlib.Core.List.{List, [], ◌∷◌, ◌++◌, map, map-append, Memᴰ}
use Prim.Native.Nat.{ℕ, ◌+◌, ◌-◌, ◌^◌, ◌≤◌, ◌<◌}
use native.Mathlib.Omega.{arith}
use borrow.Author.Tests.{leb-false, le-leb, lt-leb, le-ltb}
use lib.Dec.{leb}
use lib.ListN.{length, set, length-append, length-map}
use Rattle.meaning.specs.Names.{Name, key}
use Rattle.meaning.specs.Words.{names}
use Rattle.meaning.specs.Words.Expr.{name}
use Rattle.meaning.specs.Operations.{holds, added, distinct, distinct_after, number_of}
use Rattle.meaning.specs.Positions.{can_be_empty, first, last}
use Rattle.meaning.proofs.OperationLaws.{added_known, added_new, distinct_snoc, length_added, distinct_member}
use Rattle.meaning.proofs.NumberLaws.{number_new}
use Rattle.table.specs.declared.numbers.Operation.{Operation}
use Rattle.std.specs.Prelude.{Some, None, Result, Ok, Err}
use Rattle.text.specs.Faults.{number_of as fault_number}
use Rattle.text.specs.declared.faults.Fault.{Fault}
use Rattle.text.specs.declared.faults.Fault.TheVariants.{Positions, Names}
use Rattle.parts.specs.declared.joining.Part.{Part}
use Rattle.table.specs.Cells.{names_of}
use Rattle.table.specs.Following.{found_in}
use Rattle.table.specs.Linking.{single}
use Rattle.table.specs.Rules.{padded, operations_of}
use Rattle.table.proofs.NameNumbers.{length_operations, operations_snoc}
use Rattle.table.proofs.Padding.{padded_snoc}
use Rattle.table.proofs.Spelled.{spelled_back}
use Rattle.parts.specs.Parts.{named, positioned, placed_as, placed}
use Rattle.parts.specs.Progress.{noted, Fine, rows_after, part_of}
use Rattle.parts.proofs.SpelledMore.{written_name}

-- the number of what was placed: that of the fault, or 0
abbrev pub refused_by : Result Part Fault → ℕ
refused_by (Ok p) = 0
refused_by (Err f) = fault_number f

-- the limit that one name more passes, by its number; 0 if none
abbrev pub name_limit : List Name → Name → ℕ
name_limit ns n = cond (leb 64 (length ns)) 6 (cond (not (holds (distinct ns) (key n)) && leb 32 (length (distinct ns))) 7 0)

-- the same, by what was found of the positions and names: there are 64, the name is known, there are 32
abbrev limit_by : Bool → Bool → Bool → ℕ
limit_by full known many = cond full 6 (cond (not known && many) 7 0)

-- where no limit is passed there is a position left, and a name left if it is new
position_left : (ns : List Name) (n : Name) → name_limit ns n ≡ 0 → length ns < 64
position_left ns n none = go (leb 64 (length ns)) refl (holds (distinct ns) (key n)) (leb 32 (length (distinct ns))) none
  where
    go : (full : Bool) → leb 64 (length ns) ≡ full → (known many : Bool) → limit_by full known many ≡ 0 → length ns < 64
    go true is known many within = absurd (omega arith)
    go false is known many within = leb-false 64 (length ns) is

name_left : (ns : List Name) (n : Name) → name_limit ns n ≡ 0 → holds (distinct ns) (key n) ≡ false → length (distinct ns) < 32
name_left ns n none new = go (leb 64 (length ns)) (leb 32 (length (distinct ns))) refl (rw new at none)
  where
    go : (full many : Bool) → leb 32 (length (distinct ns)) ≡ many → limit_by full false many ≡ 0 → length (distinct ns) < 32
    go true many is within = absurd (omega arith)
    go false true is within = absurd (omega arith)
    go false false is within = leb-false 32 (length (distinct ns)) is

-- positions are counted from 1, bits from 0
single_next : (p : ℕ) → p < 64 → single (p + 1) ≡ 2 ^ p
unfolding single
single_next p h =
    let back : p + 1 - 1 ≡ p = omega arith in
    rw (le-leb 1 (p + 1) (omega arith), le-leb (p + 1) 64 (omega arith), back)

-- the next operation and the next length stand in the first unused cell
operations_next : (ns : List Name) (n : Name) → length ns < 64
    → set (padded 64 (record { 0 = 0 }) (operations_of (distinct ns) ns)) (length ns)
    (record { 0 = number_of (added (distinct ns) n) (key n) })
    ≡ padded 64 (record { 0 = 0 }) (operations_of (distinct (ns ++ n ∷ [])) (ns ++ n ∷ []))
operations_next ns n h =
    let os = operations_of (distinct ns) ns in
    let o : Operation = record { 0 = number_of (added (distinct ns) n) (key n) } in
    let here : length os ≡ length ns = length_operations (distinct ns) ns in
    rw (operations_snoc ns n, ← here) (padded_snoc 64 (record { 0 = 0 }) o os (omega arith))

lengths_next : (ds : List Name) (n : Name) → length ds < 32
    → set (padded 32 0 (map length ds)) (length ds) (length n) ≡ padded 32 0 (map length (ds ++ n ∷ []))
lengths_next ds n h =
    let here : length (map length ds) ≡ length ds = length-map ds length in
    rw (map-append length ds (n ∷ []), ← here) (padded_snoc 32 0 (length n) (map length ds) (omega arith))

module _ (ns : List Name) (rs : List ℕ) (n : Name) (fine : Fine ns) (short : length n ≤ 16) where
  -- the distinct names are some of the names, so they are short, and the table's bytes spell them
  distinct_short : (d : Name) → Memᴰ d (distinct ns) → length d ≤ 16
  distinct_short d m = fine.short d (distinct_member ns d m)

  names_noted : names_of (noted ns rs) ≡ distinct ns
  unfolding names_of noted
  names_noted = spelled_back (distinct ns) distinct_short

  -- a short name is looked up among the distinct ones, if there is a position left
  placed_found : placed (noted ns rs) n
      ≡ cond (leb 64 (length ns)) (Err Positions) (placed_as (noted ns rs) n (found_in (distinct ns) (key n)))
  unfolding placed noted
  placed_found = rw (le-ltb 16 (length n) short, names_noted)

  -- the number of the refusal is that of the limit
  pub placed_number : refused_by (placed (noted ns rs) n) ≡ name_limit ns n
  unfolding found_in noted
  placed_number = rw placed_found (go (leb 64 (length ns)) (holds (distinct ns) (key n)))
    where
      o : Operation
      o = record { 0 = number_of (distinct ns) (key n) }

      go : (full known : Bool)
          → refused_by (cond full (Err Positions) (placed_as (noted ns rs) n (cond known (Some o) None)))
          ≡ limit_by full known (leb 32 (length (distinct ns)))
      go true known = refl
      go false true = refl
      go false false = new (leb 32 (length (distinct ns)))
        where
          new : (many : Bool)
              → refused_by (cond many (Err Names) (Ok (positioned (named (noted ns rs) n) (length (distinct ns))))) ≡ cond many 7 0
          new true = refl
          new false = refl

  -- a known name: one operation more
  known_part : holds (distinct ns) (key n) ≡ true → length ns < 64
      → positioned (noted ns rs) (number_of (distinct ns) (key n)) ≡ part_of (name n) ns rs
  unfolding part_of can_be_empty first last names rows_after noted
  known_part known left =
      rw (
        single_next (length ns) left,
        ← (operations_next ns n left),
        length-append ns (n ∷ []),
        distinct_snoc ns n,
        added_known (distinct ns) n known,
      )

  -- a new name: its spelling and its operation, which is the next number
  new_part : holds (distinct ns) (key n) ≡ false → length (distinct ns) < 32 → length ns < 64
      → positioned (named (noted ns rs) n) (length (distinct ns)) ≡ part_of (name n) ns rs
  unfolding part_of can_be_empty first last names rows_after noted
  new_part new few left =
      rw (
        single_next (length ns) left,
        ← (operations_next ns n left),
        length-append ns (n ∷ []),
        distinct_snoc ns n,
        added_new (distinct ns) n new,
        number_new (distinct ns) n new,
        length-append (distinct ns) (n ∷ []),
        lengths_next (distinct ns) n few,
        written_name (distinct ns) n distinct_short short few,
      )

  -- and where there is none, the part is that of the name, and the names still fit
  pub placed_part : name_limit ns n ≡ 0 → placed (noted ns rs) n ≡ Ok (part_of (name n) ns rs)
  unfolding found_in noted
  placed_part none = rw (placed_found, lt-leb 64 (length ns) left) (go (holds (distinct ns) (key n)) refl)
    where
      left : length ns < 64
      left = position_left ns n none

      go : (known : Bool) → holds (distinct ns) (key n) ≡ known
          → placed_as (noted ns rs) n (cond known (Some (record { 0 = number_of (distinct ns) (key n) })) None) ≡ Ok (part_of (name n) ns rs)
      go true known = ap Ok (known_part known left)
      go false new = let few = name_left ns n none new in rw (lt-leb 32 (length (distinct ns)) few) (ap Ok (new_part new few left))

  pub placed_fine : name_limit ns n ≡ 0 → Fine (ns ++ n ∷ [])
  placed_fine none =
      record {
        positions = omega (arith, length-append ns (n ∷ []), position_left ns n none);
        names_few = rw (distinct_snoc ns n, length_added (distinct ns) n) (go (holds (distinct ns) (key n)) refl);
        short = λ m i.
            ⊎_elim
            (fine.short m)
            (λ added. let is : m ≡ n = Memᴰ.eq_of_singleton added in rw is short)
            (Memᴰ.append_cases ns i);
      }
    where
      go : (known : Bool) → holds (distinct ns) (key n) ≡ known → length (distinct ns) + cond known 0 1 ≤ 32
      go true known = omega (arith, fine.names_few)
      go false new = omega (arith, name_left ns n none new)

-- before the first name
pub nothing_fine : Fine []
unfolding distinct distinct_after
nothing_fine = record { positions = omega arith; names_few = omega arith; short = λ m h. absurd (Memᴰ.not-nil h) }
