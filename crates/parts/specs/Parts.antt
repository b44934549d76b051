-- Parts, as the program joins them: each rule of document 01, "The table", on a table that is being built. What the parts of an
-- expression come to is in Progress.antt.
use Rattle.std.specs.Prelude.{true, false, cond, ◌&&◌, ◌||◌, List, ◌++◌, ℕ, ◌+◌, ◌*◌, ltb, leb, length, take, drop, set, Option, Some, None, Result, Ok, Err}
use Rattle.std.specs.Int.Bits.{bit_or}
use Rattle.meaning.specs.Names.{Name, key}
use Rattle.table.specs.declared.cells.Table.{Table}
use Rattle.table.specs.declared.numbers.Operation.{Operation}
use Rattle.text.specs.declared.faults.Fault.{Fault}
use Rattle.text.specs.declared.faults.Fault.TheVariants.{LongName, Positions, Names}
use Rattle.table.specs.Cells.{names_of}
use Rattle.table.specs.Following.{found_in}
use Rattle.table.specs.Linking.{single, linked}
use Rattle.table.specs.Rules.{marked}
use Rattle.parts.specs.declared.joining.Part.{Part}

-- t, with every position in l followed by every position in f
abbrev pub followed : Table → ℕ → ℕ → Table
followed t l f =
    record {
      positions = t.positions;
      names = t.names;
      start = t.start;
      operations = t.operations;
      rows = linked t.rows l f;
      lengths = t.lengths;
      bytes = t.bytes;
      mark = t.mark;
    }

-- "a choice can be empty if a part can; its first and last sets are the unions"
abbrev pub either : Part → Part → Part
either l r =
    record {
      empty = l.empty || r.empty;
      first = bit_or l.first r.first;
      last = bit_or l.last r.last;
      table = r.table;
    }

-- "a sequence can be empty if both factors can. First: that of the left, joined with the right's if the left can be empty. Last: the
-- mirror. Every last position of the left is followed by every first position of the right"
abbrev pub then : Part → Part → Part
then l r =
    record {
      empty = l.empty && r.empty;
      first = cond l.empty (bit_or l.first r.first) l.first;
      last = cond r.empty (bit_or l.last r.last) r.last;
      table = followed r.table l.last r.first;
    }

-- "a starred part can be empty and keeps its first and last sets; every last position is followed by every first position of it"
abbrev pub starred : Part → Part
starred p = record { empty = true; first = p.first; last = p.last; table = followed p.table p.last p.first }

-- t, with the start set s
abbrev pub started : Table → ℕ → Table
started t s =
    record {
      positions = t.positions;
      names = t.names;
      start = s;
      operations = t.operations;
      rows = t.rows;
      lengths = t.lengths;
      bytes = t.bytes;
      mark = t.mark;
    }

-- the whole: "the row of p is all that follows p, joined with the first set of the expression if p is in its last set. The start set is
-- the expression's first set"
unfoldable pub completed : Part → Table
completed p =
    marked (started (followed p.table p.last p.first) p.first)

-- the bytes with n written over those from `at` on
unfoldable pub written : List ℕ → ℕ → Name → List ℕ
written bs at n = take at bs ++ n ++ drop (at + length n) bs

-- one name more: its length, and its bytes in the next 16
abbrev pub named : Table → Name → Table
named t n =
    record {
      positions = t.positions;
      names = t.names + 1;
      start = t.start;
      operations = t.operations;
      rows = t.rows;
      lengths = set t.lengths t.names (length n);
      bytes = written t.bytes (16 * t.names) n;
      mark = t.mark;
    }

-- one position more, of operation o: "a name can't be empty; its first and last sets are its own position"
abbrev pub positioned : Table → ℕ → Part
positioned t o =
    record {
      empty = false;
      first = single (t.positions + 1);
      last = single (t.positions + 1);
      table =
          record {
            positions = t.positions + 1;
            names = t.names;
            start = t.start;
            operations = set t.operations t.positions (record { 0 = o });
            rows = t.rows;
            lengths = t.lengths;
            bytes = t.bytes;
            mark = t.mark;
          };
    }

-- a name that was found, or a new one, unless it is the "33rd distinct name"
abbrev pub placed_as : Table → Name → Option Operation → Result Part Fault
placed_as t n (Some o) = Ok (positioned t o.0)
placed_as t n None = cond (leb 32 t.names) (Err Names) (Ok (positioned (named t n) t.names))

-- unless it is a "name of 17 or more bytes" or the "65th position"
unfoldable pub placed : Table → Name → Result Part Fault
placed t n =
    cond (ltb 16 (length n)) (Err LongName) (cond (leb 64 t.positions) (Err Positions) (placed_as t n (found_in (names_of t) (key n))))
