-- How long the lines are that `linerun` prints: none of a readable line has more than 88 bytes.
use mathlib.Core.Path.{◌≡◌, refl}
use mathlib.Core.Bool.{Bool, true, false}
use mathlib.Core.List.{List, [], ◌∷◌}
use mathlib.Core.Logic.{⊎_elim}
use Prim.Native.Nat.{ℕ, ◌+◌, ◌*◌, ◌≤◌, ◌<◌}
use native.Mathlib.Omega.{arith}
use lib.ListN.{length, take, drop, get_or, length-append, length-take}
use lib.Seq.{get_or-take}
use Rattle.meaning.proofs.SetLaws.{below_or_not}
use Rattle.table.specs.Cells.{names_of, spellings, length_at}
use Rattle.table.specs.Soundness.{Sound}
use Rattle.table.specs.Marks.{none_twice, mark_of}
use Rattle.table.specs.declared.cells.Table.{Table}
use Rattle.text.specs.Tokens.{path_word}
use Rattle.table.proofs.Spellings.{spelling_at}
use Rattle.wording.specs.Writing.{decimal}
use Rattle.wording.proofs.Sizes.{two_digits, four_digits}
use Rattle.transcripts.proofs.Names.{no_name}
use Rattle.transcripts.specs.Replies.{line_of, refused_word, at_word, refused_line, refused_path_line, path_line}

-- ---- a line of some fields
fields_1 : (a : List ℕ) → length (line_of (a ∷ [])) ≡ length a + 1
unfolding line_of
fields_1 a = length-append a _

fields_more : (a b : List ℕ) (fs : List (List ℕ)) → length (line_of (a ∷ b ∷ fs)) ≡ length a + 1 + length (line_of (b ∷ fs))
unfolding line_of
fields_more a b fs = let all = length-append a (32 ∷ line_of (b ∷ fs)) in omega (arith, all)

pub two_fields : (a b : List ℕ) → length (line_of (a ∷ b ∷ [])) ≡ length a + length b + 2
two_fields a b = let more = fields_more a b [] in let last = fields_1 b in omega (arith, more, last)

pub refused_long : (n : ℕ) → n < 100 → length (refused_line n) ≤ 11
unfolding refused_line
refused_long n h = let all = two_fields refused_word (decimal n) in let digits = two_digits n h in omega (arith, all, digits)

-- ---- the path's line
four_fields : (a b c d : List ℕ) → length (line_of (a ∷ b ∷ c ∷ d ∷ [])) ≡ length a + length b + length c + length d + 4
four_fields a b c d =
    let one = fields_more a b (c ∷ d ∷ []) in
    let two = fields_more b c (d ∷ []) in
    let last = two_fields c d in
    omega (arith, one, two, last)

pub four_and_a_name : (a b c d e : List ℕ)
    → length (line_of (a ∷ b ∷ c ∷ d ∷ e ∷ [])) ≡ length a + length b + length c + length d + length e + 5
four_and_a_name a b c d e =
    let one = fields_more a b (c ∷ d ∷ e ∷ []) in
    let rest = four_fields b c d e in
    omega (arith, one, rest)

pub refused_path_long : (n k : ℕ) → n ≤ 7 → k ≤ 4096 → length (refused_path_line n k) ≤ 19
unfolding refused_path_line
refused_path_long n k few near =
    let all = four_fields refused_word (decimal n) at_word (decimal k) in
    let number = two_digits n (omega (arith, few)) in
    let place = four_digits k (omega (arith, near)) in
    omega (arith, all, number, place)

mark_small : (t : Table) → mark_of t < 100
unfolding mark_of
mark_small t = go (none_twice (take t.positions t.operations)) refl
  where
    go : (b : Bool) → none_twice (take t.positions t.operations) ≡ b → mark_of t < 100
    go true e = rw e (omega arith)
    go false e = rw e (omega arith)

pub path_long : (t : Table) → Sound t → length (path_line t) ≤ 18
unfolding path_line
path_long t sound =
    let all = four_fields path_word (decimal t.positions) (decimal t.names) (decimal t.mark) in
    let positions_most = sound.positions_most in
    let names_most = sound.names_most in
    let agrees = sound.mark_agrees in
    let small = mark_small t in
    let positions = two_digits t.positions (omega (arith, positions_most)) in
    let names = two_digits t.names (omega (arith, names_most)) in
    let mark = two_digits t.mark (omega (arith, agrees, small)) in
    omega (arith, all, positions, names, mark)

-- ---- a name
pub name_long : (t : Table) → Sound t → (o : ℕ) → length (get_or (names_of t) o []) ≤ 16
unfolding names_of
name_long t sound o = ⊎_elim
    (λ used.
    ⊎_elim
    (λ there.
    let most = (sound.names_well_formed o used).0 in
    let bytes = length-take (length_at t o) (drop (16 * o) t.bytes) in
    rw (get_or-take t.names (spellings t.lengths t.bytes) o [] used, spelling_at t.lengths t.bytes o there)
    (omega (arith, most, bytes)))
    (λ past. rw (no_name t.names o t.lengths t.bytes (omega (arith, past))) (omega arith))
    (below_or_not o (length t.lengths)))
    (λ unused. rw (no_name t.names o t.lengths t.bytes (omega (arith, unused))) (omega arith))
    (below_or_not o t.names)
