-- The operations of a sound table, by number and by name: names are distinct, so each operation's name has its own number, and the
-- permission set of the name is that of the number.
use mathlib.Core.Path.{◌≡◌, refl, sym, ap, ◌∙◌}
use mathlib.Core.Bool.{true, false, false≢true}
use mathlib.Core.List.{List, []}
use mathlib.Core.Logic.{⊎_elim}
use Prim.Native.Nat.{ℕ, ◌-◌, ◌<◌}
use native.Mathlib.Omega.{arith}
use lib.ListN.{length, get_or, get_or-eq_default}
use lib.Seq.{get_or-take, length-take-le}
use Rattle.meaning.specs.Names.{Name, key}
use Rattle.meaning.specs.Operations.{holds, number_of}
use Rattle.meaning.proofs.OperationLaws.{at_held}
use Rattle.meaning.proofs.NumberLaws.{held_below, number_held}
use Rattle.meaning.proofs.SetLaws.{below_or_not}
use Rattle.text.specs.Tokens.{well_formed, next_token, token_from, span}
use Rattle.table.specs.Cells.{spellings, names_of}
use Rattle.table.specs.Following.{permission_set, name_in, found_in, permission_of}
use Rattle.table.specs.Soundness.{Sound, spelling}
use Rattle.table.specs.declared.cells.Table.{Table}

-- no name is empty
empty_not_well_formed : well_formed [] ≡ false
unfolding well_formed next_token token_from span
empty_not_well_formed = refl

module _ (t : Table) (sound : Sound t) where
  abbrev ns : List Name
  ns = spellings t.lengths t.bytes

  spelled : (o : ℕ) → o < t.names → o < length ns
  spelled o h =
      ⊎_elim (λ l. l)
      (λ l.
      let empty : spelling t o ≡ [] = get_or-eq_default ns [] {n = o} l in
      absurd (false≢true (sym empty_not_well_formed ∙ rw empty at (sound.names_well_formed o h).1)))
      (below_or_not o (length ns))

  -- there are as many names as the table says
  all_named : length (names_of t) ≡ t.names
  unfolding names_of
  all_named =
      let last = spelled (t.names - 1) (omega (arith, sound.names_some)) in
      length-take-le t.names ns (omega arith)

  name_spelled : (o : ℕ) → o < t.names → get_or (names_of t) o [] ≡ spelling t o
  unfolding names_of
  name_spelled o h = get_or-take t.names ns o [] h

  name_known : (o : ℕ) → o < t.names → holds (names_of t) (name_in t o) ≡ true
  name_known o h = at_held (names_of t) (name_in t o) o (omega (arith, all_named)) refl

  own_number : (o : ℕ) → o < t.names → number_of (names_of t) (name_in t o) ≡ o
  own_number o h =
      let k = name_in t o in
      let below = held_below (names_of t) k (name_known o h) in
      let number = number_of (names_of t) k in
      let there : number < t.names = omega (arith, below, all_named) in
      sound.names_distinct number o there h
      (ap key (sym (name_spelled number there)) ∙ number_held (names_of t) k (name_known o h) ∙ ap key (name_spelled o h))

  pub permission_named : (o : ℕ) → o < t.names → permission_of t (name_in t o) ≡ permission_set t o
  unfolding permission_of found_in
  permission_named o h = rw (name_known o h, own_number o h)
