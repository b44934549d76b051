-- A line of 64 blank entries that is opened over a sound table: the opening is not refused, and leaves what document 01 says.
use mathlib.Core.Path.{◌≡◌, refl, ap, subst, ◌∙◌}
use mathlib.Core.List.{List}
use native.Mathlib.Omega.{arith}
use lib.ListN.{replicate, length-replicate}
use Rattle.table.specs.Soundness.{Sound}
use Rattle.table.specs.declared.cells.Table.{Table}
use Rattle.standing.specs.declared.entries.Entry.{Entry}
use Rattle.standing.specs.declared.records.Session.{Session}
use Rattle.standing.specs.Lists.{blank_entry, blanked}
use Rattle.standing.specs.Soundness.{Sound as RecordAndList}
use Rattle.std.specs.Prelude.{Ok}
use Rattle.steps.specs.Answers.{OpenReply}
use Rattle.steps.specs.Calling.{Opens}
use Rattle.steps.specs.Calling.Serves.{refuses, does}
use Rattle.steps.specs.Steps.{opening, open_step}
use Rattle.steps.proofs.CallsKeep.{opened_sound}
use Rattle.steps.proofs.OpenServed.{open_rows_left}

abbrev pub blanks : List Entry
blanks = replicate 64 blank_entry

still_blank : blanked 64 blanks ≡ blanks
unfolding blanked
still_blank = refl

pub opened_blank : (s s' : Session) (l' : List Entry) (t : Table) (r : OpenReply) → Sound t → Opens s blanks t r s' l'
    → (s' ≡ opening t) × (l' ≡ blanks)
unfolding open_step
opened_blank s s' l' t r sound (refuses m first e) =
    absurd ((open_rows_left t blanks first.applies).2 (rw (length-replicate 64 blank_entry) (omega arith)) sound)
opened_blank s s' l' t r sound (does none e) = (ap (λ o. o.session) e, ap (λ o. o.list) e ∙ still_blank)

-- such an opening, as the contract of `open` has it
pub opening_opens : (t : Table) → Sound t → Opens (opening t) blanks t (Ok tt) (opening t) blanks
unfolding open_step
opening_opens t sound =
    subst (λ l. Opens (opening t) blanks t (Ok tt) (opening t) l) still_blank
    (does (λ m row. (open_rows_left t blanks row).2 (rw (length-replicate 64 blank_entry) (omega arith)) sound) refl)

-- the record and list that it leaves are sound
pub opening_sound : (t : Table) → Sound t → RecordAndList (opening t) blanks
opening_sound t sound = opened_sound (opening t) (opening t) blanks blanks t (Ok tt) (opening_opens t sound) refl
