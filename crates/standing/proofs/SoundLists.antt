-- Looking through the entries in use decides the clauses of soundness on the list, where the record is sound: the terminals that no
-- entry may have are the running one and those before it, the operations that none may have are, while free, those that meet the set.
use mathlib.Core.Path.{◌≡◌, refl, sym, ap, subst, ◌∙◌}
use mathlib.Core.Bool.{Bool, true, false}
use mathlib.Core.List.{List}
use mathlib.Core.Logic.{◌↔◌, ◌≢◌}
use Prim.Native.Nat.{ℕ, ◌<◌, ◌≤◌}
use native.Mathlib.Omega.{arith}
use lib.ListN.{length, get_or, length-take}
use lib.Seq.{get_or-take}
use Rattle.meaning.specs.Sets.{mem, In}
use Rattle.meaning.proofs.SetLaws.{mem_none, none_in}
use Rattle.std.specs.Prelude.{Option, Some, None}
use Rattle.standing.specs.declared.numbers.Terminal.{Terminal}
use Rattle.standing.specs.declared.entries.Entry.{Entry}
use Rattle.standing.specs.declared.records.Session.{Session}
use Rattle.standing.specs.Lists.{blank_entry, in_use}
use Rattle.standing.specs.Searching.{barred_in, taken_in, operations_by, searching, looked}
use Rattle.standing.specs.Soundness.{RecordSound, Sound, terminal_in, operation_in}
use Rattle.standing.proofs.Listed.{AllFit, all_fit_says}
use Rattle.standing.proofs.Looking.{looked_fits}
use Rattle.standing.proofs.Meeting.{in_bit, operation_meets}
use Rattle.standing.proofs.States.{free_not_running, same_runner}

-- a terminal is not taken exactly if it does not run
new_says : (st : Option Terminal) → ((t : Terminal) → st ≡ Some t → t.0 < 64) → (x : ℕ)
    → (¬ In x (taken_in st)) ↔ ((t : Terminal) → st ≡ Some t → x ≢ t.0)
new_says None below x = (λ h t e. free_not_running t e, λ h i. none_in x i)
new_says (Some u) below x = (
  λ h t e q. h ((in_bit x u.0).1 (below u refl, q ∙ sym (same_runner u t e))),
  λ h i. h u refl ((in_bit x u.0).0 i).1,
)

-- an operation is not barred exactly if, while free, it does not meet the set
unbarred_says : (st : Option Terminal) (o os : ℕ) (meets : Bool) → mem o os ≡ meets → (mem o (barred_in st os) ≡ false) ↔ (st ≡ None → meets ≡ false)
unbarred_says None o os meets e = (λ h q. sym e ∙ h, λ h. e ∙ h refl)
unbarred_says (Some u) o os meets e = (λ h q. free_not_running u (sym q), λ h. mem_none o)

module _ (s : Session) (l : List Entry) (t : Terminal) (w : ℕ) (long : 64 ≤ length l) (r : RecordSound s) where
  abbrev es : List Entry
  es = in_use s l

  pub length_in_use : length es ≡ s.waiting
  length_in_use = omega (arith, length-take s.waiting l, r.count_most, long)

  same : (i : ℕ) → i < s.waiting → get_or es i blank_entry ≡ get_or l i blank_entry
  same i h = get_or-take s.waiting l i blank_entry h

  terminal_same : (i : ℕ) → i < s.waiting → terminal_in es i ≡ terminal_in l i
  terminal_same i h = ap (λ (e : Entry). e.terminal.0) (same i h)

  operation_same : (i : ℕ) → i < s.waiting → operation_in es i ≡ operation_in l i
  operation_same i h = ap (λ (e : Entry). e.operation.0) (same i h)

  -- an operation that exists is below 64
  few : (o : ℕ) → o < s.table.names → o < 64
  few o h = omega (arith, h, r.table_sound.names_most)

  abbrev Fit : Type 0
  Fit = AllFit s.table.names (barred_in s.running (operations_by s s.set)) (taken_in s.running) es

  fit_sound : Fit → Sound s l
  fit_sound f =
      let there : (i : ℕ) → i < s.waiting → i < length es = λ i h. omega (arith, h, length_in_use) in
      let exists : (i : ℕ) → i < s.waiting → operation_in l i < s.table.names =
      λ i h. subst (λ (o : ℕ). o < s.table.names) (operation_same i h) (f.exist i (there i h)) in
      record {
        record_sound = r;
        terminals_below = λ i h. subst (λ (n : ℕ). n < 64) (terminal_same i h) (f.below i (there i h));
        terminals_differ = λ i j h k q.
            f.differ i j (there i h) (there j k) (terminal_same i h ∙ q ∙ sym (terminal_same j k));
        none_runs = λ u e i h.
            (new_says s.running r.running_below (terminal_in l i)).0
            (subst (λ (n : ℕ). ¬ In n (taken_in s.running)) (terminal_same i h) (f.new i (there i h))) u e;
        operations_exist = exists;
        nobody_permitted = λ e i h.
            (unbarred_says s.running (operation_in l i) _ _ (operation_meets s s.set (operation_in l i) (few _ (exists i h)))).0
            (subst (λ (o : ℕ). mem o (barred_in s.running (operations_by s s.set)) ≡ false) (operation_same i h)
            (f.unbarred i (there i h)))
            e;
      }

  sound_fit : Sound s l → Fit
  sound_fit d =
      let here : (i : ℕ) → i < length es → i < s.waiting = λ i h. omega (arith, h, length_in_use) in
      record {
        below = λ i h. subst (λ (n : ℕ). n < 64) (sym (terminal_same i (here i h))) (d.terminals_below i (here i h));
        new = λ i h.
            subst (λ (n : ℕ). ¬ In n (taken_in s.running)) (sym (terminal_same i (here i h)))
            ((new_says s.running r.running_below (terminal_in l i)).1 (λ u e. d.none_runs u e i (here i h)));
        differ = λ i j h k q.
            d.terminals_differ i j (here i h) (here j k) (sym (terminal_same i (here i h)) ∙ q ∙ terminal_same j (here j k));
        exist = λ i h. subst (λ (o : ℕ). o < s.table.names) (sym (operation_same i (here i h))) (d.operations_exist i (here i h));
        unbarred = λ i h.
            subst (λ (o : ℕ). mem o (barred_in s.running (operations_by s s.set)) ≡ false) (sym (operation_same i (here i h)))
            ((unbarred_says s.running (operation_in l i) _ _
            (operation_meets s s.set (operation_in l i) (few _ (d.operations_exist i (here i h))))).1
            (λ e. d.nobody_permitted e i (here i h)));
      }

  -- what is found of the entries says whether record and list are sound
  pub looking_decides : ((looked 0 (searching s t w) es).fits ≡ true) ↔ Sound s l
  unfolding searching
  looking_decides =
      let says = all_fit_says s.table.names (barred_in s.running (operations_by s s.set)) (taken_in s.running) es in
      rw (looked_fits 0 (searching s t w) es) (λ h. fit_sound (says.0 h), λ d. says.1 (sound_fit d))
