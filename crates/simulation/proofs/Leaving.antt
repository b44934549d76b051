-- What holds of each call, whichever it is: record and list stay sound, entries from 64 on are left, and so are blank places behind those
-- in use; and a call has one outcome.
use mathlib.Core.Path.{◌≡◌, ap, subst}
use mathlib.Core.List.{List}
use Rattle.meaning.specs.Calls.{Call}
use Rattle.meaning.specs.Calls.Call.{ask, finish, withdraw}
use Rattle.standing.specs.declared.entries.Entry.{Entry}
use Rattle.standing.specs.declared.records.Session.{Session}
use Rattle.standing.specs.Soundness.{Sound}
use Rattle.steps.specs.Promises.{Untouched, BlankBehind}
use Rattle.steps.proofs.CallsKeep.{ask_keeps, finish_keeps, withdraw_keeps}
use Rattle.steps.proofs.CallsLeave.{ask_leaves_the_rest, finish_leaves_the_rest, withdraw_leaves_the_rest}
use Rattle.steps.proofs.CallsBlank.{ask_keeps_blank, finish_keeps_blank, withdraw_keeps_blank}
use Rattle.steps.proofs.CallsDetermined.{ask_determined, finish_determined, withdraw_determined}
use Rattle.simulation.specs.Runs.{ReplyTo, Leaves, Made}

module _ (s s' : Session) (l l' : List Entry) where
  pub leaves_sound : (c : Call) (r : ReplyTo c) → Leaves s l c r s' l' → Sound s l → Sound s' l'
  leaves_sound (ask u n) r by sound = ask_keeps s s' l l' _ n r by sound
  leaves_sound (finish u) r by sound = finish_keeps s s' l l' _ r by sound
  leaves_sound (withdraw u) r by sound = withdraw_keeps s s' l l' _ r by sound

  pub leaves_rest : (c : Call) (r : ReplyTo c) → Leaves s l c r s' l' → Untouched l l'
  leaves_rest (ask u n) r by = ask_leaves_the_rest s s' l l' _ n r by
  leaves_rest (finish u) r by = finish_leaves_the_rest s s' l l' _ r by
  leaves_rest (withdraw u) r by = withdraw_leaves_the_rest s s' l l' _ r by

  pub leaves_blank : (c : Call) (r : ReplyTo c) → Leaves s l c r s' l' → BlankBehind s l → BlankBehind s' l'
  leaves_blank (ask u n) r by blank = ask_keeps_blank s s' l l' _ n r by blank
  leaves_blank (finish u) r by blank = finish_keeps_blank s s' l l' _ r by blank
  leaves_blank (withdraw u) r by blank = withdraw_keeps_blank s s' l l' _ r by blank

module _ (s s₁ s₂ : Session) (l l₁ l₂ : List Entry) where
  pub leaves_one : (c : Call) (r q : ReplyTo c) → Leaves s l c r s₁ l₁ → Leaves s l c q s₂ l₂ → (r ≡ q) × (s₁ ≡ s₂) × (l₁ ≡ l₂)
  leaves_one (ask u n) r q by by' = ask_determined s s₁ s₂ l l₁ l₂ _ n r q by by'
  leaves_one (finish u) r q by by' = finish_determined s s₁ s₂ l l₁ l₂ _ r q by by'
  leaves_one (withdraw u) r q by by' = withdraw_determined s s₁ s₂ l l₁ l₂ _ r q by by'

  -- the same of calls that are equal
  pub made_one : (m d : Made) → m.call ≡ d.call → Leaves s l m.call m.reply s₁ l₁ → Leaves s l d.call d.reply s₂ l₂
      → (m ≡ d) × (s₁ ≡ s₂) × (l₁ ≡ l₂)
  made_one m d e by by' =
      subst (λ (c : Call). (q : ReplyTo c) → Leaves s l c q s₂ l₂ → (m ≡ record { call = c; reply = q }) × (s₁ ≡ s₂) × (l₁ ≡ l₂)) e
      (λ q by''.
      let (same, records, lists) = leaves_one m.call m.reply q by by'' in
      (ap (λ (r : ReplyTo m.call). record { call = m.call; reply = r }) same, records, lists))
      d.reply by'
