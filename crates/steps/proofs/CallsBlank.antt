-- From an opening on, the places behind the entries in use are blank: an opening blanks the first 64 places, an entry that is put
-- behind those in use is in use then, and where one is taken out the place of the last becomes blank.
use mathlib.Core.Path.{◌≡◌, ◌∙◌}
use mathlib.Core.List.{List}
use mathlib.Core.Logic.{◌⊎◌, inl, inr}
use Prim.Native.Nat.{ℕ, ◌<◌, ◌≤◌}
use native.Mathlib.Omega.{arith}
use lib.Seq.{get_or-set_other}
use Rattle.meaning.proofs.SetLaws.{below_or_not}
use Rattle.standing.specs.declared.entries.Entry.{Entry}
use Rattle.standing.specs.Lists.{blank_entry}
use Rattle.steps.specs.Promises.{BlankBehind, OpenedBlank, AskKeepsBlank, FinishKeepsBlank, WithdrawKeepsBlank}
use Rattle.standing.specs.Soundness.{entry_in}
use Rattle.steps.specs.Steps.{Outcome, open_step}
use Rattle.steps.proofs.CallCases.{opened_served}
use Rattle.standing.proofs.EntryLaws.{blanked_says}
use Rattle.steps.proofs.ListChanges.{Change, ask_changes, finish_changes, withdraw_changes}
use Rattle.steps.proofs.ListChanges.Change.{nothing, put_last, took_out}

-- the places behind the first n
abbrev BlankFrom : ℕ → List Entry → Type 0
BlankFrom n l = (i : ℕ) → n ≤ i → i < 64 → entry_in l i ≡ blank_entry

stays_blank : {n n' : ℕ} {l l' : List Entry} → Change n l n' l' → BlankFrom n l → BlankFrom n' l'
stays_blank nothing blank i h few = blank i h few
stays_blank {n} {l = l} (put_last e room) blank i h few =
    get_or-set_other l n i e blank_entry (omega arith) ∙ blank i (omega arith) few
stays_blank {n} (took_out p l' here most out) blank i h few = go (below_or_not i n)
  where
    go : (i < n) ⊎ (n ≤ i) → entry_in l' i ≡ blank_entry
    go (inl last) = out.last_blank i (omega arith)
    go (inr behind) = out.behind i behind ∙ blank i behind few

pub opened_blank : OpenedBlank
unfolding open_step
opened_blank s s' l l' t r opens is-opened =
    opened_served (λ (o : Outcome). BlankBehind o.session o.list) opens is-opened
    (λ none i h few. (blanked_says 64 l).first_blank i few)

pub ask_keeps_blank : AskKeepsBlank
ask_keeps_blank s s' l l' t n r asks = stays_blank (ask_changes s s' l l' t n r asks)

pub finish_keeps_blank : FinishKeepsBlank
finish_keeps_blank s s' l l' t r finishes = stays_blank (finish_changes s s' l l' t r finishes)

pub withdraw_keeps_blank : WithdrawKeepsBlank
withdraw_keeps_blank s s' l l' t r withdraws = stays_blank (withdraw_changes s s' l l' t r withdraws)
