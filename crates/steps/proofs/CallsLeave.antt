-- "Entries from 64 on are never touched", and the length is the list's own: an opening blanks the first 64 places, and the other
-- calls change the list at places below 64, if at all.
use mathlib.Core.Path.{refl}
use mathlib.Core.List.{List}
use Prim.Native.Nat.{ℕ}
use native.Mathlib.Omega.{arith}
use lib.ListN.{length-set}
use lib.Seq.{get_or-set_other}
use Rattle.standing.specs.declared.entries.Entry.{Entry}
use Rattle.standing.specs.Lists.{blank_entry}
use Rattle.steps.specs.Promises.{Untouched, OpenLeavesTheRest, AskLeavesTheRest, FinishLeavesTheRest}
use Rattle.steps.specs.Promises.{WithdrawLeavesTheRest}
use Rattle.steps.specs.Steps.{Outcome, open_step}
use Rattle.steps.proofs.CallCases.{served}
use Rattle.standing.proofs.EntryLaws.{blanked_says}
use Rattle.steps.proofs.ListChanges.{Change, ask_changes, finish_changes, withdraw_changes}
use Rattle.steps.proofs.ListChanges.Change.{nothing, put_last, took_out}

untouched : {n n' : ℕ} {l l' : List Entry} → Change n l n' l' → Untouched l l'
untouched nothing = (refl, λ i h. refl)
untouched {n} {l = l} (put_last e room) = (length-set l n e, λ i h. get_or-set_other l n i e blank_entry (omega arith))
untouched (took_out p l' here most out) = (out.same_length, λ i h. out.behind i (omega arith))

pub open_leaves_the_rest : OpenLeavesTheRest
unfolding open_step
open_leaves_the_rest s s' l l' t r opens =
    let blank = blanked_says 64 l in
    served (λ (o : Outcome). Untouched l o.list) opens (λ m. (refl, λ i h. refl)) (λ none. (blank.same_length, blank.behind))

pub ask_leaves_the_rest : AskLeavesTheRest
ask_leaves_the_rest s s' l l' t n r asks = untouched (ask_changes s s' l l' t n r asks)

pub finish_leaves_the_rest : FinishLeavesTheRest
finish_leaves_the_rest s s' l l' t r finishes = untouched (finish_changes s s' l l' t r finishes)

pub withdraw_leaves_the_rest : WithdrawLeavesTheRest
withdraw_leaves_the_rest s s' l l' t r withdraws = untouched (withdraw_changes s s' l l' t r withdraws)
