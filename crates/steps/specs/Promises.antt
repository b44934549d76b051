-- What is promised of the steps and the calls beside the contracts (Calling.antt). Each promise is a type here; proofs/ has a proof of
-- each, under the same name in small letters.
use Rattle.std.specs.Prelude.{◌≡◌, List, ℕ, ◌≤◌, ◌<◌, length, Some}
use Rattle.meaning.specs.Names.{Name}
use Rattle.table.specs.Soundness.{Sound as TableSound}
use Rattle.table.specs.declared.cells.Table.{Table}
use Rattle.standing.specs.declared.numbers.Terminal.{Terminal}
use Rattle.standing.specs.declared.entries.Entry.{Entry}
use Rattle.standing.specs.declared.records.Session.{Session}
use Rattle.standing.specs.declared.searches.Waiter.{Waiter}
use Rattle.steps.specs.Answers.{OpenReply, AskReply, FinishReply, WithdrawReply}
use Rattle.steps.specs.Answers.{open_answer, ask_answer, finish_answer, withdraw_answer}
use Rattle.steps.specs.Answers.Answer.{opened}
use Rattle.standing.specs.Soundness.{Sound, entry_in}
use Rattle.steps.specs.Refusals.{Runs, Waits}
use Rattle.standing.specs.Lists.{blank_entry, in_use}
use Rattle.standing.specs.Searching.{looked, looking, looking_next}
use Rattle.steps.specs.Values.{ask_core, finish_core, withdraw_core, ask_outcome, finish_outcome, withdraw_outcome}
use Rattle.steps.specs.Steps.{Outcome, freed, picked, entry_of, open_step, ask_step, finish_step, withdraw_step}
use Rattle.steps.specs.Calling.{Opens, Asks, Finishes, Withdraws}

-- what a call leaves is sound
abbrev pub SoundAfter : Outcome → Type 0
SoundAfter o = Sound o.session o.list

-- the steps keep a sound record and list sound, on a list of 64 entries or more
abbrev pub OpenStepSound : Type 0
OpenStepSound = (t : Table) (l : List Entry) → TableSound t → SoundAfter (open_step t l)

abbrev pub AskStepKeeps : Type 0
AskStepKeeps =
    (s : Session) (l : List Entry) (e : Entry) → 64 ≤ length l → Sound s l → e.terminal.0 < 64 → ¬ Runs s e.terminal.0
    → ¬ Waits s l e.terminal.0 → e.operation.0 < s.table.names → SoundAfter (ask_step s l e)

abbrev pub FinishStepKeeps : Type 0
FinishStepKeeps = (s : Session) (l : List Entry) → 64 ≤ length l → Sound s l → SoundAfter (finish_step s l)

abbrev pub WithdrawStepKeeps : Type 0
WithdrawStepKeeps = (s : Session) (l : List Entry) (t : ℕ) → 64 ≤ length l → Sound s l → SoundAfter (withdraw_step s l t)

-- the core steps by value are these steps, of a sound record and list: an ask by a terminal that does not wait, a finish with the entry
-- that it picks, a withdrawal with the place of its terminal's entry
abbrev pub AskCoreIsStep : Type 0
AskCoreIsStep =
    (s : Session) (l : List Entry) (e : Entry) → 64 ≤ length l → Sound s l → e.terminal.0 < 64 → ¬ Waits s l e.terminal.0
    → ask_outcome l (ask_core s e) ≡ ask_step s l e

abbrev pub FinishCoreIsStep : Type 0
FinishCoreIsStep =
    (s : Session) (l : List Entry) → 64 ≤ length l → Sound s l → finish_outcome l (finish_core s (picked (freed s) l)) ≡ finish_step s l

abbrev pub WithdrawCoreIsStep : Type 0
WithdrawCoreIsStep =
    (s : Session) (l : List Entry) (t : ℕ) (w : Waiter) → entry_of s l t ≡ Some w
    → withdraw_outcome l (withdraw_core s w.place) ≡ withdraw_step s l t

-- so they keep a sound record and list sound
abbrev pub AskCoreKeeps : Type 0
AskCoreKeeps =
    (s : Session) (l : List Entry) (e : Entry) → 64 ≤ length l → Sound s l → e.terminal.0 < 64 → ¬ Runs s e.terminal.0
    → ¬ Waits s l e.terminal.0 → e.operation.0 < s.table.names → SoundAfter (ask_outcome l (ask_core s e))

abbrev pub FinishCoreKeeps : Type 0
FinishCoreKeeps =
    (s : Session) (l : List Entry) → 64 ≤ length l → Sound s l → SoundAfter (finish_outcome l (finish_core s (picked (freed s) l)))

abbrev pub WithdrawCoreKeeps : Type 0
WithdrawCoreKeeps =
    (s : Session) (l : List Entry) (t : ℕ) (w : Waiter) → 64 ≤ length l → Sound s l → entry_of s l t ≡ Some w
    → SoundAfter (withdraw_outcome l (withdraw_core s w.place))

-- looking through the entries in use finds these entries
abbrev pub LookingFindsPicked : Type 0
LookingFindsPicked =
    (s : Session) (l : List Entry) (t : Terminal) → 64 ≤ length l → Sound s l
    → (looked 0 (looking_next s t) (in_use s l)).first ≡ picked (freed s) l

abbrev pub LookingFindsOwn : Type 0
LookingFindsOwn = (s : Session) (l : List Entry) (t : Terminal) → (looked 0 (looking s t) (in_use s l)).own ≡ entry_of s l t.0

-- "The count is at most 64": an ask that goes on finds room, since the terminals are below 64 and all different
abbrev pub RoomForOne : Type 0
RoomForOne =
    (s : Session) (l : List Entry) (t : ℕ) → Sound s l → t < 64 → ¬ Waits s l t → s.waiting < 64

-- sound in, sound out, for each call; and an opening that is not refused leaves a sound record and list whatever it found
abbrev pub OpenKeeps : Type 0
OpenKeeps =
    (s s' : Session) (l l' : List Entry) (t : Table) (r : OpenReply) → Opens s l t r s' l' → Sound s l → Sound s' l'

abbrev pub OpenedSound : Type 0
OpenedSound =
    (s s' : Session) (l l' : List Entry) (t : Table) (r : OpenReply) → Opens s l t r s' l' → open_answer r ≡ opened → Sound s' l'

abbrev pub AskKeeps : Type 0
AskKeeps =
    (s s' : Session) (l l' : List Entry) (t : Terminal) (n : Name) (r : AskReply) → Asks s l t n r s' l' → Sound s l → Sound s' l'

abbrev pub FinishKeeps : Type 0
FinishKeeps =
    (s s' : Session) (l l' : List Entry) (t : Terminal) (r : FinishReply) → Finishes s l t r s' l' → Sound s l → Sound s' l'

abbrev pub WithdrawKeeps : Type 0
WithdrawKeeps =
    (s s' : Session) (l l' : List Entry) (t : Terminal) (r : WithdrawReply) → Withdraws s l t r s' l' → Sound s l → Sound s' l'

-- "Entries from 64 on are never touched", by any call on any record and list
abbrev pub Untouched : List Entry → List Entry → Type 0
Untouched l l' = (length l' ≡ length l) × ((i : ℕ) → 64 ≤ i → entry_in l' i ≡ entry_in l i)

abbrev pub OpenLeavesTheRest : Type 0
OpenLeavesTheRest =
    (s s' : Session) (l l' : List Entry) (t : Table) (r : OpenReply) → Opens s l t r s' l' → Untouched l l'

abbrev pub AskLeavesTheRest : Type 0
AskLeavesTheRest =
    (s s' : Session) (l l' : List Entry) (t : Terminal) (n : Name) (r : AskReply) → Asks s l t n r s' l' → Untouched l l'

abbrev pub FinishLeavesTheRest : Type 0
FinishLeavesTheRest =
    (s s' : Session) (l l' : List Entry) (t : Terminal) (r : FinishReply) → Finishes s l t r s' l' → Untouched l l'

abbrev pub WithdrawLeavesTheRest : Type 0
WithdrawLeavesTheRest =
    (s s' : Session) (l l' : List Entry) (t : Terminal) (r : WithdrawReply) → Withdraws s l t r s' l' → Untouched l l'

-- "blank (terminal 0, operation 0)": from an opening on, the places behind the entries in use are
abbrev pub BlankBehind : Session → List Entry → Type 0
BlankBehind s l = (i : ℕ) → s.waiting ≤ i → i < 64 → entry_in l i ≡ blank_entry

abbrev pub OpenedBlank : Type 0
OpenedBlank =
    (s s' : Session) (l l' : List Entry) (t : Table) (r : OpenReply) → Opens s l t r s' l' → open_answer r ≡ opened
    → BlankBehind s' l'

abbrev pub AskKeepsBlank : Type 0
AskKeepsBlank =
    (s s' : Session) (l l' : List Entry) (t : Terminal) (n : Name) (r : AskReply) → Asks s l t n r s' l' → BlankBehind s l
    → BlankBehind s' l'

abbrev pub FinishKeepsBlank : Type 0
FinishKeepsBlank =
    (s s' : Session) (l l' : List Entry) (t : Terminal) (r : FinishReply) → Finishes s l t r s' l' → BlankBehind s l
    → BlankBehind s' l'

abbrev pub WithdrawKeepsBlank : Type 0
WithdrawKeepsBlank =
    (s s' : Session) (l l' : List Entry) (t : Terminal) (r : WithdrawReply) → Withdraws s l t r s' l' → BlankBehind s l
    → BlankBehind s' l'

-- the paper's number and values tell the cases of a reply apart
abbrev pub OpenAnswerInjective : Type 0
OpenAnswerInjective = (a b : OpenReply) → open_answer a ≡ open_answer b → a ≡ b

abbrev pub AskAnswerInjective : Type 0
AskAnswerInjective = (a b : AskReply) → ask_answer a ≡ ask_answer b → a ≡ b

abbrev pub FinishAnswerInjective : Type 0
FinishAnswerInjective = (a b : FinishReply) → finish_answer a ≡ finish_answer b → a ≡ b

abbrev pub WithdrawAnswerInjective : Type 0
WithdrawAnswerInjective = (a b : WithdrawReply) → withdraw_answer a ≡ withdraw_answer b → a ≡ b

-- exactly one outcome for each record, list and call
abbrev pub OpenDetermined : Type 0
OpenDetermined =
    (s s₁ s₂ : Session) (l l₁ l₂ : List Entry) (t : Table) (r₁ r₂ : OpenReply) → Opens s l t r₁ s₁ l₁ → Opens s l t r₂ s₂ l₂
    → (r₁ ≡ r₂) × (s₁ ≡ s₂) × (l₁ ≡ l₂)

abbrev pub AskDetermined : Type 0
AskDetermined =
    (s s₁ s₂ : Session) (l l₁ l₂ : List Entry) (t : Terminal) (n : Name) (r₁ r₂ : AskReply) → Asks s l t n r₁ s₁ l₁
    → Asks s l t n r₂ s₂ l₂ → (r₁ ≡ r₂) × (s₁ ≡ s₂) × (l₁ ≡ l₂)

abbrev pub FinishDetermined : Type 0
FinishDetermined =
    (s s₁ s₂ : Session) (l l₁ l₂ : List Entry) (t : Terminal) (r₁ r₂ : FinishReply) → Finishes s l t r₁ s₁ l₁
    → Finishes s l t r₂ s₂ l₂ → (r₁ ≡ r₂) × (s₁ ≡ s₂) × (l₁ ≡ l₂)

abbrev pub WithdrawDetermined : Type 0
WithdrawDetermined =
    (s s₁ s₂ : Session) (l l₁ l₂ : List Entry) (t : Terminal) (r₁ r₂ : WithdrawReply) → Withdraws s l t r₁ s₁ l₁
    → Withdraws s l t r₂ s₂ l₂ → (r₁ ≡ r₂) × (s₁ ≡ s₂) × (l₁ ≡ l₂)
