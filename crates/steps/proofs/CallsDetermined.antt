-- Each call has exactly one outcome: two rows that apply first are one, and a row that applies rules out that none does.
-- Document 01's numbers and values tell the cases of a reply apart, so equal outcomes have equal replies.
use mathlib.Core.Path.{◌≡◌, refl, sym, ap, ◌∙◌}
use mathlib.Core.List.{List}
use mathlib.Core.Logic.{◌≢◌, ⊎_elim}
use Prim.Native.Nat.{ℕ}
use native.Mathlib.Omega.{arith}
use Rattle.meaning.proofs.SetLaws.{below_or_not}
use Rattle.standing.specs.declared.entries.Entry.{Entry}
use Rattle.standing.specs.declared.records.Session.{Session}
use Rattle.std.specs.Prelude.{Ok, Err}
use Rattle.steps.specs.declared.replies.CallRefusal.{CallRefusal}
use Rattle.steps.specs.declared.replies.Ask.TheVariants.{Granted, Delayed}
use Rattle.steps.specs.declared.replies.Next.{Next}
use Rattle.steps.specs.declared.replies.Next.TheVariants.{Granted as Grants, Nobody}
use Rattle.steps.specs.Answers.{Answer, number_of, open_answer, ask_answer, next_answer, finish_answer, withdraw_answer}
use Rattle.steps.specs.Answers.Answer.{refused}
use Rattle.steps.specs.Calling.{Serves}
use Rattle.steps.specs.Calling.Serves.{refuses, does}
use Rattle.steps.specs.Promises.{OpenAnswerInjective, AskAnswerInjective, FinishAnswerInjective}
use Rattle.steps.specs.Promises.{WithdrawAnswerInjective, OpenDetermined, AskDetermined, FinishDetermined}
use Rattle.steps.specs.Promises.{WithdrawDetermined}
use Rattle.steps.specs.Refusals.{First}
use Rattle.steps.specs.Steps.{Outcome}
use Rattle.steps.proofs.RefusalNumbers.{number_injective}

refusals_equal : (r q : CallRefusal) → refused (number_of r) ≡ refused (number_of q) → r ≡ q
refusals_equal r q e = number_injective r q cc

pub open_answer_injective : OpenAnswerInjective
open_answer_injective (Ok u) (Ok v) e = refl
open_answer_injective (Ok u) (Err r) e = cc
open_answer_injective (Err r) (Ok v) e = cc
open_answer_injective (Err r) (Err q) e = ap Err (refusals_equal r q e)

pub ask_answer_injective : AskAnswerInjective
ask_answer_injective (Ok Granted) (Ok Granted) e = refl
ask_answer_injective (Ok Granted) (Ok (Delayed n)) e = cc
ask_answer_injective (Ok Granted) (Err r) e = cc
ask_answer_injective (Ok (Delayed n)) (Ok Granted) e = cc
ask_answer_injective (Ok (Delayed n)) (Ok (Delayed k)) e = cc
ask_answer_injective (Ok (Delayed n)) (Err r) e = cc
ask_answer_injective (Err r) (Ok Granted) e = cc
ask_answer_injective (Err r) (Ok (Delayed n)) e = cc
ask_answer_injective (Err r) (Err q) e = ap Err (refusals_equal r q e)

next_injective : (n k : ℕ) (a b : Next) → next_answer n a ≡ next_answer k b → (n ≡ k) × (a ≡ b)
next_injective n k (Grants g) (Grants h) e =
    let terminals : g.terminal.0 ≡ h.terminal.0 = cc in
    let operations : g.operation.0 ≡ h.operation.0 = cc in
    (cc, λ i. Grants (record { terminal = record { 0 = terminals i }; operation = record { 0 = operations i } }))
next_injective n k (Grants g) Nobody e = (cc, cc)
next_injective n k Nobody (Grants h) e = (cc, cc)
next_injective n k Nobody Nobody e = (cc, refl)

next_not_refused : (n m : ℕ) (a : Next) → next_answer n a ≢ refused m
next_not_refused n m (Grants g) e = let never : ◌≡◌ {A = ℕ} 0 1 = cc in omega arith
next_not_refused n m Nobody e = let never : ◌≡◌ {A = ℕ} 0 1 = cc in omega arith

pub finish_answer_injective : FinishAnswerInjective
finish_answer_injective (Ok f) (Ok g) e =
    let (counts, nexts) = next_injective f.examined g.examined f.next g.next e in
    λ i. Ok (record { examined = counts i; next = nexts i })
finish_answer_injective (Ok f) (Err r) e = absurd (next_not_refused f.examined (number_of r) f.next e)
finish_answer_injective (Err r) (Ok g) e = absurd (next_not_refused g.examined (number_of r) g.next (sym e))
finish_answer_injective (Err r) (Err q) e = ap Err (refusals_equal r q e)

pub withdraw_answer_injective : WithdrawAnswerInjective
withdraw_answer_injective (Ok p) (Ok q) e = cc
withdraw_answer_injective (Ok p) (Err r) e = cc
withdraw_answer_injective (Err r) (Ok q) e = cc
withdraw_answer_injective (Err r) (Err q) e = ap Err (refusals_equal r q e)

first_one : {R : ℕ → Type 0} (m k : ℕ) → First R m → First R k → m ≡ k
first_one m k a b =
    ⊎_elim (λ before. absurd (b.none_before m before a.applies))
    (λ up.
    ⊎_elim (λ before. absurd (a.none_before k before b.applies)) (λ down. omega arith) (below_or_not k m))
    (below_or_not m k)

serves_one : {R : ℕ → Type 0} {s : Session} {l : List Entry} {step o p : Outcome} → Serves R s l step o → Serves R s l step p
    → o ≡ p
serves_one (refuses m a e) (refuses k b f) = let same = first_one m k a b in cc
serves_one (refuses m a e) (does none f) = absurd (none m a.applies)
serves_one (does none e) (refuses m a f) = absurd (none m a.applies)
serves_one (does a e) (does b f) = e ∙ sym f

-- two outcomes of a call with replies that their answers tell apart
determined : {A : Type 0} (answer : A → Answer) → ((a b : A) → answer a ≡ answer b → a ≡ b)
    → {R : ℕ → Type 0} {s s₁ s₂ : Session} {l l₁ l₂ : List Entry} {step : Outcome} {r₁ r₂ : A}
    → Serves R s l step (record { answer = answer r₁; session = s₁; list = l₁ })
    → Serves R s l step (record { answer = answer r₂; session = s₂; list = l₂ })
    → (r₁ ≡ r₂) × (s₁ ≡ s₂) × (l₁ ≡ l₂)
determined answer injective {r₁ = r₁} {r₂ = r₂} a b =
    let one = serves_one a b in (
      injective r₁ r₂ (ap (λ (o : Outcome). o.answer) one),
      ap (λ (o : Outcome). o.session) one,
      ap (λ (o : Outcome). o.list) one,
    )

pub open_determined : OpenDetermined
open_determined s s₁ s₂ l l₁ l₂ t r₁ r₂ a b = determined open_answer open_answer_injective a b

pub ask_determined : AskDetermined
ask_determined s s₁ s₂ l l₁ l₂ t n r₁ r₂ a b = determined ask_answer ask_answer_injective a b

pub finish_determined : FinishDetermined
finish_determined s s₁ s₂ l l₁ l₂ t r₁ r₂ a b = determined finish_answer finish_answer_injective a b

pub withdraw_determined : WithdrawDetermined
withdraw_determined s s₁ s₂ l l₁ l₂ t r₁ r₂ a b = determined withdraw_answer withdraw_answer_injective a b
