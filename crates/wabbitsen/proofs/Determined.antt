-- What each public function answers is determined. The functions by value have an equation with a definition for a contract. Of an
-- exported function the contract below it leaves one reply, session and list, and so there is one reply, record and list of C's.
use mathlib.Core.Path.{◌≡◌, sym, ap, ◌∙◌}
use mathlib.Core.List.{List}
use Rattle.text.proofs.Determined.{both_equal}
use Rattle.standing.specs.declared.entries.Entry.{Entry}
use Rattle.standing.specs.declared.records.Session.{Session}
use Rattle.steps.specs.declared.replies.CallRefusal.{CallRefusal}
use Rattle.steps.specs.Answers.Answer.{refused}
use Rattle.steps.specs.Answers.{number_of, OpenReply, AskReply, FinishReply, WithdrawReply, Answer, open_answer, ask_answer, finish_answer, withdraw_answer}
use Rattle.steps.proofs.CallsDetermined.{open_determined, ask_determined, finish_determined, withdraw_determined}
use Rattle.compiler.specs.Compiling.{Reply as CompileReply}
use Rattle.compiler.specs.declared.replies.Compiled.{Compiled}
use Rattle.compiler.specs.Compiling.{answer}
use Rattle.compiler.proofs.CompiledTexts.{compile_determined}
use Rattle.wabbitsen.specs.declared.records.Record.{Record}
use Rattle.wabbitsen.specs.declared.replies.Reply.{Reply}
use Rattle.wabbitsen.specs.Exporting.{session_in, holding, reply_of, compile_reply_of, Exported}
use Rattle.wabbitsen.specs.Promises.{CompilesForDetermined, OpensForDetermined, AsksForDetermined}
use Rattle.wabbitsen.specs.Promises.{FinishesForDetermined, WithdrawsForDetermined}

-- ---- by value
pub session_in_determined : (b : Record) (s s' : Session) → s ≡ session_in b → s' ≡ session_in b → s ≡ s'
session_in_determined b s s' = both_equal

pub holding_determined : (b : Record) (s : Session) (b₁ b₂ : Record) → b₁ ≡ holding b s → b₂ ≡ holding b s → b₁ ≡ b₂
holding_determined b s b₁ b₂ = both_equal

pub compile_reply_determined : (a : CompileReply) (r r' : Reply) → r ≡ compile_reply_of (answer a) → r' ≡ compile_reply_of (answer a) → r ≡ r'
compile_reply_determined a r r' = both_equal

pub open_reply_determined : (a : OpenReply) (r r' : Reply) → r ≡ reply_of (open_answer a) → r' ≡ reply_of (open_answer a) → r ≡ r'
open_reply_determined a r r' = both_equal

pub refusal_reply_determined : (e : CallRefusal) (r r' : Reply) → r ≡ reply_of (refused (number_of e)) → r' ≡ reply_of (refused (number_of e))
    → r ≡ r'
refusal_reply_determined e r r' = both_equal

pub ask_reply_determined : (a : AskReply) (r r' : Reply) → r ≡ reply_of (ask_answer a) → r' ≡ reply_of (ask_answer a) → r ≡ r'
ask_reply_determined a r r' = both_equal

pub finish_reply_determined : (a : FinishReply) (r r' : Reply) → r ≡ reply_of (finish_answer a) → r' ≡ reply_of (finish_answer a) → r ≡ r'
finish_reply_determined a r r' = both_equal

pub withdraw_reply_determined : (a : WithdrawReply) (r r' : Reply) → r ≡ reply_of (withdraw_answer a) → r' ≡ reply_of (withdraw_answer a)
    → r ≡ r'
withdraw_reply_determined a r r' = both_equal

-- ---- exported
pub compiles_for_determined : CompilesForDetermined
compiles_for_determined text t₁ t₂ r₁ r₂ c₁ c₂ =
    let one = compile_determined text _ _ c₁.compiles c₂.compiles in (
      c₁.is_reply ∙ ap (λ (c : Compiled). compile_reply_of (answer c.reply)) one ∙ sym c₂.is_reply,
      ap (λ (c : Compiled). c.table) one,
    )

-- a call that leaves one reply, session and list leaves one of each to C
module _ {A : Type 0} (answers : A → Answer) (Leaves : A → Session → List Entry → Type 0)
    (one : (a₁ a₂ : A) (s₁ s₂ : Session) (l₁ l₂ : List Entry) → Leaves a₁ s₁ l₁ → Leaves a₂ s₂ l₂ → (a₁ ≡ a₂) × (s₁ ≡ s₂) × (l₁ ≡ l₂))
    (b b₁ b₂ : Record) (l₁ l₂ : List Entry) (r₁ r₂ : Reply) where
  exported_determined : Exported A answers Leaves b r₁ b₁ l₁ → Exported A answers Leaves b r₂ b₂ l₂
      → (r₁ ≡ r₂) × (b₁ ≡ b₂) × (l₁ ≡ l₂)
  exported_determined c₁ c₂ =
      let (replies, sessions, lists) = one _ _ _ _ _ _ c₁.leaves c₂.leaves in (
        c₁.is_reply ∙ ap (λ (a : A). reply_of (answers a)) replies ∙ sym c₂.is_reply,
        c₁.is_record ∙ ap (holding b) sessions ∙ sym c₂.is_record,
        lists,
      )

pub opens_for_determined : OpensForDetermined
opens_for_determined b b₁ b₂ l l₁ l₂ t r₁ r₂ =
    exported_determined open_answer _ (λ a₁ a₂ s₁ s₂ m₁ m₂. open_determined _ s₁ s₂ l m₁ m₂ t a₁ a₂) b b₁ b₂ l₁ l₂ r₁ r₂

pub asks_for_determined : AsksForDetermined
asks_for_determined b b₁ b₂ l l₁ l₂ t n r₁ r₂ =
    exported_determined ask_answer _ (λ a₁ a₂ s₁ s₂ m₁ m₂. ask_determined _ s₁ s₂ l m₁ m₂ t n a₁ a₂) b b₁ b₂ l₁ l₂ r₁ r₂

pub finishes_for_determined : FinishesForDetermined
finishes_for_determined b b₁ b₂ l l₁ l₂ t r₁ r₂ =
    exported_determined finish_answer _ (λ a₁ a₂ s₁ s₂ m₁ m₂. finish_determined _ s₁ s₂ l m₁ m₂ t a₁ a₂) b b₁ b₂ l₁ l₂ r₁ r₂

pub withdraws_for_determined : WithdrawsForDetermined
withdraws_for_determined b b₁ b₂ l l₁ l₂ t r₁ r₂ =
    exported_determined withdraw_answer _ (λ a₁ a₂ s₁ s₂ m₁ m₂. withdraw_determined _ s₁ s₂ l m₁ m₂ t a₁ a₂) b b₁ b₂ l₁ l₂ r₁ r₂
