-- One line of the input: what was read in it is its call, and what the call's own function did is its turn.
use mathlib.Core.Path.{◌≡◌, refl, sym, ap, subst, ◌∙◌}
use mathlib.Core.List.{List}
use Prim.Native.Nat.{ℕ, ◌-◌}
use borrow.Author.Rules.{part_to_end}
use lib.ListN.{length, take, drop}
use Rattle.std.specs.Prelude.{Option, Some, None}
use Rattle.standing.specs.declared.numbers.Terminal.{Terminal}
use Rattle.standing.specs.declared.entries.Entry.{Entry}
use Rattle.standing.specs.declared.records.Session.{Session}
use Rattle.steps.specs.Calling.{Asks, Finishes, Withdraws}
use Rattle.wording.specs.Orders.{call_of, call_read, Reads}
use Rattle.wording.specs.Writing.{Writes}
use Rattle.wording.specs.declared.orders.Asking.{Asking}
use Rattle.wording.specs.declared.orders.Order.{Order}
use Rattle.wording.specs.declared.orders.Order.TheVariants.{Ask, Finish, Withdraw}
use Rattle.wording.specs.declared.writing.Output.{Output}
use Rattle.lines.specs.declared.held.Line.{Line}
use Rattle.transcripts.specs.Replies.{refused_line, ask_line, finish_line, withdraw_line}
use Rattle.transcripts.specs.Transcript.{Says}
use Rattle.transcripts.specs.Talking.{Replied, Turned}

-- the line's call is the one that was read
call_is : (text : List ℕ) (o p : Option Order) → Reads text o → o ≡ p → call_of text ≡ call_read text p
unfolding call_of
call_is text o p reads e = sym reads.call ∙ ap (call_read text) e

module _ {s : Session} {l : List Entry} {text : List ℕ} {before after : Output} {n : Line} (o : Option Order) (reads : Reads text o) where
  pub ask_turned : (a : Asking) → o ≡ Some (Ask a)
      → Replied ask_line (Asks s l a.terminal (take (length text - a.from) (drop a.from text))) before n after
      → Turned s l text before n after
  ask_turned a e did =
      record {
        said = ask_line did.reply;
        says = subst (λ c. Says c s l (ask_line did.reply) n.session n.list) (sym (call_is text o (Some (Ask a)) reads e)) (
          did.reply,
          subst (λ name. Asks s l a.terminal name did.reply n.session n.list) (part_to_end text a.from) did.left,
          refl,
        );
        writes = did.writes;
      }

  pub finish_turned : (t : Terminal) → o ≡ Some (Finish t) → Replied (finish_line s.table) (Finishes s l t) before n after
      → Turned s l text before n after
  finish_turned t e did =
      record {
        said = finish_line s.table did.reply;
        says = subst (λ c. Says c s l (finish_line s.table did.reply) n.session n.list)
            (sym (call_is text o (Some (Finish t)) reads e))
            (did.reply, did.left, refl);
        writes = did.writes;
      }

  pub withdraw_turned : (t : Terminal) → o ≡ Some (Withdraw t) → Replied withdraw_line (Withdraws s l t) before n after
      → Turned s l text before n after
  withdraw_turned t e did =
      record {
        said = withdraw_line did.reply;
        says = subst (λ c. Says c s l (withdraw_line did.reply) n.session n.list) (sym (call_is text o (Some (Withdraw t)) reads e))
            (did.reply, did.left, refl);
        writes = did.writes;
      }

  pub unread_turned : o ≡ None → n.session ≡ s → n.list ≡ l → Writes before (refused_line 16) after
      → Turned s l text before n after
  unread_turned e same-session same-list writes =
      record {
        said = refused_line 16;
        says = subst (λ c. Says c s l (refused_line 16) n.session n.list) (sym (call_is text o None reads e))
            (same-session, same-list, refl);
        writes = writes;
      }
