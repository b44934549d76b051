-- Two inputs that differ only in their paths, which permit the same histories: nobody can tell their lines apart, so what is printed
-- behind the path's line is the same. A reply line tells no more than is heard of the call; here `key` is opened, since a line shows a
-- name's bytes.
use mathlib.Core.Path.{◌≡◌, refl, sym, ap, ap₂, subst, ◌∙◌}
use mathlib.Core.List.{List, [], ◌∷◌, ◌++◌, map, nil≢cons}
use mathlib.Core.Option.{Option, some, none}
use Prim.Native.Nat.{ℕ}
use Rattle.meaning.specs.Names.{key}
use Rattle.meaning.specs.Words.{Expr}
use Rattle.meaning.specs.Calls.{Call, Reply, Grant, AskReply as AskHeard, FinishReply as FinishHeard, Exchange, call_in}
use Rattle.meaning.specs.Calls.Call.{ask, finish, withdraw}
use Rattle.meaning.specs.Calls.Reply.{done, refused}
use Rattle.meaning.specs.Calls.AskReply.{granted, delayed}
use Rattle.meaning.specs.Calls.Exchange.{asked, finished, withdrew}
use Rattle.grammar.specs.Refusals.{Accepted}
use Rattle.table.specs.Rules.{table_of}
use Rattle.table.specs.declared.cells.Table.{Table}
use Rattle.compiler.specs.Computed.{compiled}
use Rattle.compiler.proofs.CompiledTexts.{compiled_compiles}
use Rattle.standing.specs.Lists.{in_use}
use Rattle.std.specs.Prelude.{Ok, Err}
use Rattle.steps.specs.declared.replies.Ask.TheVariants.{Granted, Delayed}
use Rattle.steps.specs.declared.replies.Next.{Next}
use Rattle.steps.specs.declared.replies.Next.TheVariants.{Granted as Grants, Nobody}
use Rattle.steps.specs.Answers.{AskReply, FinishReply, WithdrawReply}
use Rattle.simulation.specs.Runs.{ReplyTo, Made, calls_of}
use Rattle.simulation.specs.Hearing.{entry_heard, exchanged, heard, Seen}
use Rattle.simulation.specs.Texts.{TextSeen}
use Rattle.simulation.proofs.TextsDemand.{same_histories_told_alike}
use Rattle.wording.specs.Lines.{text_of, later_lines}
use Rattle.wording.specs.Orders.{call_of}
use Rattle.wording.specs.Writing.{decimal}
use Rattle.transcripts.specs.Replies.{line_of, granted_word, delayed_word, finished_word, withdrawn_word, refused_line, path_line, reply_line}
use Rattle.transcripts.specs.Replies.{ask_line, finished_line, finish_line, withdraw_line}
use Rattle.transcripts.specs.Promises.{calls_in, shown_by, shown, RunShown, SameHistoriesSameReplies}
use Rattle.transcripts.proofs.Shown.{transcript_is_a_run}

-- ---- a reply line, from what is heard
ask_said : Reply AskHeard → List ℕ
ask_said (done granted) = line_of (granted_word ∷ [])
ask_said (done (delayed n)) = line_of (delayed_word ∷ decimal n ∷ [])
ask_said (refused m) = refused_line m

grant_said : ℕ → Option Grant → List ℕ
grant_said n none = line_of (finished_word ∷ decimal n ∷ [])
grant_said n (some g) = line_of (finished_word ∷ decimal n ∷ granted_word ∷ decimal g.terminal ∷ g.name ∷ [])

finish_said : Reply FinishHeard → List ℕ
finish_said (done f) = grant_said f.examined f.grants
finish_said (refused m) = refused_line m

withdraw_said : Reply ℕ → List ℕ
withdraw_said (done p) = line_of (withdrawn_word ∷ decimal p ∷ [])
withdraw_said (refused m) = refused_line m

exchange_said : Exchange → List ℕ
exchange_said (asked t n r) = ask_said r
exchange_said (finished t r) = finish_said r
exchange_said (withdrew t r) = withdraw_said r

ask_said_same : (t : Table) (u : ℕ) (n : List ℕ) (r : AskReply) → ask_line r ≡ exchange_said (exchanged t (ask u n) r)
unfolding ask_said exchange_said ask_line
ask_said_same t u n (Ok Granted) = refl
ask_said_same t u n (Ok (Delayed m)) = refl
ask_said_same t u n (Err r) = refl

next_said : (t : Table) (u n : ℕ) (x : Next)
    → finished_line t n x ≡ exchange_said (exchanged t (finish u) (Ok (record { examined = n; next = x })))
unfolding key grant_said finish_said exchange_said finished_line
next_said t u n (Grants g) = refl
next_said t u n Nobody = refl

finish_said_same : (t : Table) (u : ℕ) (r : FinishReply) → finish_line t r ≡ exchange_said (exchanged t (finish u) r)
unfolding finish_said exchange_said finish_line
finish_said_same t u (Ok f) = next_said t u f.examined f.next
finish_said_same t u (Err r) = refl

withdraw_said_same : (t : Table) (u : ℕ) (r : WithdrawReply) → withdraw_line r ≡ exchange_said (exchanged t (withdraw u) r)
unfolding withdraw_said exchange_said withdraw_line
withdraw_said_same t u (Ok p) = refl
withdraw_said_same t u (Err r) = refl

reply_said : (t : Table) (c : Call) (r : ReplyTo c) → reply_line t c r ≡ exchange_said (exchanged t c r)
reply_said t (ask u n) r = ask_said_same t u n r
reply_said t (finish u) r = finish_said_same t u r
reply_said t (withdraw u) r = withdraw_said_same t u r

-- ---- equal exchanges are shown as equal lines
shown_alike : (t t' : Table) (lines : List (List ℕ)) (ms ms' : List Made) → map (heard t) ms ≡ map (heard t') ms'
    → shown t lines ms ≡ shown t' lines ms'
unfolding shown
shown_alike t t' [] ms ms' e = refl
shown_alike t t' (line ∷ lines) ms ms' e = go (call_of line) ms ms' e (λ ns ns' h. shown_alike t t' lines ns ns' h)
  where
    go : (c : Option Call) (ms ms' : List Made) → map (heard t) ms ≡ map (heard t') ms'
        → ((ns ns' : List Made) → map (heard t) ns ≡ map (heard t') ns' → shown t lines ns ≡ shown t' lines ns')
        → shown_by t c ms (λ rest. shown t lines rest) ≡ shown_by t' c ms' (λ rest. shown t' lines rest)
    go none ms ms' e rest = ap (λ w. refused_line 16 ++ w) (rest ms ms' e)
    go (some c) [] [] e rest = refl
    go (some c) [] (m' ∷ ms') e rest = absurd (nil≢cons e)
    go (some c) (m ∷ ms) [] e rest = absurd (nil≢cons (sym e))
    go (some c) (m ∷ ms) (m' ∷ ms') e rest =
        let first : heard t m ≡ heard t' m' = cc in
        let others : map (heard t) ms ≡ map (heard t') ms' = cc in
        ap₂ ◌++◌
        (reply_said t m.call m.reply ∙ ap exchange_said first ∙ sym (reply_said t' m'.call m'.reply))
        (rest ms ms' others)

-- ---- a run that is shown can be seen
call_heard : (t : Table) (c : Call) (r : ReplyTo c) → call_in (exchanged t c r) ≡ c
call_heard t (ask u n) r = refl
call_heard t (finish u) r = refl
call_heard t (withdraw u) r = refl

calls_heard : (t : Table) (ms : List Made) → map call_in (map (heard t) ms) ≡ calls_of ms
calls_heard t [] = refl
calls_heard t (m ∷ ms) = ap₂ ◌∷◌ (call_heard t m.call m.reply) (calls_heard t ms)

seen : (text : List ℕ) (e : Expr) → Accepted text e → (lines : List (List ℕ)) (replies : List ℕ) (r : RunShown (table_of e) lines replies)
    → TextSeen text (map (heard (table_of e)) r.made) (map (entry_heard (table_of e)) (in_use r.session r.list))
seen text e fits lines replies r =
    let promised = compiled_compiles text in
    record {
      compiled = compiled text;
      compiles = promised;
      seen =
          subst
          (λ t. Seen t (map (heard (table_of e)) r.made) (map (entry_heard (table_of e)) (in_use r.session r.list)))
          (sym (promised.its_table e fits).by_the_rules)
          (record { made = r.made; session = r.session; list = r.list; run = r.run; replies = refl; entries = refl });
    }

-- equal bytes in front are taken away
abbrev behind_byte : List ℕ → List ℕ
behind_byte [] = []
behind_byte (b ∷ s) = s

append_cancel : (s : List ℕ) {u v : List ℕ} → s ++ u ≡ s ++ v → u ≡ v
append_cancel [] e = e
append_cancel (b ∷ s) e = append_cancel s (ap behind_byte e)

pub same_histories_same_replies : SameHistoriesSameReplies
same_histories_same_replies input input' replies replies' x y short short' fits fits' same lines says says' =
    let (u, is, r) = transcript_is_a_run input (path_line (table_of x) ++ replies) x short fits says in
    let (u', is', r') = transcript_is_a_run input' (path_line (table_of y) ++ replies') y short' fits' says' in
    let alike = same_histories_told_alike (text_of input) (text_of input') x y fits fits' same in
    let calls = calls_heard (table_of x) r.made ∙ r.those_calls ∙ ap calls_in lines ∙ sym r'.those_calls
    ∙ sym (calls_heard (table_of y) r'.made)
    in
    let (equal, entries) = alike.equal_replies _ _ _ _ (seen (text_of input) x fits (later_lines input) u r)
    (seen (text_of input') y fits' (later_lines input') u' r') calls
    in
    append_cancel (path_line (table_of x)) is
    ∙ r.printed
    ∙ shown_alike (table_of x) (table_of y) (later_lines input) r.made r'.made equal
    ∙ ap (λ ls. shown (table_of y) ls r'.made) lines
    ∙ sym r'.printed
    ∙ sym (append_cancel (path_line (table_of y)) is')
