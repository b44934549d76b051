-- What the machine's verdict on a text comes to fulfils the contract of `compile`, and nothing else does.
use mathlib.Core.Path.{◌≡◌, refl, sym, ap, ap₂, subst, ◌∙◌}
use mathlib.Core.List.{List}
use Prim.Native.Nat.{ℕ}
use native.Mathlib.Omega.{arith}
use lib.ListN.{length}
use Rattle.meaning.specs.Names.{Name}
use Rattle.meaning.specs.Words.{Expr}
use Rattle.meaning.specs.Operations.{distinct}
use Rattle.meaning.proofs.Numbering.{size_names}
use Rattle.grammar.specs.Symbols.{Symbol, Lexeme}
use Rattle.grammar.specs.Refusals.{Accepted, Refused, Row}
use Rattle.grammar.specs.Machine.{Verdict, judge}
use Rattle.grammar.specs.Machine.Verdict.{accepted as judged, refused as declined}
use Rattle.grammar.proofs.Judging.{judged_exactly, one_verdict}
use Rattle.grammar.proofs.Naming.{names_as_written, names_well_formed}
use Rattle.table.specs.Rules.{table_of}
use Rattle.table.specs.Promises.{Limited}
use Rattle.table.specs.declared.cells.Table.{Table}
use Rattle.table.proofs.TableSound.{rules_table_sound}
use Rattle.table.proofs.TablePermits.{rules_table_permits}
use Rattle.compiler.specs.Compiling.{Reply, TableOfText, Compiles}
use Rattle.compiler.specs.Compiling.Answer.{accepted, refused}
use Rattle.compiler.specs.Computed.{answered, compiled, CompiledCompiles}
use Rattle.compiler.specs.Promises.{AnswerInjective, CompileDetermined}
use Rattle.std.specs.Prelude.{Ok, Err}
use Rattle.text.specs.Faults.{number_of, numbered}
use Rattle.text.specs.declared.faults.Fault.{Fault}
use Rattle.text.proofs.FaultNumbers.{one_fault}
use Rattle.compiler.specs.declared.replies.Compiled.{Compiled}

-- no answer is both
not_both : {X : Type 0} (n k : ℕ) → accepted ≡ refused n k → X
not_both n k e = let z : ◌≡◌ {A = ℕ} 0 1 = cc in absurd (omega arith)

pub answer_injective : AnswerInjective
answer_injective (Ok u) (Ok v) e = refl
answer_injective (Ok u) (Err r) e = not_both _ _ e
answer_injective (Err r) (Ok u) e = not_both _ _ (sym e)
answer_injective (Err a) (Err b) e =
    let number : number_of a.fault ≡ number_of b.fault = cc in
    let place : a.place ≡ b.place = cc in
    ap₂ (λ (f : Fault) (k : ℕ). Err (record { fault = f; place = k })) (one_fault a.fault b.fault number) place

-- a number by which a text is refused is a fault's
row_numbered : {so_far : List Symbol} {x : Lexeme} (n : ℕ) → Row so_far x n → number_of (numbered n) ≡ n
row_numbered n (Row.bad_byte _) = refl
row_numbered n (Row.long_name _) = refl
row_numbered n (Row.no_text _ _ _) = refl
row_numbered n (Row.too_deep _ _) = refl
row_numbered n (Row.one_position_too_many _ _ _) = refl
row_numbered n (Row.one_name_too_many _ _ _ _) = refl

refused_numbered : (text : List ℕ) (n k : ℕ) → Refused text n k → number_of (numbered n) ≡ n
refused_numbered text n k (Refused.too_long _) = refl
refused_numbered text n k (Refused.at_a_token _ _ _ _ _ _ _ _ _ row _) = row_numbered n row
refused_numbered text n k (Refused.stops_short _ _ _ _ _) = refl

-- an accepted text's expression is within the limits of a table
pub text_limited : (text : List ℕ) (e : Expr) → Accepted text e → Limited e
text_limited text e a =
    let same = names_as_written a.symbols e a.whole in
    record {
      positions = omega (arith, size_names e, ap length same, a.limits.positions);
      names_few = omega (arith, ap (λ (ns : List Name). length (distinct ns)) same, a.limits.names);
      well_formed = names_well_formed text e a;
    }

-- so all is so of the rules' table of it
table_of_text : (text : List ℕ) (e : Expr) → Accepted text e → TableOfText e (table_of e)
table_of_text text e a =
    let limited = text_limited text e a in
    record { by_the_rules = refl; is_sound = rules_table_sound e limited; permits_exactly = rules_table_permits e limited }

module _ (text : List ℕ) where
  verdict_compiles : (v : Verdict) → judge text ≡ v → Compiles text (answered v)
  verdict_compiles (judged e) is =
      let fits = ((judged_exactly text).accepts e).0 is in
      record {
        accepts = (λ _. (e, fits), λ _. refl);
        refuses = λ n k. (not_both n k, λ h. absurd ((one_verdict text).not_both e n k fits h));
        its_table = λ a h.
            subst (λ (x : Expr). TableOfText a (table_of x)) ((one_verdict text).one_expression a e h fits) (table_of_text text a h);
        no_table = λ n k h. absurd ((one_verdict text).not_both e n k fits h);
      }
  verdict_compiles (declined n k) is =
      let bad = ((judged_exactly text).refuses n k).0 is in
      let valid = refused_numbered text n k bad in
      record {
        accepts = (λ z. not_both _ k (sym z), λ (e, h). absurd ((one_verdict text).not_both e n k h bad));
        refuses = λ m l. (
          λ z. let z' = rw valid at z in ((judged_exactly text).refuses m l).0 (cc),
          λ h. let same = (one_verdict text).one_refusal n k m l bad h in rw valid (ap₂ refused same.0 same.1),
        );
        its_table = λ e h. absurd ((one_verdict text).not_both e n k h bad);
        no_table = λ m l h. refl;
      }

  -- whatever fulfils the contract has this reply and this table
  only_verdict : (v : Verdict) → judge text ≡ v → (r : Compiled) → Compiles text r → r ≡ answered v
  only_verdict (judged e) is r c =
      let a = ((judged_exactly text).accepts e).0 is in
      ap₂ (λ (y : Reply) (t : Table). record { reply = y; table = t }) (answer_injective r.reply (Ok tt) (c.accepts.1 (e, a)))
      (c.its_table e a).by_the_rules
  only_verdict (declined n k) is r c =
      let h = ((judged_exactly text).refuses n k).0 is in
      ap₂ (λ (y : Reply) (t : Table). record { reply = y; table = t })
      (answer_injective r.reply (Err (record { fault = numbered n; place = k })) ((c.refuses n k).1 h ∙ sym (ap (λ (m : ℕ). refused m k) (refused_numbered text n k h))))
      (c.no_table n k h)

pub compiled_compiles : CompiledCompiles
unfolding compiled
compiled_compiles text = verdict_compiles text (judge text) refl

pub compiles_one : (text : List ℕ) (r : Compiled) → Compiles text r → r ≡ compiled text
unfolding compiled
compiles_one text r c = only_verdict text (judge text) refl r c

pub compile_determined : CompileDetermined
compile_determined text r r' c c' = compiles_one text r c ∙ sym (compiles_one text r' c')

-- as the program has it
pub compiles : (text : List ℕ) (r : Compiled) → r ≡ compiled text → Compiles text r
compiles text r is = subst (Compiles text) (sym is) (compiled_compiles text)
