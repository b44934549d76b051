-- Lines over accepted texts: the table of a text permits what begins its expression and knows its names, so a line over it keeps demand 3
-- in these terms. Demand 3 leaves one line, so lines over texts with the same histories cannot be told apart; and each permitted history can
-- be granted, so lines that cannot be told apart have the same.
use mathlib.Core.Path.{◌≡◌, refl, ap, subst, ◌∙◌}
use mathlib.Core.Bool.{true}
use mathlib.Core.List.Memᴰ
use mathlib.Core.List.{List, [], ◌∷◌, ◌++◌, map, Memᴰ}
use mathlib.Core.Logic.Iff
use mathlib.Core.Logic.{◌↔◌}
use Prim.Native.Nat.{ℕ}
use Rattle.meaning.specs.Names.{Name, key}
use Rattle.meaning.specs.Words.{Expr, Begins, names}
use Rattle.meaning.specs.Operations.{distinct}
use Rattle.meaning.specs.Waiting.{Entry as Named}
use Rattle.meaning.specs.Calls.{Exchange}
use Rattle.meaning.proofs.OperationLaws.{holds_distinct}
use Rattle.meaning.proofs.NumberLaws.{held_reads}
use Rattle.meaning.proofs.Beginnings.{beginning_begins}
use Rattle.meaning.proofs.Occurring.{no_other_name_occurs, same_begins_same_names}
use Rattle.meaning.proofs.Rewritings.{rewriting_keeps_begins}
use Rattle.meaning.proofs.DemandCarries.{demand_3_carries}
use Rattle.meaning.proofs.DemandDetermined.{demand_3_determined}
use Rattle.meaning.proofs.Granting.{permitted_can_be_granted}
use Rattle.grammar.specs.Refusals.{Accepted}
use Rattle.table.specs.Cells.{names_of}
use Rattle.table.specs.declared.cells.Table.{Table}
use Rattle.table.proofs.TableCells.{names_of_table}
use Rattle.compiler.specs.declared.replies.Compiled.{Compiled}
use Rattle.compiler.specs.Compiling.{TableOfText}
use Rattle.compiler.specs.Computed.{compiled}
use Rattle.compiler.proofs.CompiledTexts.{text_limited, compiled_compiles, compiles_one}
use Rattle.simulation.specs.Hearing.{Seen}
use Rattle.simulation.specs.Likeness.{known_in}
use Rattle.simulation.specs.Texts.{TextSeen, TextsKeepDemand3, TextsGrantWhatBegins, SameHistoriesToldAlike}
use Rattle.simulation.specs.Texts.{ToldAlikeSameHistories, RewrittenToldAlike}
use Rattle.simulation.proofs.TablesDemand.{tables_keep_demand_3}

-- a line over an accepted text, by the table that the contract of `compile` gives
module _ (text : List ℕ) (e : Expr) (is-accepted : Accepted text e) where
  abbrev t : Table
  t = (compiled text).table

  abbrev of_text : TableOfText e t
  of_text = (compiled_compiles text).its_table e is-accepted

  names_are : names_of t ≡ distinct (names e)
  names_are = ap names_of of_text.by_the_rules ∙ names_of_table e (text_limited text e is-accepted)

  -- the operations of its table are the names of the text
  knows_its_names : (k : Name) → (known_in t k ≡ true) ↔ Memᴰ k (map key (names e))
  knows_its_names k = rw (names_are, holds_distinct) (held_reads (names e) k)

  -- there is one such table
  seen_of_table : (xs : List Exchange) (es : List Named) → Seen t xs es ↔ TextSeen text xs es
  seen_of_table xs es = (
    λ seen. record { compiled = compiled text; compiles = compiled_compiles text; seen = seen },
    λ seen. subst (λ (r : Compiled). Seen r.table xs es) (compiles_one text seen.compiled seen.compiles) seen.seen,
  )

pub texts_keep_demand_3 : TextsKeepDemand3
texts_keep_demand_3 text e is-accepted =
    demand_3_carries _ (TextSeen text) _ (Begins e) _ (λ (k : Name). Memᴰ k (map key (names e)))
    (seen_of_table text e is-accepted) (of_text text e is-accepted).permits_exactly (knows_its_names text e is-accepted)
    (tables_keep_demand_3 (t text e is-accepted) (of_text text e is-accepted).is_sound)

-- lines over texts with the same histories keep the same demand, and that leaves one line
pub same_histories_told_alike : SameHistoriesToldAlike
same_histories_told_alike text text' x y a b same =
    let one = texts_keep_demand_3 text x a in
    let other = demand_3_carries _ _ _ (Begins x) _ (λ (k : Name). Memᴰ k (map key (names x))) (λ xs es. Iff.rfl)
    (λ h. Iff.symm (same h)) (λ k. Iff.symm (same_begins_same_names x y same k)) (texts_keep_demand_3 text' y b) in
    let alike = demand_3_determined (TextSeen text) (TextSeen text') _ _ one other in
    record {
      equal_replies = λ xs xs' es es' seen seen' calls. one.answered_alike xs xs' es es' seen ((alike xs' es').1 seen') calls;
      same_seen = alike;
    }

pub rewritten_told_alike : RewrittenToldAlike
rewritten_told_alike text text' x y a b r = same_histories_told_alike text text' x y a b (rewriting_keeps_begins x y r)

-- the beginnings of what begins e begin it, and its names are e's
begins_closed : (e : Expr) (h : List Name) (k : Name) → Begins e (h ++ k ∷ [])
    → Begins e h × Memᴰ k (map key (names e)) × ((n : Name) × (key n ≡ k))
begins_closed e h k b =
    let known = no_other_name_occurs e (h ++ k ∷ []) k b (Memᴰ.append_right h (Memᴰ.head refl)) in
    let (n, here, is) = Memᴰ.of_map key (names e) known in
    (beginning_begins e h (k ∷ []) b, known, (n, is))

pub texts_grant_what_begins : TextsGrantWhatBegins
texts_grant_what_begins text e a h b =
    permitted_can_be_granted (TextSeen text) (Begins e) _ (texts_keep_demand_3 text e a) (begins_closed e) h b

-- what the one line can grant, the other can: and so it is permitted there
histories_within : (text text' : List ℕ) (x y : Expr) → Accepted text x → Accepted text' y
    → ((xs : List Exchange) (es : List Named) → TextSeen text xs es → TextSeen text' xs es) → (h : List Name) → Begins x h → Begins y h
histories_within text text' x y a b seen h begins =
    let (xs, es, granted, is) = texts_grant_what_begins text x a h begins in
    subst (Begins y) is ((texts_keep_demand_3 text' y b).orderly xs es (seen xs es granted)).grants_permitted

pub told_alike_same_histories : ToldAlikeSameHistories
told_alike_same_histories text text' x y a b alike h = (
  histories_within text text' x y a b (λ xs es. (alike.same_seen xs es).0) h,
  histories_within text' text y x b a (λ xs es. (alike.same_seen xs es).1) h,
)
