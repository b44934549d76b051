-- Lines over texts: what can be seen of one, and what is promised of it. Each promise is a type here; proofs/ has a proof of each, under
-- the same name in small letters.
use Rattle.std.specs.Prelude.{◌≡◌, ◌↔◌, ℕ}
use mathlib.Core.List.{List, map, Memᴰ}
use Rattle.meaning.specs.Names.{Name, key}
use Rattle.meaning.specs.Words.{Expr, Begins, names}
use Rattle.meaning.specs.Rewriting.{Rewritten}
use Rattle.meaning.specs.Waiting.{Entry as Named}
use Rattle.meaning.specs.Calls.{Exchange, call_in}
use Rattle.meaning.specs.Heard.{granted_names, account}
use Rattle.meaning.specs.Demand.{Demand3}
use Rattle.grammar.specs.Refusals.{Accepted}
use Rattle.compiler.specs.declared.replies.Compiled.{Compiled}
use Rattle.compiler.specs.Compiling.{Compiles}
use Rattle.compiler.specs.Samples.{bytes}
use Rattle.simulation.specs.Hearing.{Seen}

-- what can be seen of a line over a text: what can be seen of one over the table that the text compiles to
pub record TextSeen (text : List ℕ) (xs : List Exchange) (es : List Named) : Type 0 where
  pub compiled : Compiled
  pub compiles : Compiles text compiled
  pub seen : Seen compiled.table xs es

-- demand 3 for every accepted text, whose expression is e: permitted is what begins some repetition of e, and the operations are its names
abbrev pub TextsKeepDemand3 : Type 0
TextsKeepDemand3 =
    (text : List ℕ) (e : Expr) → Accepted text e → Demand3 (TextSeen text) (Begins e) (λ (k : Name). Memᴰ k (map key (names e)))

-- and every history that begins some repetition of e can be granted
abbrev pub TextsGrantWhatBegins : Type 0
TextsGrantWhatBegins =
    (text : List ℕ) (e : Expr) → Accepted text e → (h : List Name) → Begins e h
    → (xs : List Exchange) × (es : List Named) × TextSeen text xs es × (granted_names (account xs) ≡ h)

-- no terminal can tell lines over the two texts apart, each from its own opening
pub record ToldAlike (text text' : List ℕ) : Type 0 where
  -- equal calls get equal replies, and leave equal entries in use, operations read by name
  pub equal_replies : (xs xs' : List Exchange) (es es' : List Named) → TextSeen text xs es → TextSeen text' xs' es'
      → map call_in xs ≡ map call_in xs' → (xs ≡ xs') × (es ≡ es')
  -- and whatever can be seen of one can be seen of the other
  pub same_seen : (xs : List Exchange) (es : List Named) → TextSeen text xs es ↔ TextSeen text' xs es

-- two texts that permit the same histories cannot be told apart by any terminal
abbrev pub SameHistoriesToldAlike : Type 0
SameHistoriesToldAlike =
    (text text' : List ℕ) (x y : Expr) → Accepted text x → Accepted text' y → ((h : List Name) → Begins x h ↔ Begins y h)
    → ToldAlike text text'

-- and no others: texts that cannot be told apart permit the same histories
abbrev pub ToldAlikeSameHistories : Type 0
ToldAlikeSameHistories =
    (text text' : List ℕ) (x y : Expr) → Accepted text x → Accepted text' y → ToldAlike text text'
    → (h : List Name) → Begins x h ↔ Begins y h

-- so a text and its rewriting cannot be told apart: any number of the report's four rewritings, in either direction, for any parts and at
-- any place inside a path, sequences and choices regrouped freely
abbrev pub RewrittenToldAlike : Type 0
RewrittenToldAlike =
    (text text' : List ℕ) (x y : Expr) → Accepted text x → Accepted text' y → Rewritten x y → ToldAlike text text'

-- document 001, section 5: "An example of two equivalent paths is"
abbrev pub longer_path : List ℕ
longer_path = bytes "path a(p + q) + b(q + r) + c(p + r) + (a + b)r + (b + c)p + (a + c)q end"

abbrev pub shorter_path : List ℕ
shorter_path = bytes "path (a + b + c)(p + q + r) end"

abbrev pub ReportPairToldAlike : Type 0
ReportPairToldAlike = ToldAlike longer_path shorter_path
