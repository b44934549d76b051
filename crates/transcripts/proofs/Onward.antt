-- Lines of the input one after the other: what is printed so far, and how the talk goes on behind it.
use mathlib.Core.Path.{refl, sym, subst}
use mathlib.Core.List.{List, [], ◌∷◌, ◌++◌, append-nil, append_assoc}
use Prim.Native.Nat.{ℕ}
use Rattle.standing.specs.declared.entries.Entry.{Entry}
use Rattle.standing.specs.declared.records.Session.{Session}
use Rattle.wording.specs.Writing.{Writes}
use Rattle.wording.specs.declared.writing.Output.{Output}
use Rattle.wording.proofs.Putting.{writes_more, writes_as}
use Rattle.lines.specs.declared.held.Line.{Line}
use Rattle.transcripts.specs.Transcript.{Talk}
use Rattle.transcripts.specs.Talking.{Turned, Talked}

-- some lines were talked of, and `rest` is left
pub record Told (s₀ : Session) (l₀ : List Entry) (lines : List (List ℕ)) (before : Output) (s : Session) (l : List Entry)
    (rest : List (List ℕ)) (after : Output) : Type 0 where
  pub said : List ℕ
  pub writes : Writes before said after
  pub onward : (more : List ℕ) → Talk s l rest more → Talk s₀ l₀ lines (said ++ more)

-- nothing is said; the place may have been brought within the output
pub none_told : (s : Session) (l : List Entry) (lines : List (List ℕ)) (o p : Output) → Writes o [] p → Told s l lines o s l lines p
none_told s l lines o p nothing = record { said = []; writes = nothing; onward = λ more talk. talk }

module _ {s₀ : Session} {l₀ : List Entry} {lines : List (List ℕ)} {before after : Output} {s : Session} {l : List Entry} where
  -- nothing is left
  pub all_told : Told s₀ l₀ lines before s l [] after → Talked s₀ l₀ lines before after
  unfolding Talk
  all_told t = record { said = t.said ++ []; talk = t.onward [] refl; writes = writes_as (sym (append-nil t.said)) t.writes }

  -- one line more
  pub one_more_told : (line : List ℕ) (rest : List (List ℕ)) → Told s₀ l₀ lines before s l (line ∷ rest) after
      → {n : Line} {next : Output} → Turned s l line after n next → Told s₀ l₀ lines before n.session n.list rest next
  unfolding Talk
  one_more_told line rest t {n = n} turned =
      record {
        said = t.said ++ turned.said;
        writes = writes_more t.writes turned.writes;
        onward = λ more talk. subst (λ w. Talk s₀ l₀ lines w) (sym (append_assoc t.said turned.said more))
            (t.onward (turned.said ++ more)
            (n.session, n.list, turned.said, more, turned.says, talk, refl));
      }
