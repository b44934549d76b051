-- What can be seen of the built line is what can be seen of the ideal line: whatever calls were made, the simulation says what was seen,
-- and any calls can be made. So the built line keeps demand 3, because the ideal line does.
use mathlib.Core.Path.{refl, sym, ◌∙◌}
use mathlib.Core.Logic.Iff
use native.Mathlib.Omega.{arith}
use lib.ListN.{replicate, length-replicate}
use Rattle.meaning.specs.Following.{permits}
use Rattle.meaning.specs.LinePromises.{IdealSeen}
use Rattle.meaning.proofs.LineKeeps.{line_keeps_its_promises}
use Rattle.meaning.proofs.DemandCarries.{demand_3_carries}
use Rattle.table.specs.Following.{table_permits}
use Rattle.standing.specs.Lists.{blank_entry}
use Rattle.steps.specs.Steps as built
use Rattle.simulation.specs.Runs.{calls_of}
use Rattle.simulation.specs.Hearing.{Seen}
use Rattle.simulation.specs.Likeness.{known_in}
use Rattle.simulation.specs.Promises.{BuiltAsIdeal, TablesKeepDemand3}
use Rattle.simulation.proofs.RunsAlike.{run_simulates}
use Rattle.simulation.proofs.RunsMade.{calls_can_be_made}

pub built_as_ideal : BuiltAsIdeal
built_as_ideal t sound xs es = (
  λ seen.
      let same = run_simulates t seen.made seen.session seen.list seen.run in
      record {
        calls = calls_of seen.made;
        replies = sym same.same_replies ∙ seen.replies;
        entries = sym same.alike.same_entries ∙ seen.entries;
      },
  λ seen.
      let can = calls_can_be_made t sound (built.opening t) (replicate 64 blank_entry) (omega (arith, length-replicate 64 blank_entry)) seen.calls in
      let same = run_simulates t can.made can.session can.list can.run in
      record {
        made = can.made;
        session = can.session;
        list = can.list;
        run = can.run;
        replies = same.same_replies ∙ rw can.those_calls seen.replies;
        entries = same.alike.same_entries ∙ rw can.those_calls seen.entries;
      },
)

pub tables_keep_demand_3 : TablesKeepDemand3
unfolding table_permits permits
tables_keep_demand_3 t sound =
    demand_3_carries (IdealSeen (table_permits t) (known_in t)) (Seen t) _ _ _ _ (λ xs es. Iff.symm (built_as_ideal t sound xs es))
    (λ h. Iff.rfl) (λ k. Iff.rfl)
    ((line_keeps_its_promises (table_permits t) (known_in t)).demanded refl)
