-- The facts about contents, of each run: what the layers below show, put together.
use Rattle.std.specs.Prelude.{ℕ}
use Rattle.proof_linearizable.specs.Beneath.machine_model.specs.declared.steps.Bounds.{Bounds}
use Rattle.proof_linearizable.specs.Beneath.machine_model.specs.declared.steps.Step.{Step}
use Rattle.proof_linearizable.specs.Beneath.machine_model.specs.States.{State}
use Rattle.proof_linearizable.specs.Beneath.machine_model.specs.Times.{IsRun}
use Rattle.proof_linearizable.specs.Beneath.proof_contents.specs.Tries.{content}
use Rattle.proof_linearizable.specs.Beneath.proof_order.specs.Facts.{Facts}
use Rattle.proof_linearizable.specs.Beneath.proof_order.proofs.Openings.Carried.{keeps_generation}
use Rattle.proof_linearizable.specs.Beneath.proof_order.proofs.Openings.Opens.{swap_so}
use Rattle.proof_linearizable.specs.Beneath.proof_order.proofs.Openings.Shown.{handles_show, starts_so}
use Rattle.proof_linearizable.specs.Beneath.proof_order.proofs.Phases.Placed.{refused_unplaced, offers_unplaced}
use Rattle.proof_linearizable.specs.Beneath.proof_order.proofs.Phases.Behind.{run_behind}
use Rattle.proof_linearizable.specs.Beneath.proof_shape.specs.Sites.Nodes.{depth_of_run, path_of_run}
use Rattle.proof_linearizable.specs.Beneath.proof_shape.specs.Sites.At.{TakesSteps, StepsFit}
use Rattle.proof_linearizable.specs.Beneath.proof_shape.specs.Shaped.{trie_of_run}
use Rattle.proof_updates.proofs.Tries.OfRuns.{is_trie, steps_keep, updates_follow, replies_right}

module _ {limits : Bounds} {states : ℕ → State} {last : ℕ} (run : IsRun limits states last) (steps : ℕ → Step) (takes : TakesSteps states steps last) (keys : StepsFit steps last) where
  pub facts : Facts limits states run.records last (content (trie_of_run limits states steps last))
  facts =
      let depth = depth_of_run states steps last in
      let path = path_of_run states steps last in
      let ok = is_trie steps run takes keys in record {
        starts = starts_so run depth path ok;
        still = λ t s o within m notes none generation stood. steps_keep steps run takes keys t s o within m notes none generation;
        updates = updates_follow steps run takes keys;
        swaps = λ t s o within m notes handle offer carries k offerer runs its.
            swap_so run depth path ok t handle offer (record { taken = within; step = s; outcome = o; moves = m; notes = notes; carries = carries }) k offerer runs its
            (offers_unplaced run t s o within m notes handle offer carries);
        replies = replies_right steps run takes keys;
        refused = refused_unplaced run;
        runs_behind = run_behind run;
        keeps_generation = keeps_generation run;
        contents = handles_show run depth path ok;
      }
