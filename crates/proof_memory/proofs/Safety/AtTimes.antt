-- What a run's times know of memory, in the words that the layers above use: what a running operation's line and action take their references for, and that what
-- is looked up in the machine's heap is what stands in the heap that only grows.
use Rattle.std.proofs.Common.{◌≡◌, ℕ, suc, ◌<◌, ◌≤◌, true, Some, refl, sym, ap, ◌∙◌, subst, arith}
use Rattle.proof_memory.specs.Vocabulary.{Ref, Slot, node_at, main_at, prev_at, main_of, generation_at, generation_of, Operation, Bounds, State, first_state, operation_of, action_of, turns, IsRun}
use Rattle.proof_memory.specs.Vocabulary.{Turn, grown, main_word, prev_word, node_under as grown_node}
use Rattle.machine_model.proofs.Frames.{limits_kept}
use Rattle.machine_model.proofs.Times.{at_each_time}
use Rattle.proof_memory.specs.Wants.{Wanted, meets, Is, Holds, AllHold, action_wants, line_wants}
use Rattle.proof_memory.specs.Laws.{IsInUse}
use Rattle.proof_memory.proofs.Claims.Uses.{Carries, all_carried, same_node, safe_of, meets_of}
use Rattle.proof_memory.proofs.Safety.Guards.{Safe}
use Rattle.proof_memory.proofs.Safety.States.{IsSafe}
use Rattle.proof_memory.proofs.Safety.Base.{IsRecent}
use Rattle.proof_memory.proofs.Safety.Steps.{of_actor, step_carries, step_claims}
use Rattle.proof_memory.proofs.Safety.AtEachTime.{safe_at}
use Rattle.machine_model.proofs.Grown.{node_standing, grown_in_use, node_grown, prev_grown}

-- ---- in one safe state

module _ (state : State) (I : IsSafe state) where
  -- what is safe is in use
  pub used_carries : (epoch : ℕ) → Carries (Safe state epoch) state.heap (IsInUse state.heap) state.heap
  used_carries epoch r s = (s.used, same_node (node_at state.heap r))

  pub line_finds : (actor : ℕ) (operation : Operation) → operation_of state actor ≡ Some operation →
      AllHold (IsInUse state.heap) state.heap (line_wants state.limits.hash operation.call operation.access operation.line)
  line_finds actor operation e =
      let (k, h) =
      of_actor state (λ k operation. AllHold (Safe state operation.epoch) state.heap (line_wants state.limits.hash operation.call operation.access operation.line)) (I.lines) actor operation e in
      all_carried (Safe state operation.epoch) state.heap (IsInUse state.heap) state.heap (used_carries operation.epoch) _ h

  pub action_finds : (actor : ℕ) (operation : Operation) → operation_of state actor ≡ Some operation →
      AllHold (IsInUse state.heap) state.heap (action_wants (action_of state operation))
  action_finds actor operation e =
      let (k, h) = of_actor state (λ k operation. AllHold (Safe state operation.epoch) state.heap (action_wants (action_of state operation))) (step_claims state I) actor operation e in
      all_carried (Safe state operation.epoch) state.heap (IsInUse state.heap) state.heap (used_carries operation.epoch) (action_wants (action_of state operation)) h

-- by the limits of the run
pub line_finds_in : (state : State) → IsSafe state → (limits : Bounds) → state.limits ≡ limits → (actor : ℕ) (operation : Operation) → operation_of state actor ≡ Some operation →
    AllHold (IsInUse state.heap) state.heap (line_wants limits.hash operation.call operation.access operation.line)
line_finds_in state I limits same actor operation e =
    subst (λ (l : Bounds). AllHold (IsInUse state.heap) state.heap (line_wants l.hash operation.call operation.access operation.line)) same (line_finds state I actor operation e)

-- ---- at a time of a run

-- a machine keeps its limits
pub limits_at : {limits : Bounds} {states : ℕ → State} {last : ℕ} → IsRun limits states last → (t : ℕ) → t ≤ last → (states t).limits ≡ limits
unfolding first_state
limits_at {limits} {states} {last} r = at_each_time r (λ s. s.limits ≡ limits) refl (λ before s o after m e. limits_kept before s o after m ∙ e)

module _ {limits : Bounds} {states : ℕ → State} {last : ℕ} (run : IsRun limits states last) (t : ℕ) (within : t ≤ last) where
  pub line_at : (actor : ℕ) (operation : Operation) → operation_of (states t) actor ≡ Some operation →
      AllHold (IsInUse (states t).heap) (states t).heap (line_wants limits.hash operation.call operation.access operation.line)
  line_at actor operation e = line_finds_in (states t) (safe_at run t within) limits (limits_at run t within) actor operation e

  pub action_at : (actor : ℕ) (operation : Operation) → operation_of (states t) actor ≡ Some operation →
      AllHold (IsInUse (states t).heap) (states t).heap (action_wants (action_of (states t) operation))
  action_at actor operation e = action_finds (states t) (safe_at run t within) actor operation e

-- what a line takes its references for they still are behind a step
module _ {limits : Bounds} {states : ℕ → State} {last : ℕ} (run : IsRun limits states last) (t : ℕ) (within : t < last) where
  pub line_behind : (actor : ℕ) (operation : Operation) → operation_of (states t) actor ≡ Some operation →
      AllHold (IsInUse (states (suc t)).heap) (states (suc t)).heap (line_wants limits.hash operation.call operation.access operation.line)
  line_behind actor operation e =
      subst (λ (l : Bounds). AllHold (IsInUse (states (suc t)).heap) (states (suc t)).heap (line_wants l.hash operation.call operation.access operation.line))
      (limits_at run t (omega (arith, within)))
      (by_turn (states t) (states (suc t)) (safe_at run t (omega (arith, within))) (run.turn t within) e)
    where
      by_turn : (before after : State) → IsSafe before → Turn before after → operation_of before actor ≡ Some operation →
          AllHold (IsInUse after.heap) after.heap (line_wants before.limits.hash operation.call operation.access operation.line)
      by_turn before after I (turns s o m) e =
          let wants = λ (operation : Operation). line_wants before.limits.hash operation.call operation.access operation.line in
          let (k, found) = of_actor before (λ k operation. IsRecent before k operation × AllHold (Safe before operation.epoch) before.heap (wants operation))
          (λ k operation e. (I.recent k operation e, I.lines k operation e)) actor operation e in
          all_carried (Safe before operation.epoch) before.heap (IsInUse after.heap) after.heap
          (λ r s. let x = step_carries before I _ o after m operation.epoch found.0.0 found.0.1 r s in (x.0.used, x.1)) (wants operation) found.1

-- what is claimed of a reference is so in the heap that only grows
pub kind_at : (states : ℕ → State) (t : ℕ) (r : Ref) (wanted : Wanted) → Holds (IsInUse (states t).heap) (states t).heap (Is r wanted) →
    (slot : Slot) × (grown states t r ≡ Some slot) × (meets wanted slot.node ≡ true)
kind_at states t r wanted h =
    let (slot, found) = safe_of h in
    (slot, grown_in_use states t r slot found, ap (meets wanted) (sym (node_standing (states t).heap r slot found)) ∙ meets_of h)

-- a look-up of what is in use finds what stands in the heap that only grows
module _ (states : ℕ → State) (t : ℕ) (r : Ref) (used : IsInUse (states t).heap r) where
  pub node_found : node_at (states t).heap r ≡ grown_node states t r
  node_found = node_grown states t r used.0 used.1

  pub prev_found : prev_at (states t).heap r ≡ prev_word states t r
  prev_found = prev_grown states t r used.0 used.1

  pub main_found : main_at (states t).heap r ≡ main_word states t r
  main_found = ap main_of node_found

  pub generation_found : generation_at (states t).heap r ≡ generation_of (grown_node states t r)
  generation_found = ap generation_of node_found
