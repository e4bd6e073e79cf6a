-- Memory is safe at each time of a run. The layers above cite `safe_at`, with the parts of IsSafe and its `heaped`, `open_word` and `step_claims`.
use Rattle.std.proofs.Common.{ℕ, ◌≤◌, List}
use Rattle.proof_memory.specs.Vocabulary.{Bounds, Step, State, AreBounds, run, next_state, IsRun}
use Rattle.machine_model.proofs.Along.{along, kept_by_moves}
use Rattle.machine_model.proofs.Times.{at_each_time}
use Rattle.proof_memory.proofs.Safety.States.{IsSafe}
use Rattle.proof_memory.proofs.Safety.Steps.{safe_after}
use Rattle.proof_memory.proofs.Safety.First.{safe_at_first}

pub safe_at : {limits : Bounds} {states : ℕ → State} {last : ℕ} → IsRun limits states last → (t : ℕ) → t ≤ last → IsSafe (states t)
safe_at {limits} {states} {last} r = at_each_time r IsSafe (safe_at_first limits (r.limits_ok)) (λ before s o after m I. safe_after before I s o after m)

-- after each list of steps
pub safe_along : (limits : Bounds) → AreBounds limits → (steps : List Step) → IsSafe (run limits steps)
safe_along limits ok = along limits IsSafe (safe_at_first limits ok) (λ steps s o after m I. safe_after (run limits steps) I s o after m)

-- after a step, be it taken or denied
pub safe_next : (state : State) → IsSafe state → (s : Step) → IsSafe (next_state state s)
safe_next state I s = kept_by_moves IsSafe state s I (λ o after m. safe_after state I s o after m)
