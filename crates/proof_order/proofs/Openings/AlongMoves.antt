-- What is kept by each move holds at each time of a run, where it holds while nothing runs.
use Rattle.std.proofs.Common.{◌≡◌, ℕ, zero, suc, ◌<◌, ◌≤◌, None, get_or, sym, ap, ◌∙◌}
use Rattle.proof_order.specs.Vocabulary.{Operation, Bounds, Outcome, Step, State, first_state, Moves, turns, noted_turn, IsRun, Turn}
use Rattle.proof_order.specs.Beneath.machine_model.proofs.Found.{none_found}
use Rattle.proof_order.specs.Beneath.machine_model.proofs.Times.{along_run}
use Rattle.proof_generations.specs.Running.{Runs}
use Rattle.proof_order.specs.Facts.{Notes}

none_runs : (limits : Bounds) (state : State) → state ≡ first_state limits → (k : ℕ) (operation : Operation) → Runs state k operation → ⊥
unfolding first_state
none_runs limits state is k operation at_k = none_found limits.actors k operation (ap (λ (q : State). get_or q.actors k None) (sym is) ∙ at_k)

pub along_moves : {limits : Bounds} {states : ℕ → State} {last : ℕ} (run : IsRun limits states last) → (P : ℕ → Type 0) →
    (((k : ℕ) (operation : Operation) → Runs (states zero) k operation → ⊥) → P zero) →
    ((t : ℕ) → t < last → P t → (s : Step) (o : Outcome) → Moves (states t) s o (states (suc t)) → Notes states run.records t s → P (suc t)) → (t : ℕ) → t ≤ last → P t
along_moves {limits} {states} {last} run P first next =
    along_run run P (first (none_runs limits (states zero) run.first)) (λ t within turn so_far. by_turn t within so_far (run.turn t within) (run.recorded t within))
  where
    by_turn : (t : ℕ) → t < last → P t → (turn : Turn (states t) (states (suc t))) → run.records (suc t) ≡ noted_turn turn (run.records t) → P (suc t)
    by_turn t within so_far (turns s o m) e = next t within so_far s o m e
