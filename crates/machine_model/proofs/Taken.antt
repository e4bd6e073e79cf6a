-- Denied steps can be left out of a run.
use Rattle.std.proofs.Common.{◌≡◌, List, [], ◌∷◌, Ok, Err, refl, ap}
use Rattle.machine_model.specs.declared.steps.Step.{Step}
use Rattle.machine_model.specs.States.{State}
use Rattle.machine_model.specs.Machine.{Answer, next, next_state, run_from, taken_from}

-- a step that this answer comes to leads from a state on: what a run of the rest says holds of the run with it
with_step : (state : State) (s : Step) (steps : List Step) (answer : Answer) → next state s ≡ answer →
    run_from (next_state state s) (taken_from (next_state state s) steps) ≡ run_from (next_state state s) steps →
    run_from state (taken_from state (s ∷ steps)) ≡ run_from state (s ∷ steps)
unfolding run_from taken_from
with_step state s steps (Ok done) e h = rw e (rw e (rw e at h))
with_step state s steps (Err refusal) e h = rw e (rw e at h)

-- the steps that were taken lead to the same state
pub run-taken : (state : State) (steps : List Step) → run_from state (taken_from state steps) ≡ run_from state steps
unfolding run_from taken_from
run-taken state [] = refl
run-taken state (s ∷ steps) = with_step state s steps (next state s) refl (run-taken (next_state state s) steps)

-- the same of the steps that are taken of those that were taken
again_with_step : (state : State) (s : Step) (steps : List Step) (answer : Answer) → next state s ≡ answer →
    taken_from (next_state state s) (taken_from (next_state state s) steps) ≡ taken_from (next_state state s) steps →
    taken_from state (taken_from state (s ∷ steps)) ≡ taken_from state (s ∷ steps)
unfolding taken_from
again_with_step state s steps (Ok done) e h = rw e (rw e (ap (λ rest. s ∷ rest) (rw e at h)))
again_with_step state s steps (Err refusal) e h = rw e (rw e at h)

-- all steps that were taken are taken
pub taken-taken : (state : State) (steps : List Step) → taken_from state (taken_from state steps) ≡ taken_from state steps
unfolding taken_from
taken-taken state [] = refl
taken-taken state (s ∷ steps) = again_with_step state s steps (next state s) refl (taken-taken (next_state state s) steps)
