-- Facts that hold along every run.
use Rattle.std.proofs.Common.{◌≡◌, List, [], ◌∷◌, ◌++◌, Ok, Err, refl, sym, subst, append_assoc, append-nil, ◌∙◌}
use Rattle.machine_model.specs.declared.steps.Bounds.{Bounds}
use Rattle.machine_model.specs.declared.steps.Outcome.{Outcome}
use Rattle.machine_model.specs.declared.steps.Step.{Step}
use Rattle.machine_model.specs.States.{State, first_state}
use Rattle.machine_model.specs.Machine.{Answer, next, next_state, state_after, run_from, run}
use Rattle.machine_model.proofs.Moves.{moves}
use Rattle.machine_model.specs.Moves.{Moves, MovesIfTaken}
use Rattle.machine_model.proofs.Frames.{limits_kept}

-- a run of two lists of steps is the run of the second one from where the first one leads
pub run-append : (state : State) (xs ys : List Step) → run_from state (xs ++ ys) ≡ run_from (run_from state xs) ys
unfolding run_from
run-append state [] ys = refl
run-append state (x ∷ xs) ys = run-append (next_state state x) xs ys

-- the last step of a run
pub run_push : (state : State) (xs : List Step) (s : Step) → run_from state (xs ++ s ∷ []) ≡ next_state (run_from state xs) s
unfolding run_from
run_push state xs s = run-append state xs (s ∷ [])

-- what holds of a list, and of each longer one, holds of it with the rest behind it
past : {X : Type 0} (P : List X → Type 0) → ((xs : List X) (x : X) → P xs → P (xs ++ x ∷ [])) → (done : List X) → P done → (rest : List X) → P (done ++ rest)
past P more done h [] = rw append-nil h
past P more done h (x ∷ rest) = rw append_assoc at (past P more (done ++ x ∷ []) (more done x h) rest)

-- induction over a list from its end
pub by_last : {X : Type 0} (P : List X → Type 0) → P [] → ((xs : List X) (x : X) → P xs → P (xs ++ x ∷ [])) → (xs : List X) → P xs
by_last P none more xs = past P more [] none xs

-- what each move keeps holds after an answer
if_taken : (P : State → Type 0) (state : State) (s : Step) → P state → ((o : Outcome) (after : State) → Moves state s o after → P after) →
    (answer : Answer) → MovesIfTaken state s answer → P (state_after state answer)
if_taken P state s h each (Ok done) m = each done.0 done.1 m
if_taken P state s h each (Err refusal) m = h

-- what each move keeps holds after a step, be it taken or denied
pub kept_by_moves : (P : State → Type 0) (state : State) (s : Step) → P state → ((o : Outcome) (after : State) → Moves state s o after → P after) →
    P (next_state state s)
kept_by_moves P state s h each = if_taken P state s h each (next state s) (moves state s)

-- What holds at first, and is kept by each move from a state that a run leads to, holds after every run. The steps of that run are given, so that what
-- was shown of all runs before can be used.
pub along : (limits : Bounds) (P : State → Type 0) → P (first_state limits) →
    ((steps : List Step) (s : Step) (o : Outcome) (after : State) → Moves (run limits steps) s o after → P (run limits steps) → P after) →
    (steps : List Step) → P (run limits steps)
unfolding run_from
along limits P first keeps steps =
    by_last (λ xs. P (run limits xs)) first
    (λ xs s h. subst P (sym (run_push (first_state limits) xs s)) (kept_by_moves P (run limits xs) s h (λ o after m. keeps xs s o after m h))) steps

-- a machine keeps its limits
pub limits_along : (limits : Bounds) (steps : List Step) → (run limits steps).limits ≡ limits
unfolding first_state
limits_along limits = along limits (λ state. state.limits ≡ limits) refl (λ steps s o after m e. limits_kept (run limits steps) s o after m ∙ e)
