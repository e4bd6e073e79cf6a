-- The steps of a list that are taken lead from each state of its run to the next one.
use Rattle.std.proofs.Common.{◌≡◌, ℕ, zero, suc, cond, ◌<◌, List, ◌∷◌, length, slice_index_or, Ok, Err, refl, ap, subst, sym, arith, []}
use Rattle.proof_shape.specs.Vocabulary.{Bounds, Outcome, Step, State, first_state, Answer, next, next_state, state_after, is_taken_step, taken_from, Moves, MovesIfTaken, states_from, states_of}
use Rattle.proof_shape.specs.Vocabulary.{last_of}
use Rattle.proof_shape.specs.Beneath.machine_model.specs.declared.steps.Step.TheVariants as step
use Rattle.proof_shape.specs.Beneath.machine_model.proofs.Moves.{moves}
use Rattle.proof_shape.specs.Sites.Nodes.{steps_of}
use Rattle.proof_shape.specs.Sites.At.{TakesSteps}
use Rattle.proof_shape.specs.Beneath.machine_model.proofs.Times.{states_from-zero}

abbrev MovesAt : State → Step → State → Type 0
MovesAt state s after = (o : Outcome) × Moves state s o after

abbrev LeadsOn : State → List Step → Type 0
LeadsOn state steps = (t : ℕ) → t < length steps → MovesAt (states_from state steps t) (slice_index_or steps t step.Sweep) (states_from state steps (suc t))

in_front : (state : State) (s : Step) (steps : List Step) → MovesAt state s (next_state state s) → LeadsOn (next_state state s) steps → LeadsOn state (s ∷ steps)
unfolding states_from
in_front state s steps m rest zero h = subst (MovesAt state s) (sym (states_from-zero (next_state state s) steps)) m
in_front state s steps m rest (suc t) h = rest t (omega arith)

leads_to : (state : State) (s : Step) (after : State) (steps : List Step) → after ≡ next_state state s → MovesAt state s after → LeadsOn after steps → LeadsOn state (s ∷ steps)
leads_to state s after steps e m rest = in_front state s steps (subst (MovesAt state s) e m) (subst (λ q. LeadsOn q steps) e rest)

leads_by : (state : State) (s : Step) (steps : List Step) (answer : Answer) → answer ≡ next state s → MovesIfTaken state s answer →
    LeadsOn (state_after state answer) (taken_from (state_after state answer) steps) →
    LeadsOn state (cond (is_taken_step answer) (s ∷ taken_from (state_after state answer) steps) (taken_from (state_after state answer) steps))
leads_by state s steps (Ok done) e m rest = leads_to state s done.1 _ (ap (state_after state) e) (done.0, m) rest
leads_by state s steps (Err refusal) e m rest = rest

leads_along : (state : State) (steps : List Step) → LeadsOn state (taken_from state steps)
unfolding taken_from
leads_along state [] = λ t h. absurd (omega arith)
leads_along state (s ∷ steps) = leads_by state s steps (next state s) refl (moves state s) (leads_along (next_state state s) steps)

pub takes_steps : (limits : Bounds) (steps : List Step) → TakesSteps (states_of limits steps) (steps_of limits steps) (last_of limits steps)
takes_steps limits steps = leads_along (first_state limits) steps
