-- What a step tells, by the move that it is.
use Rattle.std.proofs.Common.{◌≡◌, ℕ, Some, refl, ap, ◌∙◌}
use Rattle.history.specs.declared.replies.Reply.{Reply}
use Rattle.machine_model.specs.declared.actions.Action.{Action}
use Rattle.machine_model.specs.declared.actions.Action.TheVariants as act
use Rattle.machine_model.specs.declared.operations.Operation.{Operation}
use Rattle.machine_model.specs.declared.records.Told.TheVariants as told
use Rattle.machine_model.specs.declared.steps.Step.TheVariants as step
use Rattle.machine_model.specs.States.{State, operation_of}
use Rattle.machine_model.specs.Operations.{action_of}
use Rattle.machine_model.specs.Moves.{GoesOn}
use Rattle.machine_model.specs.Records.{Record, noted, noted_progress, noted_end}
use Rattle.machine_model.specs.Tellings.{told_in, told_by, told_of, progress_of, entrant_of}

by_action : (state : State) (actor : ℕ) (operation : Operation) (action : Action) → GoesOn action → told_by state actor operation action ≡ told.Went actor (progress_of state operation)
by_action state actor operation (act.End answer) g = absurd g
by_action state actor operation action g = refl

-- an operation that goes on tells its progress
pub told_going : (state : State) (actor : ℕ) (operation : Operation) (action : Action) → operation_of state actor ≡ Some operation → action_of state operation ≡ action →
    GoesOn action → told_in state (step.Go actor) ≡ told.Went actor (progress_of state operation)
told_going state actor operation action is a g =
    ap (told_of state actor) is ∙ (ap (told_by state actor operation) a ∙ by_action state actor operation action g)

-- one that ends tells its reply
pub told_ending : (state : State) (actor : ℕ) (operation : Operation) (answer : Reply) → operation_of state actor ≡ Some operation →
    action_of state operation ≡ act.End answer → told_in state (step.Go actor) ≡ told.Ended actor (entrant_of operation) answer
told_ending state actor operation answer is a = ap (told_of state actor) is ∙ ap (told_by state actor operation) a

-- and so it is noted
pub noted_going : (state : State) (past : Record) (actor : ℕ) (operation : Operation) (action : Action) → operation_of state actor ≡ Some operation →
    action_of state operation ≡ action → GoesOn action → noted past state.steps (told_in state (step.Go actor)) ≡ noted_progress past state.steps actor (progress_of state operation)
noted_going state past actor operation action is a g = ap (noted past state.steps) (told_going state actor operation action is a g)

pub noted_ending : (state : State) (past : Record) (actor : ℕ) (operation : Operation) (answer : Reply) → operation_of state actor ≡ Some operation →
    action_of state operation ≡ act.End answer → noted past state.steps (told_in state (step.Go actor)) ≡ noted_end past actor (entrant_of operation) answer
noted_ending state past actor operation answer is a = ap (noted past state.steps) (told_ending state actor operation answer is a)
