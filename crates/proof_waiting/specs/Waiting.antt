-- What an operation keeps while others take steps and nothing is freed.
use Rattle.std.specs.Prelude.{◌≡◌, ℕ, ◌≢◌, Bool, List, ◌++◌, All, Some}
use Rattle.machine_model.specs.declared.operations.Operation.{Operation}
use Rattle.machine_model.specs.declared.steps.Bounds.{Bounds}
use Rattle.machine_model.specs.declared.steps.Step.{Step}
use Rattle.machine_model.specs.declared.steps.Step.TheVariants as step
use Rattle.machine_model.specs.Machine.{AreBounds, run}
use Rattle.machine_model.specs.Operations.{action_of}
use Rattle.machine_model.specs.States.{State, operation_of}

-- a step of another actor, and none of the sweep's
abbrev pub IsOfOther : ℕ → Step → Type 0
IsOfOther actor (step.Begin other call number) = other ≢ actor
IsOfOther actor (step.Go other) = other ≢ actor
IsOfOther actor (step.GiveUp other) = other ≢ actor
IsOfOther actor step.Sweep = ⊥

-- the same operation of the actor, but for its mark, and what it does next
pub record HasStayed (before after : State) (actor : ℕ) (operation : Operation) : Type 0 where
  pub mark : Bool
  pub runs : operation_of after actor ≡ Some (record operation { is_marked = mark })
  pub acts : action_of after (record operation { is_marked = mark }) ≡ action_of before operation

abbrev pub OperationsWait : Type 0
OperationsWait =
    (limits : Bounds) (steps more : List Step) (actor : ℕ) (operation : Operation) → AreBounds limits → All (IsOfOther actor) more → operation_of (run limits steps) actor ≡ Some operation →
    HasStayed (run limits steps) (run limits (steps ++ more)) actor operation
