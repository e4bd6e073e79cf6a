-- What a step that is taken does: one constructor for each kind of step.
use Rattle.std.specs.Prelude.{◌≡◌, ℕ, false, Option, Some, None, Ok, Err}
use Rattle.history.specs.declared.calls.Call.{Call}
use Rattle.history.specs.declared.replies.Reply.{Reply}
use Rattle.machine_model.specs.declared.operations.Operation.{Operation}
use Rattle.machine_model.specs.declared.actions.Action.{Action}
use Rattle.machine_model.specs.declared.actions.Action.TheVariants as act
use Rattle.machine_model.specs.declared.steps.Step.{Step}
use Rattle.machine_model.specs.declared.steps.Step.TheVariants as step
use Rattle.machine_model.specs.declared.steps.Outcome.{Outcome}
use Rattle.machine_model.specs.declared.steps.Outcome.TheVariants as outcome
use Rattle.machine_model.specs.Beneath.ctrie_base.specs.declared.kinds.Kind.TheVariants as kind
use Rattle.machine_model.specs.States.{State, operation_of, with_operation}
use Rattle.machine_model.specs.Operations.{action_of, kind_of}
use Rattle.machine_model.specs.Acting.{gone, ended}
use Rattle.machine_model.specs.Counting.{settled}
use Rattle.machine_model.specs.Machine.{Answer, begin_denial, with_begin, go_denial, is_spent, swept}
use Rattle.machine_model.specs.GivingUp.{given_up, gave_up}
pub use Rattle.machine_model.specs.Machine.{begun_operation}

-- the action isn't the end of an operation
abbrev pub GoesOn : Action → Type 0
GoesOn (act.End answer) = ⊥
GoesOn action = Unit {0}

pub data Moves (state : State) : Step → Outcome → State → Type 0 where
  Begins : {actor : ℕ} {call : Call} {number : Option ℕ} → begin_denial state actor call number ≡ None →
      Moves state (step.Begin actor call number) (outcome.Began (begun_operation state call number).id) (settled state (with_begin state actor call (begun_operation state call number)))
  Goes : {actor : ℕ} {operation : Operation} {action : Action} → go_denial state actor ≡ None → operation_of state actor ≡ Some operation →
      action_of state operation ≡ action → GoesOn action →
      Moves state (step.Go actor) (outcome.Went (kind_of action)) (settled state (gone state actor operation))
  Ends : {actor : ℕ} {operation : Operation} {answer : Reply} → go_denial state actor ≡ None → operation_of state actor ≡ Some operation →
      action_of state operation ≡ act.End answer →
      Moves state (step.Go actor) (outcome.Ended operation.id answer) (settled state (ended state actor))
  Sweeps : is_spent state ≡ false → Moves state step.Sweep (swept state).0 (settled state (swept state).1)
  GivesUp : {actor : ℕ} {operation : Operation} {answer : Reply} → go_denial state actor ≡ None → operation_of state actor ≡ Some operation →
      given_up operation.call operation.line ≡ Some answer →
      Moves state (step.GiveUp actor) (outcome.Went kind.Make) (settled state (with_operation state actor (Some (gave_up operation answer))))

-- the step is a move where it is taken
abbrev pub MovesIfTaken : State → Step → Answer → Type 0
MovesIfTaken state s (Ok done) = Moves state s done.0 done.1
MovesIfTaken state s (Err refusal) = Unit {0}

-- a step that isn't denied
abbrev pub IsTaken : Answer → Type 0
IsTaken (Ok done) = Unit {0}
IsTaken (Err why) = ⊥
