-- Which node a step makes, under which reference, and of which level it is.
use Rattle.std.specs.Prelude.{ℕ, Option, Some, None}
use Rattle.proof_memory.specs.Vocabulary.{Ref, Node, next_ref, Operation, Step, State, operation_of, action_of, Indirection, Action}
use Rattle.machine_model.specs.declared.steps.Step.TheVariants as step
use Rattle.proof_memory.specs.Levels.{made_level}
use Rattle.machine_model.specs.declared.actions.Action.TheVariants as act

-- the node that an action makes, if it makes one
abbrev pub made_node : State → Action → Option Node
made_node state (act.Make node) = Some node
made_node state (act.MakeRoot main) = Some (Indirection state.generations main)
made_node state action = None

-- the reference under which it is made
abbrev pub if_made : Option Node → Option Ref → Option Ref
if_made None next = None
if_made (Some node) next = next

abbrev pub made_by : State → Option Operation → Option Ref
made_by state None = None
made_by state (Some operation) = if_made (made_node state (action_of state operation)) (next_ref state.heap)

abbrev pub level_by : Option Operation → ℕ
level_by None = 0
level_by (Some operation) = made_level operation.line

abbrev pub made_now : State → Step → Option Ref
made_now state (step.Go actor) = made_by state (operation_of state actor)
made_now state s = None

abbrev pub level_now : State → Step → ℕ
level_now state (step.Go actor) = level_by (operation_of state actor)
level_now state s = 0
