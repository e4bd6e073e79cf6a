-- How many free slots a step takes, and who takes none.
use Rattle.std.specs.Prelude.{◌≡◌, ◌≢◌, ℕ, ◌+◌, ◌<◌, ◌≤◌, List, length, Some, Ok}
use Rattle.machine_model.specs.Beneath.ctrie_base.specs.declared.kinds.Kind.TheVariants as kind
use Rattle.history.specs.declared.calls.Access.TheVariants.{ReadOnly}
use Rattle.history.specs.declared.replies.Reply.{Reply}
use Rattle.history.specs.declared.replies.Reply.TheVariants.{NoSlots}
use Rattle.machine_model.specs.declared.operations.Operation.{Operation}
use Rattle.machine_model.specs.declared.steps.Bounds.{Bounds}
use Rattle.machine_model.specs.declared.steps.Outcome.TheVariants.{Ended}
use Rattle.machine_model.specs.declared.steps.Step.{Step}
use Rattle.machine_model.specs.declared.steps.Step.TheVariants.{Go}
use Rattle.machine_model.specs.States.{State, operation_of}
use Rattle.machine_model.specs.Operations.{action_of, kind_of}
use Rattle.machine_model.specs.Machine.{next, next_state, run}
use Rattle.machine_model.specs.Laws.{GaveUp}

-- the step is an operation's, and is to make a node
abbrev pub IsMake : State → Step → Type 0
IsMake state (Go actor) = (operation : Operation) × (operation_of state actor ≡ Some operation) × (kind_of (action_of state operation) ≡ kind.Make)
IsMake state step = ⊥

-- a step takes one free slot at most, and takes one only where it makes a node
abbrev pub OneSlotAStep : Type 0
OneSlotAStep =
    (state : State) (s : Step) →
    (length state.heap.free ≤ length (next_state state s).heap.free + 1)
    × (length (next_state state s).heap.free < length state.heap.free → IsMake state s)

-- an operation on a read-only handle is never refused for want of slots, unless it gave up
abbrev pub ReadersNeverRefused : Type 0
ReadersNeverRefused =
    (limits : Bounds) (steps : List Step) (actor id : ℕ) (operation : Operation) (answer : Reply) (after : State) →
    operation_of (run limits steps) actor ≡ Some operation → operation.access ≡ ReadOnly → next (run limits steps) (Go actor) ≡ Ok (Ended id answer, after) →
    ¬ GaveUp limits steps actor id → answer ≢ NoSlots
