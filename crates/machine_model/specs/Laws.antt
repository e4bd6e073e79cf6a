-- Laws of the machine, for every list of steps.
use Rattle.std.specs.Prelude.{◌≡◌, ℕ, ◌+◌, ◌⊎◌, List, [], ◌∷◌, ◌++◌, length, Contains, true, Option, Some, None, Ok}
use Rattle.machine_model.specs.Beneath.ctrie_base.specs.declared.kinds.Kind.TheVariants as kind
use Rattle.history.specs.declared.calls.Access.TheVariants.{ReadOnly}
use Rattle.history.specs.declared.calls.Call.{Call}
use Rattle.history.specs.declared.replies.Reply.TheVariants as reply
use Rattle.machine_model.specs.declared.operations.Operation.{Operation}
use Rattle.machine_model.specs.declared.steps.Bounds.{Bounds}
use Rattle.machine_model.specs.declared.steps.Step.{Step}
use Rattle.machine_model.specs.declared.steps.Step.TheVariants.{Begin, Go, GiveUp}
use Rattle.machine_model.specs.declared.steps.Outcome.{Outcome}
use Rattle.machine_model.specs.declared.steps.Outcome.TheVariants.{Ended}
use Rattle.machine_model.specs.Beneath.slot_arena.specs.Heaps.{in_use}
use Rattle.machine_model.specs.States.{State, operation_of}
use Rattle.machine_model.specs.Operations.{action_of, kind_of}
use Rattle.machine_model.specs.Calls.{opens_handle}
use Rattle.machine_model.specs.Machine.{AreBounds, next, run, taken_steps, is_free, number_for, least_free}

-- the slots in use and the free ones are all slots
abbrev pub SlotsAddUp : Type 0
SlotsAddUp =
    (limits : Bounds) (steps : List Step) → AreBounds limits →
    length (in_use (run limits steps).heap) + length (run limits steps).heap.free ≡ limits.slots

-- the next step of the actor's operation of this id is to make a node, and no slot is free
abbrev pub FindsNoSlot : State → ℕ → ℕ → Type 0
FindsNoSlot state actor id =
    (operation : Operation) × (operation_of state actor ≡ Some operation) × (operation.id ≡ id)
    × (kind_of (action_of state operation) ≡ kind.Make) × (state.heap.free ≡ [])

-- the actor runs the operation of this id
abbrev pub RunsThis : State → ℕ → ℕ → Type 0
RunsThis state actor id = (operation : Operation) × (operation_of state actor ≡ Some operation) × (operation.id ≡ id)

-- the actor's step before was to make a node for this operation, and no slot was free before it
abbrev pub FoundNone : Bounds → List Step → ℕ → ℕ → Type 0
FoundNone limits steps actor id =
    (before between : List Step) × (steps ≡ before ++ Go actor ∷ between) × ¬ Contains between (Go actor) × FindsNoSlot (run limits before) actor id

-- this operation of the actor gave up, and has taken no step since
abbrev pub GaveUp : Bounds → List Step → ℕ → ℕ → Type 0
GaveUp limits steps actor id =
    (before between : List Step) × (steps ≡ before ++ GiveUp actor ∷ between) × ¬ Contains between (Go actor) × RunsThis (run limits before) actor id

-- an operation is refused for want of slots only where its step before was to make a node, and no slot was free before it, or where it gave up
abbrev pub RefusedForWantAlone : Type 0
RefusedForWantAlone =
    (limits : Bounds) (steps : List Step) (actor id : ℕ) (after : State) → next (run limits steps) (Go actor) ≡ Ok (Ended id reply.NoSlots, after) →
    FoundNone limits steps actor id ⊎ GaveUp limits steps actor id

-- to give up is to find no free slot: where none is free for the node that an operation is to make, both come to the same
abbrev pub GivingUpIsFindingNone : Type 0
GivingUpIsFindingNone = (state : State) (actor id : ℕ) → FindsNoSlot state actor id → next state (GiveUp actor) ≡ next state (Go actor)

-- a begin of a call that opens a handle reserves a number that is below the limit, and neither open nor reserved
abbrev pub BeginsReserveFree : Type 0
BeginsReserveFree =
    (state after : State) (actor : ℕ) (call : Call) (number : Option ℕ) (o : Outcome) → next state (Begin actor call number) ≡ Ok (o, after) → opens_handle call ≡ true →
    is_free state (number_for state number) ≡ true

-- a begin that chooses the least free number is one that chooses none
abbrev pub LeastIsChosen : Type 0
LeastIsChosen = (state : State) (actor : ℕ) (call : Call) → next state (Begin actor call (Some (least_free state))) ≡ next state (Begin actor call None)

-- an operation on a read-only handle makes no node
abbrev pub ReadersMakeNothing : Type 0
ReadersMakeNothing =
    (limits : Bounds) (steps : List Step) (actor : ℕ) (operation : Operation) → operation_of (run limits steps) actor ≡ Some operation →
    operation.access ≡ ReadOnly → ¬ (kind_of (action_of (run limits steps) operation) ≡ kind.Make)

-- the steps that were taken lead to the same state, and all of them are taken
abbrev pub TakenStepsSuffice : Type 0
TakenStepsSuffice =
    (limits : Bounds) (steps : List Step) →
    (run limits (taken_steps limits steps) ≡ run limits steps) × (taken_steps limits (taken_steps limits steps) ≡ taken_steps limits steps)
