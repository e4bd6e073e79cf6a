-- Laws of what no root reaches any more, for every list of steps.
use Rattle.std.specs.Prelude.{◌≡◌, ℕ, ◌+◌, ◌≤◌, ◌<◌, List, ◌∷◌, ◌++◌, Some}
use Rattle.proof_garbage.specs.Beneath.slot_arena.specs.declared.refs.Ref.{Ref}
use Rattle.proof_garbage.specs.Beneath.machine_model.specs.declared.actions.Action.{Action}
use Rattle.proof_garbage.specs.Beneath.machine_model.specs.declared.actions.Action.TheVariants as act
use Rattle.proof_garbage.specs.Beneath.machine_model.specs.declared.operations.Operation.{Operation}
use Rattle.proof_garbage.specs.Beneath.machine_model.specs.declared.steps.Bounds.{Bounds}
use Rattle.proof_garbage.specs.Beneath.machine_model.specs.declared.steps.Step.{Step}
use Rattle.proof_garbage.specs.Beneath.machine_model.specs.declared.steps.Step.TheVariants.{Go}
use Rattle.proof_garbage.specs.Beneath.machine_model.specs.Contents.{IsReached}
use Rattle.proof_garbage.specs.Beneath.machine_model.specs.Machine.{AreBounds, run, next_state}
use Rattle.proof_garbage.specs.Beneath.machine_model.specs.Operations.{action_of}
use Rattle.proof_garbage.specs.Beneath.machine_model.specs.States.{State, operation_of}
use Rattle.proof_garbage.specs.Beneath.proof_memory.specs.Laws.{IsInUse}
use Rattle.proof_garbage.specs.Live.{IsLive, IsKnown}

-- the actions that may make known to others what was not: only these put references where others find them that stood neither there nor next to it
abbrev pub MayMakeKnown : Action → Type 0
MayMakeKnown (act.Publish indirection replaced fresh) = Unit {0}
MayMakeKnown (act.Offer offer) = Unit {0}
MayMakeKnown action = ⊥

-- reached from a root, or by an operation that has begun since that state
abbrev pub IsKnownSince : State → State → Ref → Type 0
IsKnownSince then now r = IsKnown now (λ id. then.begun ≤ id) r

-- no operation that ran after the steps before swaps in a node or offers so that this is known again to roots or to those who began since
abbrev pub IsNotPutBack : Bounds → List Step → List Step → Ref → Type 0
IsNotPutBack limits before since r =
    (a b : List Step) (actor : ℕ) (operation : Operation) → since ≡ a ++ Go actor ∷ b → operation_of (run limits (before ++ a)) actor ≡ Some operation →
    operation.id < (run limits before).begun → MayMakeKnown (action_of (run limits (before ++ a)) operation) → ¬ IsKnownSince (run limits before) (run limits (before ++ a)) r →
    ¬ IsKnownSince (run limits before) (next_state (run limits (before ++ a)) (Go actor)) r

-- each operation that ran in the one state has ended in the other
abbrev pub HaveEnded : State → State → Type 0
HaveEnded then now = (actor : ℕ) (operation : Operation) → operation_of now actor ≡ Some operation → then.begun ≤ operation.id

-- What is in use and reached by no root stays unknown to roots and to all who begin later, unless one who ran then puts it back; so it is dead once these have ended.
abbrev pub DeadAfterGrace : Type 0
DeadAfterGrace =
    (limits : Bounds) (before since : List Step) (r : Ref) → AreBounds limits → IsInUse (run limits before).heap r → ¬ IsReached (run limits before) r → IsNotPutBack limits before since r →
    (¬ IsKnownSince (run limits before) (run limits (before ++ since)) r)
    × (HaveEnded (run limits before) (run limits (before ++ since)) → ¬ IsLive (run limits (before ++ since)) r)

-- where the epoch has grown twice, all who ran before have ended
abbrev pub TwoEpochsAreGrace : Type 0
TwoEpochsAreGrace =
    (limits : Bounds) (before since : List Step) → AreBounds limits → (run limits before).epoch + 2 ≤ (run limits (before ++ since)).epoch →
    HaveEnded (run limits before) (run limits (before ++ since))

-- ---- what isn't so: without the premise that nobody puts it back

abbrev pub DeadAfterGraceAlone : Type 0
DeadAfterGraceAlone =
    (limits : Bounds) (before since : List Step) (r : Ref) → AreBounds limits → IsInUse (run limits before).heap r → ¬ IsReached (run limits before) r →
    HaveEnded (run limits before) (run limits (before ++ since)) → ¬ IsLive (run limits (before ++ since)) r

-- a snapshot offers over a main node that was replaced since it was read; who meets the offer has that node at hand when the snapshot has ended
abbrev pub GraceAloneIsTooLittle : Type 0
GraceAloneIsTooLittle = ¬ DeadAfterGraceAlone
