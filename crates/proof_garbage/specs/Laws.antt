-- Laws of what is live, for every list of steps.
use Rattle.std.specs.Prelude.{◌≡◌, ◌++◌, ℕ, List, Contains, Some}
use Rattle.proof_garbage.specs.Beneath.slot_arena.specs.declared.refs.Ref.{Ref}
use Rattle.proof_garbage.specs.Beneath.slot_arena.specs.declared.nodes.Prev.TheVariants as prev
use Rattle.proof_garbage.specs.Beneath.slot_arena.specs.Heaps.{stored, prev_at, refs_of_slot}
use Rattle.proof_garbage.specs.Beneath.machine_model.specs.declared.lines.Purpose.{Purpose}
use Rattle.proof_garbage.specs.Beneath.machine_model.specs.declared.lines.Line.TheVariants as line
use Rattle.proof_garbage.specs.Beneath.machine_model.specs.declared.operations.Operation.{Operation}
use Rattle.proof_garbage.specs.Beneath.machine_model.specs.declared.steps.Bounds.{Bounds}
use Rattle.proof_garbage.specs.Beneath.machine_model.specs.declared.steps.Step.{Step}
use Rattle.proof_garbage.specs.Beneath.machine_model.specs.Contents.{IsReached}
use Rattle.proof_garbage.specs.Beneath.machine_model.specs.States.{operation_of}
use Rattle.proof_garbage.specs.Beneath.machine_model.specs.Operations.{action_of}
use Rattle.proof_garbage.specs.Beneath.machine_model.specs.Swapping.{swapping}
use Rattle.proof_garbage.specs.Beneath.machine_model.specs.Machine.{AreBounds, run, next_state}
use Rattle.proof_garbage.specs.Beneath.proof_memory.specs.Wants.{action_wants}
use Rattle.proof_garbage.specs.Beneath.proof_memory.specs.Laws.{IsInUse}
use Rattle.proof_garbage.specs.Live.{IsLive, IsKnown, refs_of_claims}

-- what is live is in use
abbrev pub LiveInUse : Type 0
LiveInUse = (limits : Bounds) (steps : List Step) (r : Ref) → AreBounds limits → IsLive (run limits steps) r → IsInUse (run limits steps).heap r

-- what the next action of an operation names is live, by its own line and private list and the roots
abbrev pub NamedAreHeld : Type 0
NamedAreHeld =
    (limits : Bounds) (steps : List Step) (actor : ℕ) (operation : Operation) (r : Ref) → AreBounds limits → operation_of (run limits steps) actor ≡ Some operation →
    Contains (refs_of_claims (action_wants (action_of (run limits steps) operation))) r → IsKnown (run limits steps) (λ id. id ≡ operation.id) r

-- what is in use and dead stays dead
abbrev pub GarbageStays : Type 0
GarbageStays =
    (limits : Bounds) (steps : List Step) (s : Step) (r : Ref) → AreBounds limits → IsInUse (run limits steps).heap r →
    ¬ IsLive (run limits steps) r → ¬ IsLive (next_state (run limits steps) s) r

-- what is private to an operation no root leads to, and no other operation
abbrev pub PrivateUnknown : Type 0
PrivateUnknown =
    (limits : Bounds) (steps : List Step) (actor : ℕ) (operation : Operation) (r : Ref) → AreBounds limits → operation_of (run limits steps) actor ≡ Some operation → Contains operation.private r →
    ¬ IsKnown (run limits steps) (λ id. ¬ (id ≡ operation.id)) r

-- what a root led to once never comes to be private
abbrev pub ReachedIsNeverPrivate : Type 0
ReachedIsNeverPrivate =
    (limits : Bounds) (before since : List Step) (actor : ℕ) (operation : Operation) (r : Ref) → AreBounds limits → IsReached (run limits before) r →
    operation_of (run limits (before ++ since)) actor ≡ Some operation → ¬ Contains operation.private r

-- a main node that an operation is about to swap in is private to it and decided, and stands in no slot
abbrev pub FreshIsAlone : Type 0
FreshIsAlone =
    (limits : Bounds) (steps : List Step) (actor : ℕ) (operation : Operation) (why : Purpose) (indirection replaced fresh : Ref) → AreBounds limits →
    operation_of (run limits steps) actor ≡ Some operation →
    operation.line ≡ line.Swap why (swapping indirection replaced fresh) →
    Contains operation.private fresh × (prev_at (run limits steps).heap fresh ≡ prev.None) × ((q : Ref) → ¬ Contains (refs_of_slot (stored (run limits steps).heap q)) fresh)
