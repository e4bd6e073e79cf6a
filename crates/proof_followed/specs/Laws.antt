-- Laws of what is followed, for every list of steps.
use Rattle.std.specs.Prelude.{◌≡◌, ℕ, List, Contains, Some}
use Rattle.proof_followed.specs.Beneath.slot_arena.specs.declared.refs.Ref.{Ref}
use Rattle.proof_followed.specs.Beneath.machine_model.specs.declared.operations.Operation.{Operation}
use Rattle.proof_followed.specs.Beneath.machine_model.specs.declared.steps.Bounds.{Bounds}
use Rattle.proof_followed.specs.Beneath.machine_model.specs.declared.steps.Step.{Step}
use Rattle.proof_followed.specs.Beneath.machine_model.specs.Machine.{AreBounds, run, next_state}
use Rattle.proof_followed.specs.Beneath.machine_model.specs.Operations.{action_of}
use Rattle.proof_followed.specs.Beneath.machine_model.specs.States.{operation_of}
use Rattle.proof_followed.specs.Beneath.proof_memory.specs.Laws.{IsInUse}
use Rattle.proof_garbage.specs.Live.{IsLive, refs_of_claims}
use Rattle.proof_followed.specs.Followed.{IsFollowed, IsFollowedByAny, followed_action_wants}

-- what is followed is in use
abbrev pub FollowedInUse : Type 0
FollowedInUse = (limits : Bounds) (steps : List Step) (r : Ref) → AreBounds limits → IsFollowedByAny (run limits steps) r → IsInUse (run limits steps).heap r

-- what is followed is live
abbrev pub FollowedIsLive : Type 0
FollowedIsLive = (limits : Bounds) (steps : List Step) (r : Ref) → AreBounds limits → IsFollowedByAny (run limits steps) r → IsLive (run limits steps) r

-- what the next action of an operation reads, writes or stores it follows, or reaches from there or from a root; so it never looks at what only an offer names that another operation made
abbrev pub NamedAreFollowed : Type 0
NamedAreFollowed =
    (limits : Bounds) (steps : List Step) (actor : ℕ) (operation : Operation) (r : Ref) → AreBounds limits → operation_of (run limits steps) actor ≡ Some operation →
    Contains (refs_of_claims (followed_action_wants (action_of (run limits steps) operation))) r → IsFollowed (run limits steps) (λ id. id ≡ operation.id) r

-- what is in use and followed by nobody is followed by nobody after any step
abbrev pub UnfollowedStays : Type 0
UnfollowedStays =
    (limits : Bounds) (steps : List Step) (s : Step) (r : Ref) → AreBounds limits → IsInUse (run limits steps).heap r →
    ¬ IsFollowedByAny (run limits steps) r → ¬ IsFollowedByAny (next_state (run limits steps) s) r

-- ---- what isn't so: that all that is live is followed

abbrev pub LiveIsFollowed : Type 0
LiveIsFollowed = (limits : Bounds) (steps : List Step) (r : Ref) → AreBounds limits → IsLive (run limits steps) r → IsFollowedByAny (run limits steps) r

-- in the run in which an offer puts back a main node that was replaced, who meets the offer has it at hand and doesn't follow it
abbrev pub LiveIsMore : Type 0
LiveIsMore = ¬ LiveIsFollowed
