-- The law of what roots don't follow any more, for every list of steps.
use Rattle.std.specs.Prelude.{◌≡◌, ◌⊎◌, ℕ, ◌≤◌, ◌<◌, false, List, [], ◌∷◌, ◌++◌, Contains, Option, Some, None}
use Rattle.proof_followed.specs.Beneath.slot_arena.specs.declared.refs.Ref.{Ref}
use Rattle.proof_followed.specs.Beneath.slot_arena.specs.Heaps.{stored, refs_of_option, refs_of_slot}
use Rattle.proof_followed.specs.Beneath.machine_model.specs.declared.actions.Action.TheVariants as act
use Rattle.proof_followed.specs.Beneath.machine_model.specs.declared.copying.CopyLine.TheVariants as copy
use Rattle.proof_followed.specs.Beneath.machine_model.specs.declared.lines.Line.{Line}
use Rattle.proof_followed.specs.Beneath.machine_model.specs.declared.lines.Line.TheVariants as line
use Rattle.proof_followed.specs.Beneath.machine_model.specs.declared.operations.Operation.{Operation}
use Rattle.proof_followed.specs.Beneath.machine_model.specs.declared.steps.Bounds.{Bounds}
use Rattle.proof_followed.specs.Beneath.machine_model.specs.declared.steps.Step.{Step}
use Rattle.proof_followed.specs.Beneath.machine_model.specs.declared.steps.Step.TheVariants.{Go}
use Rattle.proof_followed.specs.Beneath.machine_model.specs.Machine.{AreBounds, run, next_state}
use Rattle.proof_followed.specs.Beneath.machine_model.specs.Operations.{action_of}
use Rattle.proof_followed.specs.Beneath.machine_model.specs.States.{State, operation_of}
use Rattle.proof_followed.specs.Beneath.proof_memory.specs.Laws.{IsInUse}
use Rattle.proof_garbage.specs.Grace.{HaveEnded}
use Rattle.proof_followed.specs.Followed.{IsFollowed, IsFollowedByRoots, IsFollowedByAny}

-- what a copy has made for its offer: the offer's roots, or the branch over which a clear is to make one
abbrev pub made_for_offer : Line → List Ref
made_for_offer (line.Copy (copy.Cleared root main branch)) = branch ∷ []
made_for_offer (line.Copy (copy.Second root main successor)) = successor ∷ []
made_for_offer (line.Copy (copy.Offer offer)) = offer.successor ∷ refs_of_option offer.second
made_for_offer (line.Copy (copy.Complete c)) = c.offer.successor ∷ refs_of_option c.offer.second
made_for_offer l = []

-- the main node that its offer expects
abbrev pub expected_by : Line → Option Ref
expected_by (line.Copy (copy.Second root main successor)) = Some main
expected_by (line.Copy (copy.Offer offer)) = Some offer.expected
expected_by (line.Copy (copy.Complete c)) = Some c.offer.expected
expected_by l = None

-- the operation is to bring this to where a root leads: it made it for its offer, or it stands in what it made and isn't the expected main node
abbrev pub IsToBring : State → Operation → Ref → Type 0
IsToBring state operation r =
    Contains (made_for_offer operation.line) r
    ⊎ ((q : Ref) × Contains (made_for_offer operation.line) q × Contains (refs_of_slot (stored state.heap q)) r × ¬ (expected_by operation.line ≡ Some r))

-- no operation is to bring it whose offer isn't carried out yet
abbrev pub NobodyBrings : State → Ref → Type 0
NobodyBrings state r = (actor : ℕ) (operation : Operation) → operation_of state actor ≡ Some operation → operation.is_marked ≡ false → ¬ IsToBring state operation r

-- What a copy is to bring no root follows, and no other operation, until its offer is carried out: so where the offer is taken back, or isn't made, nobody else is on it.
abbrev pub OfferedIsUnknown : Type 0
OfferedIsUnknown =
    (limits : Bounds) (steps : List Step) (actor : ℕ) (operation : Operation) (r : Ref) → AreBounds limits → operation_of (run limits steps) actor ≡ Some operation → operation.is_marked ≡ false →
    IsToBring (run limits steps) operation r → ¬ IsFollowed (run limits steps) (λ id. ¬ (id ≡ operation.id)) r

-- what roots followed once nobody is to bring ever after
abbrev pub FollowedIsNeverBrought : Type 0
FollowedIsNeverBrought =
    (limits : Bounds) (before since : List Step) (r : Ref) → AreBounds limits → IsFollowedByRoots (run limits before) r → NobodyBrings (run limits (before ++ since)) r

-- followed from a root, or by an operation that has begun since that state
abbrev pub IsFollowedSince : State → State → Ref → Type 0
IsFollowedSince then now r = IsFollowed now (λ id. then.begun ≤ id) r

-- no operation that ran after the steps before swaps in a node so that this is followed again from roots or by those who began since
abbrev pub IsNotSwappedBack : Bounds → List Step → List Step → Ref → Type 0
IsNotSwappedBack limits before since r =
    (a b : List Step) (actor : ℕ) (operation : Operation) (indirection replaced fresh : Ref) → since ≡ a ++ Go actor ∷ b → operation_of (run limits (before ++ a)) actor ≡ Some operation →
    operation.id < (run limits before).begun → action_of (run limits (before ++ a)) operation ≡ act.Publish indirection replaced fresh →
    ¬ IsFollowedSince (run limits before) (run limits (before ++ a)) r → ¬ IsFollowedSince (run limits before) (next_state (run limits (before ++ a)) (Go actor)) r

-- What is in use, followed from no root and to be brought by nobody is followed neither from roots nor by those who begin later, whatever offers stand, are made or carried out, unless an operation
-- that ran then swaps it in again; so once these have ended nobody follows it.
abbrev pub UnfollowedDies : Type 0
UnfollowedDies =
    (limits : Bounds) (before since : List Step) (r : Ref) → AreBounds limits → IsInUse (run limits before).heap r → ¬ IsFollowedByRoots (run limits before) r →
    NobodyBrings (run limits before) r → IsNotSwappedBack limits before since r →
    (¬ IsFollowedSince (run limits before) (run limits (before ++ since)) r)
    × (HaveEnded (run limits before) (run limits (before ++ since)) → ¬ IsFollowedByAny (run limits (before ++ since)) r)
