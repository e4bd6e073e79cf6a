-- Laws of what a machine holds, in the words of the calls of its heap.
use Rattle.std.specs.Prelude.{◌≡◌, ℕ, ◌≤◌, List, length, Some}
use Rattle.proof_memory.specs.Vocabulary.{Ref, IsLive, times, Operation, Bounds, Step, handle_limit, operation_of, action_of, AreBounds, run}
use Rattle.proof_memory.specs.Wants.{AllHold, action_wants}

-- no reference stands twice in a private list
abbrev pub PrivatesOnce : Type 0
PrivatesOnce =
    (limits : Bounds) (steps : List Step) (actor : ℕ) (operation : Operation) (r : Ref) → AreBounds limits → operation_of (run limits steps) actor ≡ Some operation →
    times r operation.private ≤ 1

-- there are as many handle numbers and actors as at first
abbrev pub SizesStay : Type 0
SizesStay = (limits : Bounds) (steps : List Step) → (length (run limits steps).roots ≡ handle_limit) × (length (run limits steps).actors ≡ limits.actors)

-- each reference of a running operation's next action names a slot in use, of the kind that the action takes it for
abbrev pub LinesLive : Type 0
LinesLive =
    (limits : Bounds) (steps : List Step) (actor : ℕ) (operation : Operation) → AreBounds limits → operation_of (run limits steps) actor ≡ Some operation →
    AllHold (IsLive (run limits steps).heap) (run limits steps).heap (action_wants (action_of (run limits steps) operation))
