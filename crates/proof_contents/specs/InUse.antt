-- What the handles reach is in use.
use Rattle.std.specs.Prelude.{◌≡◌, Some}
use Rattle.proof_contents.specs.Vocabulary.{Ref, Slot, State, IsReached, standing}

-- every reference that the handles reach names a slot in use, with that very birth
abbrev pub ReachesInUse : State → Type 0
ReachesInUse state = (r : Ref) → IsReached state r → (slot : Slot) × (standing state.heap r ≡ Some slot)
