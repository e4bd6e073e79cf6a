-- What the sweep takes at most for a slot, and which slots it leaves in use.
use Rattle.std.specs.Prelude.{◌≡◌, ℕ, ◌+◌, ◌*◌, false, List, []}
use Rattle.proof_memory.specs.Vocabulary.{Ref, Bounds, Step, IsReached, AreBounds, is_busy, run, State}
use Rattle.proof_memory.specs.Laws.{IsInUse}

-- the most steps for a slot that is freed: the epoch grows twice, each time when all actors were passed, and one step frees it
abbrev pub steps_for_a_slot : ℕ → ℕ
steps_for_a_slot actors = 2 * actors + 3

-- just what the handles reach is in use
abbrev pub UsesReached : State → Type 0
UsesReached state = (r : Ref) → (IsInUse state.heap r → IsReached state r) × (IsReached state r → IsInUse state.heap r)

-- so it is at rest, with limbo empty
abbrev pub Reclaimed : Type 0
Reclaimed = (limits : Bounds) (steps : List Step) → AreBounds limits → is_busy (run limits steps) ≡ false → (run limits steps).limbo ≡ [] → UsesReached (run limits steps)
