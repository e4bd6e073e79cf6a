-- What stands on handles: of which kind they are open, and of which generation their roots are.
use Rattle.std.specs.Prelude.{◌≡◌, ℕ, ◌<◌, ◌⊎◌, Option, Some, None}
use Rattle.proof_generations.specs.Vocabulary.{Access, Writable, Heap, generation_at, Root, State, root_at, root_of, Record, closed_at}

-- the kind of an open handle, and the generation of its root
abbrev pub standing_of : Heap → Option Root → Option (Access × ℕ)
standing_of heap None = None
standing_of heap (Some root) = Some (root.access, generation_at heap (root_of root.word))

abbrev pub standing : State → ℕ → Option (Access × ℕ)
standing state handle = standing_of state.heap (root_at state handle)

-- at this time the handle is writable, and its root has this generation
abbrev pub On : (ℕ → State) → ℕ → ℕ → ℕ → Type 0
On states t handle generation = standing (states t) handle ≡ Some (Writable, generation)

-- the root of the writable handle has this generation, or had it until it was closed
abbrev pub IsRooted : (ℕ → State) → (ℕ → Record) → ℕ → ℕ → ℕ → Type 0
IsRooted states records t handle generation =
    On states t handle generation ⊎ ((c : ℕ) × (c < t) × (closed_at (records t) generation ≡ Some c) × On states c handle generation)
