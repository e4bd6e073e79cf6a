-- Laws of generations along paths, for every list of steps.
use Rattle.std.specs.Prelude.{◌≡◌, ℕ, ◌<◌, ◌≤◌, ◌⊎◌, List, Contains, Some, true}
use Rattle.proof_generations.specs.Vocabulary.{Writable, Ref, node_at, main_at, generation_at, entries_of, logical_main, Purpose, Operation, Swap, Bounds, Step, State, operation_of, AreBounds, run}
use Rattle.proof_generations.specs.Vocabulary.{states_of, last_of, closed_at, record_of, HasIndirection, IsGiven, known_after}
use Rattle.proof_generations.specs.Beneath.machine_model.specs.declared.lines.Line.TheVariants as line
use Rattle.proof_generations.specs.Falling.{ReadsClosed, WasOpened}
use Rattle.proof_generations.specs.Beneath.proof_memory.specs.Wants.{is_indirection}

-- after some of the steps a handle's root had this generation
abbrev pub IsOpened : Bounds → List Step → ℕ → Type 0
IsOpened limits steps g = WasOpened (states_of limits steps) (last_of limits steps) g

-- the main node counts for the indirection, or stands in its main word
abbrev pub HasMain : State → Ref → Ref → Type 0
HasMain state i m = (logical_main state.heap i ≡ m) ⊎ (main_at state.heap i ≡ m)

-- an indirection below another one: it is an entry of a main node of that
pub record IsBelow (state : State) (i child : Ref) : Type 0 where
  pub has : HasIndirection state i
  pub main : Ref
  pub is_main : HasMain state i main
  pub among : Contains (entries_of (node_at state.heap main)) child
  pub link : is_indirection (node_at state.heap child) ≡ true

-- Below an indirection none has a greater generation. Once its own generation was opened, each has the same, or one that is closed; before that it is a new
-- root, below which stands what stands below the root that it is to follow.
abbrev pub FallBelow : Type 0
FallBelow =
    (limits : Bounds) (steps : List Step) → AreBounds limits → (i child : Ref) → IsBelow (run limits steps) i child →
    (generation_at (run limits steps).heap child ≤ generation_at (run limits steps).heap i)
    × (IsOpened limits steps (generation_at (run limits steps).heap i) →
    (generation_at (run limits steps).heap child ≡ generation_at (run limits steps).heap i)
    ⊎ ((c : ℕ) × (closed_at (record_of limits steps) (generation_at (run limits steps).heap child) ≡ Some c)))

-- who swaps a main node in does so on a writable handle, into an indirection of the generation that its root had when it began its try
abbrev pub SwapsAreOwn : Type 0
SwapsAreOwn =
    (limits : Bounds) (steps : List Step) → AreBounds limits → (actor : ℕ) (operation : Operation) → operation_of (run limits steps) actor ≡ Some operation → (why : Purpose) (s : Swap) →
    operation.line ≡ line.Swap why s → (operation.access ≡ Writable) × (operation.generation ≡ Some (generation_at (run limits steps).heap s.indirection))

-- what a READ gives through a read-only handle, or a repair's READ of an indirection of another generation than the operation's, is its logical main node for ever
abbrev pub ReadForGood : Type 0
ReadForGood =
    (limits : Bounds) (steps : List Step) → AreBounds limits → (n : ℕ) → n < last_of limits steps → (indirection main : Ref) (given : IsGiven limits steps n indirection main) →
    HasIndirection (states_of limits steps n) indirection → ReadsClosed given.operation (generation_at (states_of limits steps n).heap indirection) →
    (k : ℕ) → (known_after given).moment < k → k ≤ last_of limits steps → HasIndirection (states_of limits steps k) indirection →
    logical_main (states_of limits steps k).heap indirection ≡ main
