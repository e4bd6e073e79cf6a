-- The laws as statements, for every list of steps.
use Rattle.std.specs.Prelude.{◌≡◌, ℕ, ◌≤◌, ◌⊎◌, true, List, Contains, Some, None}
use Rattle.proof_owned.specs.Beneath.slot_arena.specs.declared.refs.Ref.{Ref}
use Rattle.proof_owned.specs.Beneath.slot_arena.specs.declared.nodes.Prev.TheVariants as prev
use Rattle.proof_owned.specs.Beneath.slot_arena.specs.Heaps.{entries_of, stored, refs_of_slot, logical_main, main_at, node_at, prev_at, generation_at}
use Rattle.proof_owned.specs.Beneath.machine_model.specs.declared.steps.Bounds.{Bounds}
use Rattle.proof_owned.specs.Beneath.machine_model.specs.declared.steps.Step.{Step}
use Rattle.proof_owned.specs.Beneath.machine_model.specs.declared.operations.Operation.{Operation}
use Rattle.proof_owned.specs.Beneath.machine_model.specs.declared.reading.ReadLine.TheVariants as read
use Rattle.proof_owned.specs.Beneath.machine_model.specs.Operations.{read_of}
use Rattle.proof_owned.specs.Beneath.machine_model.specs.States.{State, operation_of}
use Rattle.proof_owned.specs.Beneath.machine_model.specs.Machine.{AreBounds}
use Rattle.proof_owned.specs.Beneath.machine_model.specs.Grown.{node_under, main_word}
use Rattle.proof_owned.specs.Beneath.machine_model.specs.Times.{states_of, records_of, last_of}
use Rattle.proof_owned.specs.Beneath.machine_model.specs.Records.{closed_at}
use Rattle.proof_owned.specs.Beneath.proof_memory.specs.Laws.{IsInUse}
use Rattle.proof_owned.specs.Beneath.proof_memory.specs.Wants.{is_indirection}
use Rattle.proof_owned.specs.Beneath.proof_commits.specs.Runs.{HasIndirection}
use Rattle.proof_owned.specs.Beneath.proof_generations.specs.Falling.{WasOpened}
use Rattle.proof_owned.specs.Owned.{IsOwn, IsShared, IsLinked}

-- the state after all of these steps
abbrev pub end_of : Bounds → List Step → State
end_of limits steps = states_of limits steps (last_of limits steps)

-- its generation isn't closed
abbrev pub IsUnclosed : Bounds → List Step → Ref → Type 0
IsUnclosed limits steps i = closed_at (records_of limits steps (last_of limits steps)) (generation_at (end_of limits steps).heap i) ≡ None

-- ---- own or shared

-- a main node that stood in an indirection's word is its own or shared
abbrev pub OwnOrShared : Type 0
OwnOrShared =
    (limits : Bounds) (steps : List Step) → AreBounds limits → (t : ℕ) → t ≤ last_of limits steps → (i m : Ref) → is_indirection (node_under (states_of limits steps) t i) ≡ true →
    main_word (states_of limits steps) t i ≡ m → IsOwn (states_of limits steps) (last_of limits steps) i m ⊎ IsShared (states_of limits steps) (last_of limits steps) i m

-- and never both
abbrev pub NeverBoth : Type 0
NeverBoth =
    (limits : Bounds) (steps : List Step) → AreBounds limits → (i m : Ref) → IsOwn (states_of limits steps) (last_of limits steps) i m →
    ¬ IsShared (states_of limits steps) (last_of limits steps) i m

-- ---- main nodes

-- it was the main node that counts for the indirection, and is so no more: another one was committed in its place
pub record IsReplaced (limits : Bounds) (steps : List Step) (i m : Ref) : Type 0 where
  pub before : ℕ
  pub after : ℕ
  pub order : before ≤ after
  pub within : after ≤ last_of limits steps
  pub had : HasIndirection (states_of limits steps before) i
  pub has : HasIndirection (states_of limits steps after) i
  pub was : logical_main (states_of limits steps before).heap i ≡ m
  pub is : ¬ (logical_main (states_of limits steps after).heap i ≡ m)

-- it has failed, and the node before it was put back
pub record IsFailed (limits : Bounds) (steps : List Step) (i m : Ref) : Type 0 where
  pub at : ℕ
  pub within : at ≤ last_of limits steps
  pub used : IsInUse (states_of limits steps at).heap m
  pub over : Ref
  pub failed : prev_at (states_of limits steps at).heap m ≡ prev.Failed over
  pub has : HasIndirection (end_of limits steps) i
  pub is : ¬ (main_at (end_of limits steps).heap i ≡ m)

-- where a slot in use that names an indirection's own main node can be: it is that indirection, or a root that was never opened, or a main node over it
pub data Refers (limits : Bounds) (steps : List Step) (i m q : Ref) : Type 0 where
  itself : q ≡ i → Refers limits steps i m q
  unopened : HasIndirection (end_of limits steps) q → ¬ WasOpened (states_of limits steps) (last_of limits steps) (generation_at (end_of limits steps).heap q) → Refers limits steps i m q
  pending : prev_at (end_of limits steps).heap q ≡ prev.Pending m → Refers limits steps i m q
  failed : prev_at (end_of limits steps).heap q ≡ prev.Failed m → Refers limits steps i m q

-- While the generation of an indirection is open, and once the node is replaced, its own main node is named by no other indirection, but by roots that were
-- made over it and never opened.
abbrev pub OneReferrer : Type 0
OneReferrer =
    (limits : Bounds) (steps : List Step) → AreBounds limits → (i m q : Ref) → IsOwn (states_of limits steps) (last_of limits steps) i m →
    (HasIndirection (end_of limits steps) i × IsUnclosed limits steps i) ⊎ IsReplaced limits steps i m → IsInUse (end_of limits steps).heap q →
    Contains (refs_of_slot (stored (end_of limits steps).heap q)) m → Refers limits steps i m q

-- what was replaced at the indirection whose own it is no root leads to
abbrev pub ReplacedOwnIsUnlinked : Type 0
ReplacedOwnIsUnlinked =
    (limits : Bounds) (steps : List Step) → AreBounds limits → (i m : Ref) → IsOwn (states_of limits steps) (last_of limits steps) i m → IsReplaced limits steps i m →
    ¬ IsLinked (end_of limits steps) m

-- nor to what failed there
abbrev pub FailedOwnIsUnlinked : Type 0
FailedOwnIsUnlinked =
    (limits : Bounds) (steps : List Step) → AreBounds limits → (i m : Ref) → IsOwn (states_of limits steps) (last_of limits steps) i m → IsFailed limits steps i m →
    ¬ IsLinked (end_of limits steps) m

-- An operation is to read the main word of this indirection next.
pub record IsToRead (state : State) (j : Ref) : Type 0 where
  pub actor : ℕ
  pub operation : Operation
  pub runs : operation_of state actor ≡ Some operation
  pub reads : read_of operation.line ≡ Some (record { indirection = j; line = read.Main })

-- Whoever reads a main word from then on finds neither the node that was replaced nor a node that stands over it: who holds it held it before.
abbrev pub ReplacedOwnIsReadNoMore : Type 0
ReplacedOwnIsReadNoMore =
    (limits : Bounds) (steps : List Step) → AreBounds limits → (i m : Ref) → IsOwn (states_of limits steps) (last_of limits steps) i m → IsReplaced limits steps i m →
    (j : Ref) → IsToRead (end_of limits steps) j →
    (¬ (main_at (end_of limits steps).heap j ≡ m))
    × (¬ (prev_at (end_of limits steps).heap (main_at (end_of limits steps).heap j) ≡ prev.Pending m))
    × (¬ (prev_at (end_of limits steps).heap (main_at (end_of limits steps).heap j) ≡ prev.Failed m))

-- ---- indirections

-- an indirection of the other one's generation was an entry of the main node that counts for that one, and is so no more
pub record IsTakenOut (limits : Bounds) (steps : List Step) (parent child : Ref) : Type 0 where
  pub before : ℕ
  pub after : ℕ
  pub order : before ≤ after
  pub within : after ≤ last_of limits steps
  pub had : HasIndirection (states_of limits steps before) parent
  pub has : HasIndirection (states_of limits steps after) parent
  pub link : HasIndirection (states_of limits steps before) child
  pub own : generation_at (states_of limits steps before).heap child ≡ generation_at (states_of limits steps before).heap parent
  pub was : Contains (entries_of (node_at (states_of limits steps before).heap (logical_main (states_of limits steps before).heap parent))) child
  pub gone : ¬ Contains (entries_of (node_at (states_of limits steps after).heap (logical_main (states_of limits steps after).heap parent))) child

-- no root leads to what was taken out so: a tombed indirection, whose single took its place
abbrev pub TakenOutIsUnlinked : Type 0
TakenOutIsUnlinked =
    (limits : Bounds) (steps : List Step) → AreBounds limits → (parent child : Ref) → IsTakenOut limits steps parent child → ¬ IsLinked (end_of limits steps) child

-- nor to any main node that is its own, its tomb as well
abbrev pub MainsOfTakenOutAreUnlinked : Type 0
MainsOfTakenOutAreUnlinked =
    (limits : Bounds) (steps : List Step) → AreBounds limits → (parent child m : Ref) → IsTakenOut limits steps parent child →
    IsOwn (states_of limits steps) (last_of limits steps) child m → ¬ IsLinked (end_of limits steps) m
