-- Laws of root swaps, for every list of steps.
use Rattle.std.specs.Prelude.{◌≡◌, ℕ, suc, ◌<◌, ◌≤◌, ◌⊎◌, List, Some, None, slice_get}
use Rattle.proof_order.specs.Vocabulary.{Writable, Call, Clear, Snapshot, Freeze, Ref, node_at, logical_main, empty_branch, Closing, Operation, Descriptor, Root, Bounds, Step, State, root_at}
use Rattle.proof_order.specs.Vocabulary.{root_of, operation_of, AreBounds, states_of, last_of, records_of, Record, record_of, closed_at, IsInUse, root_generation}
use Rattle.proof_order.specs.Openings.{IsSwap}

-- ---- of the states of a run, each before the step of its number

-- roots of one generation are one, whatever handles had them, and when
abbrev pub OneRootIn : (ℕ → State) → ℕ → Type 0
OneRootIn states last =
    (n k : ℕ) → n ≤ last → k ≤ last → (handle other : ℕ) (a b : Root) → root_at (states n) handle ≡ Some a → root_at (states k) other ≡ Some b →
    root_generation (states n) a ≡ root_generation (states k) b → root_of a.word ≡ root_of b.word

-- the root of a writable handle is the one that its number had before, or of a greater generation
abbrev pub HandlesRiseIn : (ℕ → State) → ℕ → Type 0
HandlesRiseIn states last =
    (n k : ℕ) → n ≤ k → k ≤ last → (handle : ℕ) (before after : Root) → root_at (states n) handle ≡ Some before → root_at (states k) handle ≡ Some after → after.access ≡ Writable →
    (root_of after.word ≡ root_of before.word) ⊎ (root_generation (states n) before < root_generation (states k) after)

-- after the generation of a handle's root was closed no main node of that root is replaced
abbrev pub ClosedRootsStayIn : (ℕ → State) → (ℕ → Record) → ℕ → Type 0
ClosedRootsStayIn states records last =
    (m n k closed handle : ℕ) (root : Root) → m ≤ last → root_at (states m) handle ≡ Some root → closed_at (records last) (root_generation (states m) root) ≡ Some closed →
    closed ≤ n → n ≤ k → k ≤ last → IsInUse (states n).heap (root_of root.word) → IsInUse (states k).heap (root_of root.word) →
    logical_main (states k).heap (root_of root.word) ≡ logical_main (states n).heap (root_of root.word)

-- each closing is of another generation
abbrev pub ClosingsDifferIn : Record → Type 0
ClosingsDifferIn past = (m n : ℕ) (a b : Closing) → slice_get past.closings m ≡ Some a → slice_get past.closings n ≡ Some b → a.generation ≡ b.generation → m ≡ n

-- What a root swap leads to: a clear to a root over an empty branch, a snapshot and a freeze to roots over the very node that is the old root's.
pub data RootsFollow (before after : State) (offer : Descriptor) : Call → Type 0 where
  clears : (handle : ℕ) → node_at after.heap (logical_main after.heap offer.successor) ≡ empty_branch → RootsFollow before after offer (Clear handle)
  snapshots : (handle : ℕ) (second : Ref) → offer.second ≡ Some second → logical_main after.heap offer.successor ≡ logical_main before.heap offer.root →
      logical_main after.heap second ≡ logical_main before.heap offer.root → RootsFollow before after offer (Snapshot handle)
  freezes : (handle : ℕ) → offer.second ≡ None → logical_main after.heap offer.successor ≡ logical_main before.heap offer.root → RootsFollow before after offer (Freeze handle)

abbrev pub NewRootsFollowIn : (ℕ → State) → (ℕ → Record) → ℕ → Type 0
NewRootsFollowIn states records last =
    (t handle : ℕ) (offer : Descriptor) → IsSwap states records last t handle offer → (actor : ℕ) (offerer : Operation) → operation_of (states t) actor ≡ Some offerer →
    offerer.id ≡ offer.operation → RootsFollow (states t) (states (suc t)) offer offerer.call

-- a root is swapped only where the handle is open over it, and its logical main node is the expected one
abbrev pub RootsSwappedAsExpectedIn : (ℕ → State) → (ℕ → Record) → ℕ → Type 0
RootsSwappedAsExpectedIn states records last =
    (t handle : ℕ) (offer : Descriptor) → IsSwap states records last t handle offer →
    (root : Root) × (root_at (states t) handle ≡ Some root) × (root_of root.word ≡ offer.root) × (logical_main (states t).heap offer.root ≡ offer.expected)

-- ---- for every list of steps

abbrev pub OneRoot : Type 0
OneRoot = (limits : Bounds) (steps : List Step) → AreBounds limits → OneRootIn (states_of limits steps) (last_of limits steps)

abbrev pub HandlesRise : Type 0
HandlesRise = (limits : Bounds) (steps : List Step) → AreBounds limits → HandlesRiseIn (states_of limits steps) (last_of limits steps)

abbrev pub ClosedRootsStay : Type 0
ClosedRootsStay = (limits : Bounds) (steps : List Step) → AreBounds limits → ClosedRootsStayIn (states_of limits steps) (records_of limits steps) (last_of limits steps)

abbrev pub ClosingsDiffer : Type 0
ClosingsDiffer = (limits : Bounds) (steps : List Step) → AreBounds limits → ClosingsDifferIn (record_of limits steps)

abbrev pub NewRootsFollow : Type 0
NewRootsFollow = (limits : Bounds) (steps : List Step) → AreBounds limits → NewRootsFollowIn (states_of limits steps) (records_of limits steps) (last_of limits steps)

abbrev pub RootsSwappedAsExpected : Type 0
RootsSwappedAsExpected = (limits : Bounds) (steps : List Step) → AreBounds limits → RootsSwappedAsExpectedIn (states_of limits steps) (records_of limits steps) (last_of limits steps)
