-- Laws of the order that a machine hands out.
use Rattle.std.specs.Prelude.{◌≡◌, ◌≢◌, ℕ, List, ◌++◌, Option, Some, None}
use Rattle.std.specs.List.Sorted.{IsPermutation, IsSortedBy}
use Rattle.std.specs.FinMap as map
use Rattle.proof_order.specs.Vocabulary.{hash_of, Reply, NoSlots, KeyMap, HandleState, HandleMap, HasBegun, HasEnded, IsWellFormed, OrderedAt, Explains, Place, is_before, rising, Root, Bounds, Step}
use Rattle.proof_order.specs.Vocabulary.{State, root_at, content_at, AreBounds, run, states_of, last_of, records_of, order_of, Record, record_of}
use Rattle.proof_order.specs.Facts.{Facts}

-- ---- the legal order

-- the handle names a map of this kind with these entries, or nothing where it isn't open
abbrev pub Names : Option Root → List (ℕ × ℕ) → Option HandleState → Type 0
Names None pairs shown = shown ≡ None
Names (Some root) pairs shown = (m : KeyMap) × (shown ≡ Some (record { access = root.access; pairs = m })) × (map.entries m ≡ pairs)

-- the world has just the open handles of the state, of the same kinds, each with its content
abbrev pub ShowsContents : HandleMap → State → Type 0
ShowsContents world state = (handle : ℕ) → Names (root_at state handle) (content_at state handle) (map.get world handle)

-- the order explains the history, and leads to a world that shows the state's contents
abbrev pub IsExplained : Bounds → State → Record → Type 0
IsExplained limits state past = (world : HandleMap) × Explains (hash_of limits.hash) past.events (order_of past) world × ShowsContents world state

-- From the facts about contents it follows that the order is legal.
abbrev pub LegalByFacts : Type 0
LegalByFacts =
    (limits : Bounds) (steps : List Step) (V : ℕ → ℕ → KeyMap) → AreBounds limits → Facts limits (states_of limits steps) (records_of limits steps) (last_of limits steps) V →
    IsExplained limits (run limits steps) (record_of limits steps)

-- ---- laws without facts

-- The recorded history is well formed.
abbrev pub HistoriesWellFormed : Type 0
HistoriesWellFormed = (limits : Bounds) (steps : List Step) → IsWellFormed (record_of limits steps).events

-- Each operation that was answered stands in the order.
abbrev pub AnsweredAreOrdered : Type 0
AnsweredAreOrdered =
    (limits : Bounds) (steps : List Step) (id : ℕ) (answer : Reply) → HasEnded (record_of limits steps).events id answer → answer ≢ NoSlots →
    (i : ℕ) × OrderedAt (order_of (record_of limits steps)) i id

-- Each operation in the order has begun.
abbrev pub OrderedHaveBegun : Type 0
OrderedHaveBegun = (limits : Bounds) (steps : List Step) (i id : ℕ) → OrderedAt (order_of (record_of limits steps)) i id → HasBegun (record_of limits steps).events id

-- Places once told stay: later steps add places, and change none.
abbrev pub PlacesStay : Type 0
PlacesStay =
    (limits : Bounds) (steps more : List Step) →
    (new : List Place) × ((record_of limits (steps ++ more)).places ≡ (record_of limits steps).places ++ new)

-- The rising places are the places, each as often as before, sorted.
abbrev pub RisingSorts : Type 0
RisingSorts = (places : List Place) → IsPermutation places (rising places) × IsSortedBy is_before (rising places)
