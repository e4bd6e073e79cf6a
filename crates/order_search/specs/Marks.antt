-- Marks of operations that stand in the beginning of an order, or never may; and which one may come next.
use Rattle.std.specs.Prelude.{◌≡◌, ℕ, ◌<◌, ◌≤◌, Bool, true, false, ◌⊎◌, List, length, Option, Some, None, slice_get}
use Rattle.order_search.specs.Vocabulary.{Reply, NoSlots, Event, HasEnded, begun, IsBefore, IsAmong}

abbrev pub HasMark : List Bool → ℕ → Type 0
HasMark taken id = slice_get taken id ≡ Some true

abbrev pub HasNoMark : List Bool → ℕ → Type 0
HasNoMark taken id = slice_get taken id ≡ Some false

-- The operations among these ids have marks, and those that were refused; no others.
pub record AreMarked (history : List Event) (ids : List ℕ) (taken : List Bool) : Type 0 where
  pub size : length taken ≡ begun history
  pub marked : (id : ℕ) → HasMark taken id → IsAmong ids id ⊎ HasEnded history id NoSlots
  pub unmarked : (id : ℕ) → HasNoMark taken id → ¬ IsAmong ids id × ¬ HasEnded history id NoSlots

-- no operation without a mark had ended when this one began
abbrev pub IsInTurn : List Event → List Bool → ℕ → Type 0
IsInTurn history taken id = (other : ℕ) → HasNoMark taken other → ¬ IsBefore history other id

-- one had
abbrev pub IsBarred : List Event → List Bool → ℕ → Type 0
IsBarred history taken id = (other : ℕ) × HasNoMark taken other × IsBefore history other id

-- the first operation from this id on that has no mark and is in turn, if there is one
abbrev pub Chooses : Option ℕ → List Event → List Bool → ℕ → Type 0
Chooses None history taken from = (id : ℕ) → from ≤ id → id < length taken → HasMark taken id ⊎ IsBarred history taken id
Chooses (Some id) history taken from =
    HasNoMark taken id × (from ≤ id) × ((other : ℕ) → from ≤ other → other < id → HasMark taken other) × IsInTurn history taken id

-- an operation that was answered has no mark
abbrev pub LacksAnswered : List Event → List Bool → Type 0
LacksAnswered history taken = (id : ℕ) × (answer : Reply) × HasNoMark taken id × HasEnded history id answer

-- this place is the earlier of two
abbrev pub IsEarlier : Option ℕ → Option ℕ → Option ℕ → Type 0
IsEarlier a b least =
    ((place : ℕ) → least ≡ Some place → (a ≡ Some place) ⊎ (b ≡ Some place))
    × ((place : ℕ) → (a ≡ Some place) ⊎ (b ≡ Some place) → (x : ℕ) × (least ≡ Some x) × (x ≤ place))
