-- States of a search: which operations are placed, and the world to which they lead.
use Rattle.std.specs.Prelude.{◌≡◌, ℕ, ◌<◌, ◌≤◌, Bool, List, length, Option, Some, slice_get, IfSome}
use Rattle.order_search.specs.Vocabulary.{Access, Event, Row, HandleMap, BeginsAt, LeadsTo}
use Rattle.history.specs.Histories.{Operation}
use Rattle.order_search.specs.declared.failures.Named.{Named}
use Rattle.order_search.specs.declared.failures.State.{State}
use Rattle.order_search.specs.declared.failures.Failures.{Failures}
use Rattle.order_search.specs.Searching.{NoneGoesOn}
use Rattle.order_search.specs.Cells.{cell_of, access_at, value_at}
use Rattle.order_search.specs.Marks.{AreMarked, HasMark}

-- the handle, or the key, is one of these
abbrev pub IsListed : List ℕ → ℕ → Type 0
IsListed xs x = (i : ℕ) × (slice_get xs i ≡ Some x)

-- each handle that a row opens is one of these
abbrev pub AreHandles : List Row → List ℕ → Type 0
AreHandles rows handles = (id : ℕ) (row : Row) → slice_get rows id ≡ Some row → IfSome row.opens (λ h. IsListed handles h)

-- each key of a row's call is one of these
abbrev pub AreKeys : List Row → List ℕ → Type 0
AreKeys rows keys = (id : ℕ) (row : Row) → slice_get rows id ≡ Some row → IfSome (cell_of row.call) (λ cell. IsListed keys cell.key)

-- The history's operations open these handles alone, and their calls on a key are on these.
pub record IsOver (history : List Event) (handles keys : List ℕ) : Type 0 where
  pub first : IsListed handles 0
  pub opened : (id place : ℕ) (operation : Operation) → BeginsAt history place id operation → IfSome operation.opens (λ h. IsListed handles h)
  pub on : (id place : ℕ) (operation : Operation) → BeginsAt history place id operation → IfSome (cell_of operation.call) (λ cell. IsListed keys cell.key)

-- these are the ids with marks from `low` on
abbrev pub IsAhead : ℕ → List Bool → List ℕ → Type 0
IsAhead low taken ahead =
    ((i id : ℕ) → slice_get ahead i ≡ Some id → HasMark taken id) × ((id : ℕ) → low ≤ id → HasMark taken id → (i : ℕ) × (slice_get ahead i ≡ Some id))

-- what the map of a handle has for each key
abbrev pub AreValues : List ℕ → HandleMap → ℕ → List (Option ℕ) → Type 0
AreValues keys world handle values = (i k : ℕ) → slice_get keys i ≡ Some k → slice_get values i ≡ Some (value_at world handle k)

-- the handle is there, and this is what it names
abbrev pub IsNamed : List ℕ → HandleMap → Named → Type 0
IsNamed keys world named = (access_at world named.handle ≡ Some named.access) × AreValues keys world named.handle named.values.items

-- These are the handles that are there, of those that may be, and what they name.
pub record AreNamed (handles keys : List ℕ) (world : HandleMap) (maps : List Named) : Type 0 where
  pub each : (i : ℕ) (named : Named) → slice_get maps i ≡ Some named → IsNamed keys world named
  pub all : (i h : ℕ) (access : Access) → slice_get handles i ≡ Some h → access_at world h ≡ Some access
      → (j : ℕ) × (named : Named) × (slice_get maps j ≡ Some named) × (named.handle ≡ h)

-- The state says which operations have marks, and what the world has.
pub record IsState (handles keys : List ℕ) (taken : List Bool) (world : HandleMap) (state : State) : Type 0 where
  pub low : (id : ℕ) → id < state.low → HasMark taken id
  pub ahead : IsAhead state.low taken state.ahead.items
  pub maps : AreNamed handles keys world state.maps.items

-- no order goes on from where this is the state
abbrev pub Fails : (ℕ → ℕ) → List Event → List ℕ → List ℕ → State → Type 0
Fails hash history handles keys state =
    (ids : List ℕ) (taken : List Bool) (world : HandleMap) → LeadsTo hash history ids world → AreMarked history ids taken → IsState handles keys taken world state → NoneGoesOn hash history ids

-- Each state that is kept is one from which no order goes on.
pub record AreFailures (hash : ℕ → ℕ) (history : List Event) (failures : Failures) : Type 0 where
  pub over : IsOver history failures.handles.items failures.keys.items
  pub each : (i : ℕ) (state : State) → slice_get failures.states.items i ≡ Some state → Fails hash history failures.handles.items failures.keys.items state

pub record IsSameMap (a b : Named) : Type 0 where
  pub handle : a.handle ≡ b.handle
  pub access : a.access ≡ b.access
  pub values : a.values.items ≡ b.values.items

-- one by one the same
pub record AreSameMaps (a b : List Named) : Type 0 where
  pub size : length a ≡ length b
  pub each : (i : ℕ) (x y : Named) → slice_get a i ≡ Some x → slice_get b i ≡ Some y → IsSameMap x y

pub record IsSameState (a b : State) : Type 0 where
  pub low : a.low ≡ b.low
  pub ahead : a.ahead.items ≡ b.ahead.items
  pub maps : AreSameMaps a.maps.items b.maps.items

abbrev pub IsSameAsOne : List State → State → Type 0
IsSameAsOne states state = (i : ℕ) × (other : State) × (slice_get states i ≡ Some other) × IsSameState other state
