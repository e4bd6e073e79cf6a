-- Why an order isn't legal for a history: the first fault, going through the order from its front.
use Rattle.std.specs.Prelude.{◌≡◌, ◌≢◌, ℕ, ◌<◌, ◌≤◌, List, take, Option, Some, None, IsSome, slice_get}
use Rattle.std.specs.FinMap as map
use Rattle.history.specs.declared.calls.Access.{Access}
use Rattle.history.specs.declared.calls.Access.TheVariants.{Writable, ReadOnly}
use Rattle.history.specs.declared.calls.Call.{Call}
use Rattle.history.specs.declared.calls.Call.TheVariants.{Get, Close, Entries, Count}
use Rattle.history.specs.declared.replies.Reply.{Reply}
use Rattle.history.specs.declared.replies.Reply.TheVariants.{NoSlots}
use Rattle.history.specs.declared.events.Event.{Event}
use Rattle.history.specs.declared.events.Event.TheVariants.{Begin}
use Rattle.history.specs.declared.faults.Obstacle.{Obstacle}
use Rattle.history.specs.declared.faults.Obstacle.TheVariants.{NotOpen, NeedsWritable, NeedsReadOnly, OpenAlready}
use Rattle.history.specs.declared.faults.OrderFault.{OrderFault}
use Rattle.history.specs.declared.faults.OrderFault.TheVariants.{WrongEvent, NotBegun, StandsTwice, WasRefused, StandsBehind, NoEffect, OtherReply, Missing}
use Rattle.history.specs.Handles.{handle_of}
use Rattle.history.specs.Worlds.{KeyMap, HandleMap}
use Rattle.history.specs.Effects.{effect}
use Rattle.history.specs.Histories.{Operation, BeginsAt, HasBegun, HasEnded, MayFollow, IsWellFormed}
use Rattle.history.specs.Orders.{OrderedAt, IsBefore, IsLegal}
use Rattle.history.specs.Beginnings.{LeadsTo}

-- what the handle must be: get and close take any; what changes or copies the map needs a writable one
abbrev pub needed_access : Call → Option Access
needed_access (Get h k) = None
needed_access (Close h) = None
needed_access (Entries h) = Some ReadOnly
needed_access (Count h) = Some ReadOnly
needed_access call = Some Writable

-- the handle names a map of this kind
abbrev pub IsOfKind : HandleMap → ℕ → Access → Type 0
IsOfKind world h access = (m : KeyMap) × (map.get world h ≡ Some (record { access = access; pairs = m }))

-- the world stands in the way of the call in this way
abbrev pub Hinders : HandleMap → Call → Option ℕ → Obstacle → Type 0
Hinders world call opens (NotOpen h) = (h ≡ handle_of call) × (map.get world h ≡ None)
Hinders world call opens (NeedsWritable h) = (h ≡ handle_of call) × (needed_access call ≡ Some Writable) × IsOfKind world h ReadOnly
Hinders world call opens (NeedsReadOnly h) = (h ≡ handle_of call) × (needed_access call ≡ Some ReadOnly) × IsOfKind world h Writable
Hinders world call opens (OpenAlready n) = (opens ≡ Some n) × IsOfKind world (handle_of call) Writable × IsSome (map.get world n)

-- the operation stands among these
abbrev pub IsAmong : List ℕ → ℕ → Type 0
IsAmong ids id = (i : ℕ) × OrderedAt ids i id

-- The operation stands among these, and none of them began later.
pub record BeganLast (history : List Event) (ids : List ℕ) (id : ℕ) : Type 0 where
  pub among : IsAmong ids id
  pub last : (i other p q : ℕ) (one two : Operation) → OrderedAt ids i other → BeginsAt history p id one → BeginsAt history q other two → q ≤ p

-- The operation doesn't stand among these, wasn't refused, and hadn't ended before one of them began.
pub record IsInTime (history : List Event) (ids : List ℕ) (id : ℕ) : Type 0 where
  pub is_new : ¬ IsAmong ids id
  pub not_refused : ¬ HasEnded history id NoSlots
  pub on_time : (i other : ℕ) → OrderedAt ids i other → ¬ IsBefore history id other

-- the operation begins with this call, and opens this handle
abbrev pub Calls : List Event → ℕ → Call → Option ℕ → Type 0
Calls history id call opens = (place actor : ℕ) × (slice_get history place ≡ Some (Begin id actor call opens))

-- The operation may not stand behind these, which lead to this world, and this is why. Where there are more
-- reasons, it is the first in this list.
abbrev pub IsWrongBehind : (ℕ → ℕ) → List Event → List ℕ → ℕ → HandleMap → OrderFault → Type 0
IsWrongBehind hash history ids id world (NotBegun x) = (x ≡ id) × ¬ HasBegun history id
IsWrongBehind hash history ids id world (StandsTwice x) = (x ≡ id) × IsAmong ids id
IsWrongBehind hash history ids id world (WasRefused x) = (x ≡ id) × ¬ IsAmong ids id × HasEnded history id NoSlots
IsWrongBehind hash history ids id world (StandsBehind x other) =
    (x ≡ id) × ¬ IsAmong ids id × ¬ HasEnded history id NoSlots × IsBefore history id other × BeganLast history ids other
IsWrongBehind hash history ids id world (NoEffect x obstacle) =
    (x ≡ id) × IsInTime history ids id
    × ((call : Call) × (opens : Option ℕ) × Calls history id call opens × (effect hash world call opens ≡ None) × Hinders world call opens obstacle)
IsWrongBehind hash history ids id world (OtherReply x call recorded given) =
    (x ≡ id) × IsInTime history ids id × HasEnded history id recorded × (given ≢ recorded)
    × ((opens : Option ℕ) × (next : HandleMap) × Calls history id call opens × (effect hash world call opens ≡ Some (given, next)))
IsWrongBehind hash history ids id world fault = ⊥

-- the event at this place is the first that may not come after those before it
abbrev pub IsFirstWrong : List Event → ℕ → Type 0
IsFirstWrong history place =
    IsWellFormed (take place history) × ((event : Event) × (slice_get history place ≡ Some event) × ¬ MayFollow (take place history) event)

-- the operation was answered and doesn't stand in the order
abbrev pub IsMissing : List Event → List ℕ → ℕ → Type 0
IsMissing history order id = ((answer : Reply) × HasEnded history id answer × (answer ≢ NoSlots)) × ¬ IsAmong order id

-- it is the one that began first
abbrev pub IsFirstMissing : List Event → List ℕ → ℕ → Type 0
IsFirstMissing history order id = IsMissing history order id × ((other : ℕ) → other < id → ¬ IsMissing history order other)

-- The order's first fault: an event that may not come there; else an operation that may not stand behind those
-- before it, which have no fault and lead to a world; else an operation that is missing.
abbrev pub IsFirstFault : (ℕ → ℕ) → List Event → List ℕ → OrderFault → Type 0
IsFirstFault hash history order (WrongEvent place) = IsFirstWrong history place
IsFirstFault hash history order (Missing id) = IsWellFormed history × ((world : HandleMap) × LeadsTo hash history order world) × IsFirstMissing history order id
IsFirstFault hash history order fault =
    IsWellFormed history
    × ((place id : ℕ) × (world : HandleMap) × OrderedAt order place id × LeadsTo hash history (take place order) world
    × IsWrongBehind hash history (take place order) id world fault)

-- the order's first fault; or it has none, and is legal
abbrev pub Judges : (ℕ → ℕ) → List Event → List ℕ → Option OrderFault → Type 0
Judges hash history order None = IsLegal hash history order
Judges hash history order (Some fault) = IsFirstFault hash history order fault
