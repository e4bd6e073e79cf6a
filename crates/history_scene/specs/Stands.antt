-- How an operation stands in an order.
use Rattle.std.specs.Prelude.{◌≡◌, ◌≢◌, ◌↔◌, ℕ, ◌<◌, ◌≤◌, ◌-◌, min, Bool, true, false, IsTrue, List, Option, Some, None}
use Rattle.history.specs.declared.calls.Call.{Call}
use Rattle.history.specs.declared.calls.Call.TheVariants.{Clear, Snapshot, Freeze}
use Rattle.history.specs.declared.replies.Reply.{Reply}
use Rattle.history.specs.declared.replies.Reply.TheVariants.{NoSlots}
use Rattle.history.specs.declared.events.Event.{Event}
use Rattle.history.specs.Histories.{Operation, BeginsAt, EndsAt}
use Rattle.history.specs.Orders.{OrderedAt}
use Rattle.history.specs.Faults.{IsAmong}
use Rattle.history_scene.specs.declared.scenes.Stand.{Stand}

-- it is the operation's first place in the order
abbrev pub StandsFirst : List ℕ → ℕ → ℕ → Type 0
StandsFirst order id place = OrderedAt order place id × ((i : ℕ) → i < place → ¬ OrderedAt order i id)

-- It is the last event that begins one of the operations up to this place of the order.
pub record IsLatestBegin (history : List Event) (order : List ℕ) (place latest : ℕ) : Type 0 where
  pub begins : (i id : ℕ) × (operation : Operation) × (i ≤ place) × OrderedAt order i id × BeginsAt history latest id operation
  pub last : (i id at : ℕ) (operation : Operation) → i ≤ place → OrderedAt order i id → BeginsAt history at id operation → at ≤ latest

-- the event, but one before the operation's end
abbrev pub before_end : Option ℕ → ℕ → ℕ
before_end None event = event
before_end (Some end) event = min event (end - 1)

-- whether a call takes a copy of the map or empties it, by one swap of its root
abbrev pub swaps_root : Call → Bool
swaps_root (Clear h) = true
swaps_root (Snapshot h) = true
swaps_root (Freeze h) = true
swaps_root call = false

-- the operation is a snapshot, a freeze or a clear, and was answered by this event
abbrev pub IsSwapAnswered : List Event → ℕ → ℕ → Type 0
IsSwapAnswered history id end =
    ((begin : ℕ) × (operation : Operation) × BeginsAt history begin id operation × IsTrue (swaps_root operation.call))
    × ((answer : Reply) × EndsAt history end id answer × (answer ≢ NoSlots))

-- the operation stands at this place, before a snapshot, a freeze or a clear that was answered before it ended
abbrev pub IsLate : List Event → List ℕ → ℕ → ℕ → Type 0
IsLate history order place id =
    (i other end : ℕ) × (place < i) × OrderedAt order i other × IsSwapAnswered history other end
    × ((last : ℕ) (answer : Reply) → EndsAt history last id answer → end < last)

-- this is how the operation, which ends there, stands in the order
abbrev pub IsStand : List Event → List ℕ → ℕ → Option ℕ → Option Stand → Type 0
IsStand history order id end None = ¬ IsAmong order id
IsStand history order id end (Some stand) =
    StandsFirst order id stand.place
    × ((latest : ℕ) × IsLatestBegin history order stand.place latest × (stand.moment ≡ before_end end latest))
    × (IsTrue stand.is_late ↔ IsLate history order stand.place id)
