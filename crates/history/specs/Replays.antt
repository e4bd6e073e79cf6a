-- The beginning of an order, replayed.
use Rattle.std.specs.Prelude.{◌≡◌, ◌≢◌, ℕ, ◌<◌, ◌≤◌, Bool, true, false, ◌⊎◌, List, [], ◌∷◌, ◌++◌, length, Option, Some, None, slice_get, option_and_then, IfSome, IsSome, IsSomeAnd}
use Rattle.history.specs.declared.replies.Reply.{Reply}
use Rattle.history.specs.declared.replies.Reply.TheVariants.{NoSlots}
use Rattle.history.specs.declared.events.Event.{Event}
use Rattle.history.specs.declared.events.Event.TheVariants.{Begin, End}
use Rattle.history.specs.declared.faults.OrderFault.{OrderFault}
use Rattle.history.specs.declared.tables.Row.{Row}
use Rattle.history.specs.declared.tables.Table.{Table}
use Rattle.history.specs.declared.orders.Replay.{Replay}
use Rattle.history.specs.Worlds.{HandleMap}
use Rattle.history.specs.Histories.{Operation, BeginsAt, begun}
use Rattle.history.specs.Orders.{OrderedAt}
use Rattle.history.specs.Tables.{recorded}
use Rattle.history.specs.Beginnings.{MayStand}
use Rattle.history.specs.Faults.{IsInTime, IsWrongBehind}

-- the operations that stand among these ids are marked, and the latest place where one of them begins is known
pub record Marks (history : List Event) (ids : List ℕ) (taken : List Bool) (latest : ℕ) : Type 0 where
  pub size : length taken ≡ begun history
  pub marked : (id : ℕ) → slice_get taken id ≡ Some true → (i : ℕ) × OrderedAt ids i id
  pub unmarked : (id : ℕ) → slice_get taken id ≡ Some false → (i : ℕ) → ¬ OrderedAt ids i id
  pub above : (i id place : ℕ) (operation : Operation) → OrderedAt ids i id → BeginsAt history place id operation → place ≤ latest
  pub met : (latest ≡ 0) ⊎ ((i id : ℕ) × (operation : Operation) × OrderedAt ids i id × BeginsAt history latest id operation)

-- what is wrong with the operation; or nothing, and then it may stand next, and does
abbrev pub Takes : Option OrderFault → (ℕ → ℕ) → List Event → List ℕ → ℕ → HandleMap → Replay → Type 0
Takes None hash history ids id world replay =
    MayStand hash history ids id world replay.world × Marks history (ids ++ id ∷ []) replay.taken.items replay.latest
Takes (Some fault) hash history ids id world replay = IsWrongBehind hash history ids id world fault

-- where the operation may not stand behind these whatever the world, and why; or nothing stands in its way
abbrev pub Places : Option OrderFault → List Event → List ℕ → ℕ → Type 0
Places None history ids id = IsInTime history ids id
Places (Some fault) history ids id = (hash : ℕ → ℕ) (world : HandleMap) → IsWrongBehind hash history ids id world fault

-- the operation that begins at this place, if one does
abbrev pub begun_in : Event → Option ℕ
begun_in (Begin id actor call opens) = Some id
begun_in (End id answer) = None

abbrev pub begun_at : List Event → ℕ → Option ℕ
begun_at history place = option_and_then begun_in (slice_get history place)

-- the operation that begins at the latest place, where an end comes before it
abbrev pub Trails : Option ℕ → List Event → Option ℕ → ℕ → Type 0
Trails None history end latest = IsSome (begun_at history latest) → ¬ IsSomeAnd end (λ place. place < latest)
Trails (Some other) history end latest = IsSomeAnd end (λ place. place < latest) × (begun_at history latest ≡ Some other)

-- the reply is the one that is told, if one is
abbrev pub Agrees : Option Reply → Reply → Type 0
Agrees told reply = IfSome told (λ answer. reply ≡ answer)

-- the reply that is told and isn't this, if there is one
abbrev pub Differs : Option Reply → Option Reply → Reply → Type 0
Differs None told reply = Agrees told reply
Differs (Some other) told reply = (told ≡ Some other) × (reply ≢ other)

-- a reply other than that no slot was free
abbrev pub IsAnswer : Option Reply → Type 0
IsAnswer reply = IsSomeAnd reply (λ answer. answer ≢ NoSlots)

-- the operation has an answer and is unmarked
abbrev pub IsUnmarked : List Event → Table → List Bool → ℕ → Type 0
IsUnmarked history table taken id =
    (row : Row) × (slice_get table.rows.items id ≡ Some row) × (slice_get taken id ≡ Some false) × IsAnswer (recorded history row.end)

-- the first of these, if there is one
abbrev pub FindsUnmarked : List Event → Table → List Bool → Option ℕ → Type 0
FindsUnmarked history table taken None = (id : ℕ) → ¬ IsUnmarked history table taken id
FindsUnmarked history table taken (Some id) = IsUnmarked history table taken id × ((other : ℕ) → other < id → ¬ IsUnmarked history table taken other)
