-- The places of operations in the beginning of an order, and what is known behind a place of it.
use Rattle.std.specs.Prelude.{◌≡◌, ℕ, ◌<◌, ◌≤◌, min, Bool, true, false, ◌⊎◌, IsTrue, ◌↔◌, List, Option, Some, None, nat_lt, slice_get, slice_set, unwrap_or}
use Rattle.history.specs.declared.replies.Reply.{Reply}
use Rattle.history.specs.declared.replies.Reply.TheVariants.{NoSlots}
use Rattle.history.specs.declared.events.Event.{Event}
use Rattle.history.specs.declared.tables.Row.{Row}
use Rattle.history.specs.Histories.{Operation, BeginsAt, HasBegun}
use Rattle.history.specs.Orders.{OrderedAt}
use Rattle.history.specs.Tables.{recorded}
use Rattle.history_scene.specs.declared.stands.Place.{Place}
use Rattle.history_scene.specs.declared.scenes.Stand.{Stand}
use Rattle.history_scene.specs.Stands.{StandsFirst, IsLatestBegin, IsSwapAnswered, IsLate, swaps_root, before_end}

-- where the operation stands in the first so many places of the order, if it does
abbrev pub IsPlaced : List Event → List ℕ → ℕ → ℕ → Option Place → Type 0
IsPlaced history order n id None = (i : ℕ) → i < n → ¬ OrderedAt order i id
IsPlaced history order n id (Some p) = (p.place < n) × StandsFirst order id p.place × IsLatestBegin history order p.place p.latest

-- the same of each
abbrev pub ArePlaced : List Event → List ℕ → ℕ → List (Option Place) → Type 0
ArePlaced history order n places = (id : ℕ) (place : Option Place) → slice_get places id ≡ Some place → IsPlaced history order n id place

-- The last event that begins one of the first so many operations of the order, or 0.
pub record IsLatestOf (history : List Event) (order : List ℕ) (n latest : ℕ) : Type 0 where
  pub above : (i id at : ℕ) (operation : Operation) → i < n → OrderedAt order i id → BeginsAt history at id operation → at ≤ latest
  pub met : (latest ≡ 0) ⊎ ((i id : ℕ) × (operation : Operation) × (i < n) × OrderedAt order i id × BeginsAt history latest id operation)

-- a place that is noted where there is none yet
abbrev pub noted_at : Option (Option Place) → List (Option Place) → ℕ → Place → List (Option Place)
noted_at (Some None) places id place = slice_set places id (Some place)
noted_at other places id place = places

abbrev pub noted : List (Option Place) → ℕ → Place → List (Option Place)
noted places id place = noted_at (slice_get places id) places id place

-- the first answer of a snapshot, a freeze or a clear that stands at this place of the order or behind it
abbrev pub IsEarliest : List Event → List ℕ → ℕ → Option ℕ → Type 0
IsEarliest history order n None = (i id end : ℕ) → n ≤ i → OrderedAt order i id → ¬ IsSwapAnswered history id end
IsEarliest history order n (Some first) =
    ((i id : ℕ) × (n ≤ i) × OrderedAt order i id × IsSwapAnswered history id first)
    × ((i id end : ℕ) → n ≤ i → OrderedAt order i id → IsSwapAnswered history id end → first ≤ end)

-- from this place of the order on it is known which operations are late
abbrev pub AreLate : List Event → List ℕ → ℕ → List Bool → Type 0
AreLate history order n late =
    (place id : ℕ) (is_late : Bool) → n ≤ place → OrderedAt order place id → HasBegun history id → slice_get late place ≡ Some is_late
    → IsTrue is_late ↔ IsLate history order place id

-- whether an end, if there is one, is behind the earliest, if there is one
abbrev pub is_behind : Option ℕ → Option ℕ → Bool
is_behind None end = false
is_behind (Some first) None = true
is_behind (Some first) (Some end) = nat_lt first end

-- the earlier of the two, if there are any
abbrev pub earlier : Option ℕ → Option ℕ → Option ℕ
earlier None other = other
earlier (Some first) None = Some first
earlier (Some first) (Some other) = Some (min first other)

-- where an operation with this row ends, if it is a snapshot, a freeze or a clear and was answered
abbrev pub end_of_answered : Option Reply → Option ℕ → Option ℕ
end_of_answered None end = None
end_of_answered (Some NoSlots) end = None
end_of_answered (Some answer) end = end

abbrev pub end_of_swap : Bool → Option Reply → Option ℕ → Option ℕ
end_of_swap false answer end = None
end_of_swap true answer end = end_of_answered answer end

abbrev pub swap_end : List Event → Row → Option ℕ
swap_end history row = end_of_swap (swaps_root row.call) (recorded history row.end) row.end

-- how an operation stands in the order, by its place, the lateness of all places, and its end
abbrev pub stand_of : Option Place → List Bool → Option ℕ → Option Stand
stand_of None late end = None
stand_of (Some p) late end = Some (record { place = p.place; moment = before_end end p.latest; is_late = unwrap_or (slice_get late p.place) false })
