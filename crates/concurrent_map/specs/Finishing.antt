-- The end of a map: one order of all calls.
use Rattle.std.specs.Prelude.{◌≡◌, ℕ, List, All}
use Rattle.ctrie_base.specs.Hashes.{hash_of}
use Rattle.history.specs.declared.events.Event.{Event}
use Rattle.history.specs.Orders.{Explains}
use Rattle.history.specs.Worlds.{HandleMap}
use Rattle.lock_free.specs.Answers.{talk_of}
use Rattle.lock_free.specs.Naming.{MapId}
use Rattle.lock_free.specs.Telling.{GoesOn}
use Rattle.concurrent_map.specs.Seats.{SeatState}

-- There is one history that begins with what each of these seats has seen, in which nothing more was called by it; and there is one order of the calls in it that finite
-- maps explain, in which a call that was answered before another one began comes first.
pub record AreInOneOrder (map : MapId) (seats : List SeatState) : Type 0 where
  pub history : List Event
  pub seen : All (λ s. GoesOn s.history history) seats
  pub own : All (λ s. talk_of s.number history ≡ talk_of s.number s.history) seats
  pub order : List ℕ
  pub world : HandleMap
  pub explains : Explains (hash_of map.sizes.hash) history order world
