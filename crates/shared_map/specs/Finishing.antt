-- The end of a shared map: what all its seats' calls come to.
use Rattle.std.specs.Prelude.{◌≡◌, ℕ, List, length, Some, slice_get}
use Rattle.gate.specs.Finishing.{IsGathered}
use Rattle.gate.specs.Logs.{calls_of}
use Rattle.gate.specs.Seats.{Seated}
use Rattle.ctrie_map.specs.Maps.{MapState}
use Rattle.shared_map.specs.declared.asks.Request.{Request}
use Rattle.shared_map.specs.Answering.{MapAnswers}
use Rattle.shared_map.specs.Asks.{Told}
use Rattle.shared_map.specs.Replaying.{Replays}
use Rattle.shared_map.specs.Seats.{MapRoom}
use Rattle.shared_map.specs.Shards.{AreShards, world_of_all}

-- The log of all calls, of the seats of the shared map alone, replays on finite maps, from the first world to that of the shards that come out, and each seat's calls
-- stand in it in the seat's own order, with what it was told. As many shards come out as there were.
pub record AreInOneOrder {S : Type 0} (of : S → Seated (List MapState) Request Told) (shared : MapRoom) (seats : List S) (made : List MapState) : Type 0 where
  pub gathered : IsGathered MapAnswers of shared.room seats made
  pub replays : Replays shared.hash (length shared.room.first) (world_of_all shared.room.first) gathered.last.log (world_of_all made)
  pub own : (k : ℕ) (s : S) → slice_get seats k ≡ Some s → calls_of (of s).number gathered.last.log ≡ calls_of (of s).number (of s).seen.log
  pub shards : AreShards shared.hash made
  pub many : length made ≡ length shared.room.first
