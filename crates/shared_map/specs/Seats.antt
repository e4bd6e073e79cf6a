-- What contracts see of a shared map and of its seats.
use Rattle.std.specs.Prelude.{◌≡◌, ◌<◌, List, [], All, length}
use Rattle.shared_map.specs.Vocabulary.{HashKind, Fold}
use Rattle.ctrie_map.specs.Maps.{MapState}
use Rattle.gate.specs.Naming.{no_gate}
use Rattle.gate.specs.Seats as gates
use Rattle.sharded_gate.specs.Seats.{ShardSeated}
use Rattle.shared_map.specs.declared.asks.Request.{Request}
use Rattle.shared_map.specs.Asks.{Told}
use Rattle.shared_map.specs.Shards.{AreShards}

-- the hash of its keys; and the gate, with the shards as they were first
pub record MapRoom : Type 0 where
  pub hash : HashKind
  pub room : gates.Room (List MapState)

-- for what a name stands where nobody picked a map
abbrev pub no_map : MapRoom
no_map = record { hash = Fold; room = record { id = no_gate; first = []; seats = 0 } }

-- a seat, with the shards and the log as it saw them last; and the shard whose calls it counts
abbrev pub MapSeat : Type 0
MapSeat = ShardSeated MapState Request Told

-- The seat is one of this map's. The log that it sees begins with the map's first shards, which are those of one map, and it counts the calls about one of them.
pub record IsSeatOf (map : MapRoom) (seat : MapSeat) : Type 0 where
  pub gate : gates.IsSeatOf map.room seat.seat
  pub first : seat.seat.seen.first ≡ map.room.first
  pub shards : AreShards map.hash map.room.first
  pub slots : map.room.id.slots ≡ length map.room.first
  pub within : seat.shard < length map.room.first

-- each of these is
abbrev pub AreSeatsOf : MapRoom → List MapSeat → Type 0
AreSeatsOf map seats = All (λ seat. IsSeatOf map seat) seats
