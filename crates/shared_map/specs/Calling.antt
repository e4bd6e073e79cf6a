-- What a call makes of a seat at a shared map.
use Rattle.std.specs.Prelude.{◌≡◌, ◌≤◌, ◌<◌, ◌↔◌, ℕ, Bool, IsTrue, List, length, Result, Ok, Err}
use Rattle.std.specs.Global.{Vec}
use Rattle.ctrie_map.specs.declared.errors.MapError.{MapError}
use Rattle.gate.specs.Calls.{HasHeard, IsCalled}
use Rattle.sharded_gate.specs.declared.gates.ShardCount.{ShardCount}
use Rattle.sharded_gate.specs.Shards.{calls_about, is_about}
use Rattle.shared_map.specs.declared.asks.Ask.{Ask}
use Rattle.shared_map.specs.Answering.{AnswersAll, MapAnswers}
use Rattle.shared_map.specs.Asks.{Told, about, asking}
use Rattle.shared_map.specs.Seats.{IsSeatOf, MapRoom, MapSeat}
use Rattle.shared_map.specs.Shards.{AreShards}

-- The seat asked the map this, and was told that. Its log has one entry more, this call's. What it found were as many shards of one map, and so is what it left; what
-- it was told is the map's answer there. The shard whose calls it counts then is one that this was about.
pub record HasAsked (map : MapRoom) (before : MapSeat) (ask : Ask) (told : Told) (after : MapSeat) : Type 0 where
  pub called : IsCalled MapAnswers before.seat (asking map.hash ask) told after.seat
  pub found : AreShards map.hash called.board.object
  pub many : length called.board.object ≡ length map.room.first
  pub answered : AnswersAll map.hash called.board.object ask told after.seat.seen.object
  pub left : AreShards map.hash after.seat.seen.object
  pub counts : IsTrue (is_about (about (length map.room.first) (asking map.hash ask)) after.shard)
  pub keeps : IsSeatOf map after

-- The seat has seen all calls once more, and this tells whether there is such a shard, and so many calls about it are among them. It counts the calls about that shard then.
pub record HasHeardOf (map : MapRoom) (before : MapSeat) (count : ShardCount) (told : Bool) (after : MapSeat) : Type 0 where
  pub heard : HasHeard MapAnswers before.seat after.seat
  pub answered :
      IsTrue told ↔ (count.shard < length map.room.first) × (count.calls ≤ length (calls_about (about (length map.room.first)) count.shard after.seat.seen.log))
  pub counts : count.shard < length map.room.first → after.shard ≡ count.shard
  pub found : AreShards map.hash after.seat.seen.object
  pub keeps : IsSeatOf map after

-- ---- the calls by their names

-- The seat asked the map this: its log has one entry more, with what it was told; this is the result.
abbrev pub Tells : {A : Type 0} → (Told → A) → MapRoom → MapSeat → Ask → A → MapSeat → Type 0
Tells says map before ask result after = (told : Told) × (result ≡ says told) × HasAsked map before ask told after

-- these are the pairs
abbrev pub AreListed : Result (List (ℕ × ℕ)) MapError → Result (Vec (ℕ × ℕ)) MapError → Type 0
AreListed listed (Ok pairs) = listed ≡ Ok pairs.items
AreListed listed (Err error) = listed ≡ Err error

-- the same where the result is a vector
abbrev pub Lists : (Told → Result (List (ℕ × ℕ)) MapError) → MapRoom → MapSeat → Ask → Result (Vec (ℕ × ℕ)) MapError → MapSeat → Type 0
Lists says map before ask result after = (told : Told) × AreListed (says told) result × HasAsked map before ask told after
