-- What the log of a shared map comes to.
use Rattle.std.specs.Prelude.{◌≡◌, ℕ, ◌≤◌, List, [], ◌∷◌, length, Some, slice_get}
use Rattle.std.specs.FinMap as map
use Rattle.shared_map.specs.Vocabulary.{HashKind, Call, first_world}
use Rattle.gate.specs.Logs.{Logged, IsLegal}
use Rattle.ctrie_map.specs.Calling.{Calls}
use Rattle.ctrie_map.specs.Costs.{WorksUpTo, work_of_call}
use Rattle.ctrie_map.specs.Maps.{MapState, handles_of}
use Rattle.shared_map.specs.declared.asks.Request.{Request}
use Rattle.shared_map.specs.Answering.{MapAnswers, RepliesAll}
use Rattle.shared_map.specs.Asking.{TellsFull}
use Rattle.shared_map.specs.Asks.{Replied, Told, place_of}
use Rattle.shared_map.specs.Opening.{AreNewMaps}
use Rattle.shared_map.specs.Replaying.{Replays}
use Rattle.shared_map.specs.Shards.{AreShards, world_of_all}
use Rattle.shared_map.specs.Uniting.{kind_of, value_at}

-- a shared map with its log, as a seat saw them
abbrev pub MapLog : Type 0
MapLog = Logged (List MapState) Request Told

-- what a seat sees replays on finite maps, from the first world to the one that it sees, and these are the shards of one map still
abbrev pub CallsReplay : Type 0
CallsReplay =
    (hash : HashKind) (seen : MapLog) → AreShards hash seen.first → IsLegal MapAnswers seen →
    Replays hash (length seen.first) (world_of_all seen.first) seen.log (world_of_all seen.object) × AreShards hash seen.object

-- New shards are, as one map, a new one: handle 0 is open, writable and empty.
abbrev pub NewShardsAreEmpty : Type 0
NewShardsAreEmpty = (slots : ℕ) (hash : HashKind) (shards : ℕ) (maps : List MapState) → 1 ≤ shards → AreNewMaps slots hash shards maps → world_of_all maps ≡ first_world

-- Of shards of one map a handle is open in the whole just as in each, of the same kind; and a key has in the whole what it has in the shard of its place.
abbrev pub ShardsMakeTheMap : Type 0
ShardsMakeTheMap =
    (hash : HashKind) (shards : List MapState) → AreShards hash shards → (i : ℕ) (shard : MapState) → slice_get shards i ≡ Some shard → (handle : ℕ) →
    (kind_of (map.get (world_of_all shards) handle) ≡ kind_of (map.get (handles_of shard) handle))
    × ((key : ℕ) → place_of hash (length shards) key ≡ i → value_at (world_of_all shards) handle key ≡ value_at (handles_of shard) handle key)

-- In one shard the world of the whole is the map's own, and what is told of a call, and becomes of the shards, is what `Map` alone does; it is told that no slot is free
-- where it is full for the call.
abbrev pub OneShardIsAMap : Type 0
OneShardIsAMap =
    (map : MapState) → (world_of_all (map ∷ []) ≡ handles_of map)
    × ((call : Call) (told : Replied) (after : List MapState) → RepliesAll map.core.limits.hash (map ∷ []) call told after →
    (later : MapState) × (after ≡ later ∷ []) × Calls told map call later × TellsFull map call told × WorksUpTo (work_of_call call) map later)
