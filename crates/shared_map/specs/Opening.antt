-- Shared maps as they are made.
use Rattle.std.specs.Prelude.{◌≡◌, ◌⊎◌, ℕ, ◌≤◌, List, [], ◌∷◌, length}
use Rattle.shared_map.specs.Vocabulary.{HashKind}
use Rattle.ctrie_map.specs.Maps.{AreSlots, IsNew, MapState}
use Rattle.ctrie_map.specs.declared.errors.MapError.{MapError}
use Rattle.ctrie_map.specs.declared.errors.MapError.TheVariants.{BadSizes, Memory}
use Rattle.sharded_gate.specs.Opening.{AreMade}
use Rattle.shared_map.specs.Seats.{MapRoom, MapSeat}

abbrev pub AreNew : ℕ → HashKind → List MapState → Type 0
AreNew slots hash [] = Unit {0}
AreNew slots hash (m ∷ ms) = IsNew slots hash m × AreNew slots hash ms

-- so many new maps, each with so many slots
abbrev pub AreNewMaps : ℕ → HashKind → ℕ → List MapState → Type 0
AreNewMaps slots hash shards maps = AreNew slots hash maps × (length maps ≡ shards)

abbrev pub AreShardNumbers : ℕ → Type 0
AreShardNumbers shards = (1 ≤ shards) × (shards ≤ 64)

-- new maps are behind the gate, and so many seats are here
abbrev pub IsNewShared : ℕ → HashKind → ℕ → ℕ → MapRoom → List MapSeat → Type 0
IsNewShared slots hash shards seats shared made =
    AreNewMaps slots hash shards shared.room.first × (shared.hash ≡ hash) × AreMade shared.room.first seats shared.room made

-- these shards of one map with this hash are behind the gate, and so many seats are here
abbrev pub SharesAll : HashKind → List MapState → ℕ → MapRoom → List MapSeat → Type 0
SharesAll hash shards seats shared made = (shared.hash ≡ hash) × AreMade shards seats shared.room made

-- this map is, in one shard
abbrev pub Shares : MapState → ℕ → MapRoom → List MapSeat → Type 0
Shares map seats shared made = SharesAll map.core.limits.hash (map ∷ []) seats shared made

-- why there is none
abbrev pub RefusesNew : ℕ → ℕ → MapError → Type 0
RefusesNew slots shards error = ((¬ AreSlots slots ⊎ ¬ AreShardNumbers shards) × (error ≡ BadSizes)) ⊎ (AreSlots slots × AreShardNumbers shards × (error ≡ Memory))
