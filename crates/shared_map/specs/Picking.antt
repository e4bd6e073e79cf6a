-- Any one key of all shards with its value.
use Rattle.std.specs.Prelude.{◌≡◌, ℕ, List, [], Option, Some, None, slice_get}
use Rattle.std.specs.FinMap as map
use Rattle.shared_map.specs.Vocabulary.{KeyMap}
use Rattle.ctrie_map.specs.Maps.{MapState, handles_of}
use Rattle.ctrie_map.specs.Reading.{IsOneOf}
use Rattle.shared_map.specs.declared.picking.Picking.{Picking}
use Rattle.shared_map.specs.Shards.{worlds_of}
use Rattle.shared_map.specs.Turning.{map_shown}
use Rattle.shared_map.specs.Uniting.{pairs_at, value_at}

-- what is found with this map: what was found before, or else any one of its keys
abbrev pub IsFoundWith : KeyMap → Option (ℕ × ℕ) → Option (ℕ × ℕ) → Type 0
IsFoundWith m (Some pair) found = found ≡ Some pair
IsFoundWith m None found = IsOneOf m found

abbrev pub Picks : Picking → MapState → Picking → MapState → Type 0
Picks before shard after later =
    (later ≡ shard) × (after.handle ≡ before.handle) × IsFoundWith (map_shown (map.get (handles_of shard) before.handle)) before.found after.found

-- one of the handle's keys in some shard, with its value; and none exactly where there are none in all
abbrev pub IsPicked : ℕ → List MapState → Option (ℕ × ℕ) → Type 0
IsPicked handle shards None = pairs_at handle (worlds_of shards) ≡ []
IsPicked handle shards (Some pair) =
    (i : ℕ) × (s : MapState) × (slice_get shards i ≡ Some s) × (value_at (handles_of s) handle pair.0 ≡ Some pair.1)
