-- What is counted of all shards.
use Rattle.std.specs.Prelude.{◌≡◌, ℕ, ◌+◌, ◌-◌, ◌^◌, ◌<◌, min, length}
use Rattle.std.specs.FinMap as map
use Rattle.ctrie_map.specs.Maps.{MapState, free_of, handles_of}
use Rattle.shared_map.specs.declared.reading.Counting.{Counting}
use Rattle.shared_map.specs.declared.reading.Freeing.{Freeing}
use Rattle.shared_map.specs.Uniting.{pairs_of}

-- how many keys of the handle the shard has
abbrev pub keys_at : ℕ → MapState → ℕ
keys_at handle shard = length (pairs_of (map.get (handles_of shard) handle))

abbrev pub Counts : Counting → MapState → Counting → MapState → Type 0
Counts before shard after later =
    (later ≡ shard) × (after.handle ≡ before.handle)
    × (after.keys ≡ min (before.keys + keys_at before.handle shard) (2 ^ 64 - 1)) × (keys_at before.handle shard < 2 ^ 32)

abbrev pub Frees : Freeing → MapState → Freeing → MapState → Type 0
Frees before shard after later = (later ≡ shard) × (after.slots ≡ min (before.slots + free_of shard) (2 ^ 64 - 1)) × (free_of shard < 2 ^ 32)
