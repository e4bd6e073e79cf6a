-- A visit of one shard, where a seat has all of them.
use Rattle.std.specs.Prelude.{◌≡◌, ℕ, List, slice_get, slice_set, Some}

-- the visitor and the shard have become these, and the other shards have stayed
abbrev pub HasVisited : {V O : Type 0} → (V → O → V → O → Type 0) → ℕ → V → V → List O → List O → Type 0
HasVisited {V} {O} does shard before after shards later = (was now : O) × (slice_get shards shard ≡ Some was) × does before was after now × (later ≡ slice_set shards shard now)
