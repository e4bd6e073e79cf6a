-- What a map does as one shard of several, which all have the same handles.
use Rattle.std.specs.Prelude.{◌≡◌, ◌≢◌, ◌&&◌, ℕ, Bool, false, nat_eq, nat_lt, length, Result, Err}
use Rattle.std.specs.FinMap as map
use Rattle.ctrie_map.specs.Vocabulary.{Access, Call, Clear, Snapshot, Freeze, Reply}
use Rattle.ctrie_map.specs.declared.errors.MapError.{MapError}
use Rattle.ctrie_map.specs.declared.errors.MapError.TheVariants.{HandlesFull}
use Rattle.ctrie_map.specs.Beneath.proof_obstruction_free.specs.Slots.{most_steps_of_copies}
use Rattle.ctrie_map.specs.Maps.{MapState, free_of, handles_of}
use Rattle.ctrie_map.specs.Performing.{PerformsBy, copy_call}

-- what a copy under this number comes to, where it is free: so there is a handle for it
abbrev pub PerformsUnder : ℕ → Result Reply MapError → MapState → Access → ℕ → MapState → Type 0
PerformsUnder number told before access handle after = PerformsBy (λ copy. copy ≡ number) told before (copy_call access handle) after × (told ≢ Err HandlesFull)

-- A call about all shards may have no slots in this one: a copy, just where none is free; a clear, where other handles are open and fewer are left than it may take.
abbrev pub may_lack_slots : Call → MapState → Bool
may_lack_slots (Clear h) shard = nat_lt 1 (map.len (handles_of shard)) && nat_lt (length shard.core.heap.free) most_steps_of_copies
may_lack_slots (Snapshot h) shard = nat_eq (free_of shard) 0
may_lack_slots (Freeze h) shard = nat_eq (free_of shard) 0
may_lack_slots call shard = false
