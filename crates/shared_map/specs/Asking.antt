-- What shards are asked before all of them are changed.
use Rattle.std.specs.Prelude.{◌≡◌, ◌&&◌, ◌||◌, ℕ, Bool, true, false, not, nat_le, if◌then◌else◌, Option, Some, None, Result, Ok, Err}
use Rattle.std.specs.FinMap as map
use Rattle.shared_map.specs.Vocabulary.{Call, handle_limit}
use Rattle.history.specs.declared.replies.Reply.TheVariants as reply
use Rattle.ctrie_map.specs.Calling.{Calls}
use Rattle.ctrie_map.specs.Changes.{IsFullFor}
use Rattle.ctrie_map.specs.Cores.{is_worn_out}
use Rattle.ctrie_map.specs.Costs.{WorksUpTo, work_of_call}
use Rattle.ctrie_map.specs.declared.errors.MapError.{MapError}
use Rattle.ctrie_map.specs.declared.errors.MapError.TheVariants.{HandlesFull, ReadOnly}
use Rattle.ctrie_map.specs.Maps.{MapState, handles_of}
use Rattle.ctrie_map.specs.Names.{IsNext}
use Rattle.ctrie_map.specs.Reading.{writability}
use Rattle.ctrie_map.specs.Restoring.{is_worn_out_to_restore}
use Rattle.ctrie_map.specs.Sharding.{may_lack_slots}
use Rattle.shared_map.specs.Asks.{Replied}
use Rattle.shared_map.specs.declared.asking.Calling.{Calling}
use Rattle.shared_map.specs.declared.asking.Knowing.{Knowing}
use Rattle.shared_map.specs.declared.asking.Measuring.{Measuring}

-- the number that the next copy of the shard gets, if there is one
abbrev pub IsNumber : MapState → Option ℕ → Type 0
IsNumber shard (Some number) = IsNext shard.names.last (handles_of shard) number
IsNumber shard None = map.len (handles_of shard) ≡ handle_limit

-- this is known of a shard
pub record IsKnown (known : Knowing) (shard : MapState) : Type 0 where
  pub hash : known.hash ≡ shard.core.limits.hash
  pub handles : known.handles ≡ map.len (handles_of shard)
  pub writable : known.writable ≡ writability shard known.handle
  pub next : IsNumber shard known.next

abbrev pub Knows : Knowing → MapState → Knowing → MapState → Type 0
Knows before shard after later = (later ≡ shard) × (after.handle ≡ before.handle) × IsKnown after shard

-- why a call isn't begun which changes the handle's map, or opens a handle: by what is known of the handle, where so many are open
abbrev pub denial_from : Bool → Bool → Result Bool MapError → ℕ → Option MapError
denial_from writes opens (Err error) taken = Some error
denial_from writes opens (Ok writable) taken =
    if writes && not writable then Some ReadOnly else (if opens && nat_le handle_limit taken then Some HandlesFull else None)

-- it has no more steps left than a change may take, or a restore, and a call behind it
abbrev pub is_worn_out_for : Bool → MapState → Bool
is_worn_out_for true shard = is_worn_out_to_restore shard
is_worn_out_for false shard = is_worn_out shard.core

abbrev pub Measures : Measuring → MapState → Measuring → MapState → Type 0
Measures before shard after later =
    (later ≡ shard) × (after.call ≡ before.call) × (after.restores ≡ before.restores)
    × (after.is_worn_out ≡ (before.is_worn_out || is_worn_out_for before.restores shard)) × (after.is_tight ≡ (before.is_tight || may_lack_slots before.call shard))

-- where the shard is full for the call, it is told so
abbrev pub TellsFull : MapState → Call → Replied → Type 0
TellsFull shard call told = IsFullFor shard call → told ≡ Ok reply.NoSlots

abbrev pub CallsOne : Calling → MapState → Calling → MapState → Type 0
CallsOne before shard after later =
    Calls after.told shard before.call later × TellsFull shard before.call after.told × WorksUpTo (work_of_call before.call) shard later
