-- Copies in the core that have no name yet.
use Rattle.std.specs.Prelude.{◌≡◌, ◌+◌, ◌-◌, ◌*◌, ℕ, length, Bool, nat_le, Some, None}
use Rattle.std.specs.FinMap as map
use Rattle.ctrie_map.specs.Vocabulary.{Writable, Snapshot, naming, HandleMap, KeyMap, State}
use Rattle.ctrie_map.specs.Beneath.map_worlds.specs.Worlds.{world_of}
use Rattle.ctrie_map.specs.Beneath.proof_obstruction_free.specs.Laws.{most_steps_alone}
use Rattle.proof_sizes.specs.Beneath.proof_alone.specs.Sweeps.{most_sweeps}
use Rattle.ctrie_map.specs.declared.errors.MapError.{MapError}
use Rattle.ctrie_map.specs.declared.errors.MapError.TheVariants.{Full}
use Rattle.ctrie_map.specs.Cores.{Leads, Turns, free_in}
use Rattle.ctrie_map.specs.Maps.{MapState, Becomes, handles_of}
use Rattle.ctrie_map.specs.Names.{AreNamesOf, NameTable}

-- the handle has this writable map
abbrev pub HasMap : HandleMap → ℕ → KeyMap → Type 0
HasMap world handle m = map.get world handle ≡ Some (record { access = Writable; pairs = m })

abbrev pub IsWritable : HandleMap → ℕ → Type 0
IsWritable world handle = (m : KeyMap) × HasMap world handle m

-- the draft is a new handle of the core, with the map of this one: its snapshot
pub record IsDraftOf (handle : ℕ) (before : State) (draft : ℕ) (after : State) : Type 0 where
  pub m : KeyMap
  pub has : HasMap (world_of before) handle m
  pub new : map.get (world_of before) draft ≡ None
  pub turns : Turns before (naming (world_of before) draft Writable m) after
  pub leads : Leads before (Snapshot handle) after

-- these are the names of the core's other handles, and this draft, which has no name, has this map
pub record IsBeside (world : HandleMap) (names : NameTable) (draft : ℕ) (m : KeyMap) (core : State) : Type 0 where
  pub named : AreNamesOf world names
  pub new : map.get world draft ≡ None
  pub is : world_of core ≡ naming world draft Writable m

-- why there is none where handles and steps are left
abbrev pub RefusesDraft : ℕ → State → State → MapError → Type 0
RefusesDraft handle before after error =
    (error ≡ Full) × (free_in before ≡ 0) × Turns before (world_of before) after

-- no more steps are left than this work takes, with five for each slot in use which may become free by it, and a call behind it
abbrev pub is_worn_out_by : ℕ → State → Bool
is_worn_out_by work before =
    nat_le before.limits.steps (before.steps + (work + 5 * (before.limits.slots - length before.heap.free) + (1 + most_steps_alone + most_sweeps before)))

-- the handle has the map of this one of the core then, and is writable
abbrev pub TakesMap : MapState → ℕ → ℕ → MapState → Type 0
TakesMap before handle source after =
    (m : KeyMap) × HasMap (world_of before.core) source m × Becomes before (naming (handles_of before) handle Writable m) after
