-- Several keys of a map that are changed together, all or none.
use Rattle.std.specs.Prelude.{◌≡◌, ◌⊎◌, ◌+◌, ◌*◌, ◌<◌, ◌≤◌, ℕ, Bool, true, false, List, [], ◌∷◌, length, Option, Some, None}
use Rattle.std.specs.FinMap as map
use Rattle.ctrie_map.specs.Vocabulary.{hash_of, Writable, ReadOnly as Frozen, Call, Put, Remove, Snapshot, is_crowded, naming, KeyMap, State, handle_limit}
use Rattle.ctrie_map.specs.Beneath.map_worlds.specs.Worlds.{world_of}
use Rattle.ctrie_map.specs.Beneath.proof_obstruction_free.specs.Slots.{most_makes_alone, most_steps_of_copies}
use Rattle.ctrie_map.specs.declared.batches.Batch.{Batch}
use Rattle.ctrie_map.specs.declared.batches.Batch.TheVariants.{Puts, Removes}
use Rattle.ctrie_map.specs.declared.errors.MapError.{MapError}
use Rattle.ctrie_map.specs.declared.errors.MapError.TheVariants.{NoHandle, ReadOnly, HandlesFull, Crowded, Full, WornOut}
use Rattle.ctrie_map.specs.declared.names.Name.{Name}
use Rattle.ctrie_map.specs.Changes.{core_of}
use Rattle.ctrie_map.specs.Cores.{Lacks, Leads, Turns, free_in}
use Rattle.ctrie_map.specs.Costs.{work_of_a_change, work_of_a_copy}
use Rattle.ctrie_map.specs.Denials.{denial_by}
use Rattle.ctrie_map.specs.Drafts.{HasMap, IsDraftOf, is_worn_out_by}
use Rattle.ctrie_map.specs.Maps.{MapState, Becomes, Stays, free_of, handles_of}
use Rattle.ctrie_map.specs.Names.{NameTable, how_many, name_at}

-- ---- in a finite map

-- the map where this is done with the key of a pair
abbrev pub changed : Batch → ℕ × ℕ → KeyMap → KeyMap
changed Puts pair m = map.insert m pair.0 pair.1
changed Removes pair m = map.remove m pair.0

-- and with those of these pairs, one after the other
abbrev pub changed_all : Batch → KeyMap → List (ℕ × ℕ) → KeyMap
changed_all batch m [] = m
changed_all batch m (pair ∷ pairs) = changed_all batch (changed batch pair m) pairs

-- a key that is to get a value has none, and 32 other keys have its hash
abbrev pub crowds : Batch → (ℕ → ℕ) → KeyMap → ℕ → Bool
crowds Puts hash m key = is_crowded hash m key
crowds Removes hash m key = false

-- each key finds room when its turn comes
abbrev pub HaveRoom : Batch → (ℕ → ℕ) → KeyMap → List (ℕ × ℕ) → Type 0
HaveRoom batch hash m [] = Unit {0}
HaveRoom batch hash m (pair ∷ pairs) = (crowds batch hash m pair.0 ≡ false) × HaveRoom batch hash (changed batch pair m) pairs

-- one of them doesn't
abbrev pub IsCrowdedAmong : Batch → (ℕ → ℕ) → KeyMap → List (ℕ × ℕ) → Type 0
IsCrowdedAmong batch hash m [] = ⊥
IsCrowdedAmong batch hash m (pair ∷ pairs) = (crowds batch hash m pair.0 ≡ true) ⊎ IsCrowdedAmong batch hash (changed batch pair m) pairs

-- ---- in the core

-- the call that does this with the key of a pair
abbrev pub batch_call : Batch → ℕ → ℕ × ℕ → Call
batch_call Puts handle pair = Put handle pair.0 pair.1
batch_call Removes handle pair = Remove handle pair.0

-- a key of a writable map of the core is changed
abbrev pub ChangesKey : Batch → ℕ → ℕ × ℕ → State → State → Type 0
ChangesKey batch handle pair before after =
    (m : KeyMap) × HasMap (world_of before) handle m × (crowds batch (hash_of before.limits.hash) m pair.0 ≡ false)
    × Turns before (naming (world_of before) handle Writable (changed batch pair m)) after × Leads before (batch_call batch handle pair) after

-- the change of one of these keys had no slots, in the state to which the changes before it led
abbrev pub FindsNoneAmong : Batch → ℕ → List (ℕ × ℕ) → State → Type 0
FindsNoneAmong batch handle [] now = ⊥
FindsNoneAmong batch handle (pair ∷ pairs) now =
    Lacks now (batch_call batch handle pair) ⊎ ((next : State) × ChangesKey batch handle pair now next × FindsNoneAmong batch handle pairs next)

-- so had the copy of a map, or the change of one of these keys in that copy
abbrev pub FindsNoneOnCopy : Batch → ℕ → List (ℕ × ℕ) → State → Type 0
FindsNoneOnCopy batch handle pairs before =
    Lacks before (Snapshot handle) ⊎ ((draft : ℕ) × (drafted : State) × IsDraftOf handle before draft drafted × FindsNoneAmong batch draft pairs drafted)

-- ---- in the map

-- the most slots that so many changes take on a copy: one more each, since the sweep may leave one
abbrev pub slots_of_changes : ℕ → ℕ
slots_of_changes many = (most_steps_of_copies + 1) + (most_makes_alone + 1) * many

abbrev pub work_of_changes : ℕ → ℕ
work_of_changes many = work_of_a_copy + work_of_a_change * many

-- why it isn't begun: it changes the map, and opens a copy for the moment
abbrev pub batch_denial : MapState → ℕ → Option MapError
batch_denial before handle = denial_by true true (map.get (handles_of before) handle) (map.len (handles_of before))

-- more steps are left than all these changes may take, and a call behind them
abbrev pub HasLifeFor : MapState → List (ℕ × ℕ) → Type 0
HasLifeFor before pairs = is_worn_out_by (work_of_changes (length pairs)) before.core ≡ false

-- all these keys of the writable handle are changed, for which steps were left; all other handles stay
abbrev pub ChangesAll : Batch → MapState → ℕ → List (ℕ × ℕ) → MapState → Type 0
ChangesAll batch before handle pairs after =
    HasLifeFor before pairs
    × ((m : KeyMap) × HasMap (handles_of before) handle m × HaveRoom batch (hash_of before.core.limits.hash) m pairs
    × Becomes before (naming (handles_of before) handle Writable (changed_all batch m pairs)) after)

-- Fewer slots were free than the copy of the handle's map and all these changes may take, and that copy or one of these changes had none.
abbrev pub LacksSlotsAmong : Batch → MapState → ℕ → List (ℕ × ℕ) → Type 0
LacksSlotsAmong batch before handle pairs = (free_of before < slots_of_changes (length pairs)) × FindsNoneOnCopy batch (core_of (name_at before.names handle)) pairs before.core

-- Why it was refused. All maps stay as they are; where it wasn't begun, nothing has changed.
abbrev pub RefusesBatch : Batch → MapState → ℕ → List (ℕ × ℕ) → MapState → MapError → Type 0
RefusesBatch batch before handle pairs after Full =
    (batch_denial before handle ≡ None) × HasLifeFor before pairs × LacksSlotsAmong batch before handle pairs × Stays before after
RefusesBatch batch before handle pairs after Crowded =
    (batch_denial before handle ≡ None) × HasLifeFor before pairs
    × ((m : KeyMap) × HasMap (handles_of before) handle m × IsCrowdedAmong batch (hash_of before.core.limits.hash) m pairs) × Stays before after
RefusesBatch batch before handle pairs after WornOut =
    (batch_denial before handle ≡ None) × (is_worn_out_by (work_of_changes (length pairs)) before.core ≡ true) × (after ≡ before)
RefusesBatch batch before handle pairs after error = (batch_denial before handle ≡ Some error) × (after ≡ before)

-- ---- by a name

-- a writable map can be changed through a copy, for which there is a handle
abbrev pub CanCopy : NameTable → ℕ → Name → Type 0
CanCopy names number name = (name_at names number ≡ Some name) × (name.access ≡ Writable) × (how_many names < handle_limit)

-- why it can't
abbrev pub RefusesName : NameTable → ℕ → MapError → Type 0
RefusesName names number NoHandle = name_at names number ≡ None
RefusesName names number ReadOnly = (name : Name) × (name_at names number ≡ Some name) × (name.access ≡ Frozen)
RefusesName names number HandlesFull = (name : Name) × (name_at names number ≡ Some name) × (name.access ≡ Writable) × (handle_limit ≤ how_many names)
RefusesName names number error = ⊥

-- ---- key by key in the core

-- why it isn't where steps are left
abbrev pub RefusesKey : Batch → ℕ → ℕ × ℕ → State → State → MapError → Type 0
RefusesKey batch handle pair before after Full =
    Lacks before (batch_call batch handle pair) × Turns before (world_of before) after
RefusesKey batch handle pair before after Crowded =
    (m : KeyMap) × HasMap (world_of before) handle m × (crowds batch (hash_of before.limits.hash) m pair.0 ≡ true) × Turns before (world_of before) after
RefusesKey batch handle pair before after error = ⊥

-- Some of the keys are changed in the map, which was m, and these are left.
pub record IsChanging (batch : Batch) (handle : ℕ) (m : KeyMap) (pairs : List (ℕ × ℕ)) (before : State) (left : List (ℕ × ℕ)) (now : State) : Type 0 where
  pub so_far : KeyMap
  pub turns : Turns before (naming (world_of before) handle Writable so_far) now
  pub same : changed_all batch so_far left ≡ changed_all batch m pairs
  pub room : HaveRoom batch (hash_of before.limits.hash) so_far left → HaveRoom batch (hash_of before.limits.hash) m pairs
  pub crowded : IsCrowdedAmong batch (hash_of before.limits.hash) so_far left → IsCrowdedAmong batch (hash_of before.limits.hash) m pairs
  pub out : FindsNoneAmong batch handle left now → FindsNoneAmong batch handle pairs before
  pub rises : before.steps ≤ now.steps
  pub work : now.steps + 5 * length before.heap.free + work_of_a_change * length left ≤ before.steps + work_of_a_change * length pairs + 5 * length now.heap.free
  pub slots : length before.heap.free + (most_makes_alone + 1) * length left ≤ length now.heap.free + (most_makes_alone + 1) * length pairs

-- all are changed
abbrev pub ChangesEach : Batch → ℕ → KeyMap → List (ℕ × ℕ) → State → State → Type 0
ChangesEach batch handle m pairs before after =
    HaveRoom batch (hash_of before.limits.hash) m pairs × Turns before (naming (world_of before) handle Writable (changed_all batch m pairs)) after

-- or it has stopped in their midst
abbrev pub Stops : Batch → ℕ → KeyMap → List (ℕ × ℕ) → State → State → MapError → Type 0
Stops batch handle m pairs before after Full =
    (free_in before < (most_makes_alone + 1) * length pairs) × FindsNoneAmong batch handle pairs before
    × ((so_far : KeyMap) × Turns before (naming (world_of before) handle Writable so_far) after)
Stops batch handle m pairs before after Crowded =
    IsCrowdedAmong batch (hash_of before.limits.hash) m pairs × ((so_far : KeyMap) × Turns before (naming (world_of before) handle Writable so_far) after)
Stops batch handle m pairs before after error = ⊥
