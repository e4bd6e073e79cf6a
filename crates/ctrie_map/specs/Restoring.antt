-- What becomes of a handle that is to name the map of another one.
use Rattle.std.specs.Prelude.{◌≡◌, ◌≢◌, ℕ, Bool, true, false, not, ◌&&◌, nat_eq, nat_le, Option, Some, None, Result, Ok, Err, if◌then◌else◌}
use Rattle.std.specs.FinMap as map
use Rattle.ctrie_map.specs.Vocabulary.{Writable, naming, HandleState, handle_limit}
use Rattle.ctrie_map.specs.declared.errors.MapError.{MapError}
use Rattle.ctrie_map.specs.declared.errors.MapError.TheVariants.{NoHandle, ReadOnly, HandlesFull, Full, WornOut}
use Rattle.ctrie_map.specs.Costs.{work_of_a_copy}
use Rattle.ctrie_map.specs.Denials.{is_frozen}
use Rattle.ctrie_map.specs.Drafts.{IsWritable, is_worn_out_by}
use Rattle.ctrie_map.specs.Maps.{MapState, Becomes, Stays, free_of, handles_of}

-- The writable handle has the map of the copy, whatever the copy's kind; all other handles stay, the copy too.
abbrev pub Restores : MapState → ℕ → ℕ → MapState → Type 0
Restores before handle copy after =
    (shown : HandleState) × IsWritable (handles_of before) handle × (map.get (handles_of before) copy ≡ Some shown)
    × Becomes before (naming (handles_of before) handle Writable shown.pairs) after

-- For the moment it wants one more handle of the core, but where both are the same.
abbrev pub restore_denial_by : Option HandleState → Option HandleState → Bool → Option MapError
restore_denial_by None copy full = Some NoHandle
restore_denial_by (Some shown) None full = Some NoHandle
restore_denial_by (Some shown) (Some copied) full = if is_frozen shown.access then Some ReadOnly else (if full then Some HandlesFull else None)

-- why it isn't begun
abbrev pub restore_denial : MapState → ℕ → ℕ → Option MapError
restore_denial before handle copy =
    let handles = handles_of before in
    restore_denial_by (map.get handles handle) (map.get handles copy) (not (nat_eq handle copy) && nat_le handle_limit (map.len handles))

-- no more steps are left than it may take, and a call behind it
abbrev pub is_worn_out_to_restore : MapState → Bool
is_worn_out_to_restore before = is_worn_out_by work_of_a_copy before.core

-- it is to copy a map, nothing but slots is wanting, and none is free
abbrev pub IsFullToRestore : MapState → ℕ → ℕ → Type 0
IsFullToRestore before handle copy =
    (handle ≢ copy) × (restore_denial before handle copy ≡ None) × (is_worn_out_to_restore before ≡ false) × (free_of before ≡ 0)

-- Where it was done, or refused as full, more steps were left than it may take. It takes none where both handles are the same, and is done then.
abbrev pub HasLifeIfTried : Result (Unit {0}) MapError → MapState → ℕ → ℕ → Type 0
HasLifeIfTried (Ok done) before handle copy = handle ≢ copy → is_worn_out_to_restore before ≡ false
HasLifeIfTried (Err Full) before handle copy = (handle ≢ copy) × (is_worn_out_to_restore before ≡ false)
HasLifeIfTried (Err error) before handle copy = Unit {0}

-- Why it was refused. All maps stay as they are; where it wasn't begun, nothing has changed.
abbrev pub RefusesRestore : MapState → ℕ → ℕ → MapState → MapError → Type 0
RefusesRestore before handle copy after Full = (restore_denial before handle copy ≡ None) × (free_of before ≡ 0) × Stays before after
RefusesRestore before handle copy after WornOut =
    (restore_denial before handle copy ≡ None) × (handle ≢ copy) × (is_worn_out_to_restore before ≡ true) × (after ≡ before)
RefusesRestore before handle copy after error = (restore_denial before handle copy ≡ Some error) × (after ≡ before)
