-- What calls do that change a map, and why they are refused.
use Rattle.std.specs.Prelude.{◌≡◌, ℕ, Bool, true, false, Option, Some, None, if◌then◌else◌}
use Rattle.std.specs.FinMap as map
use Rattle.ctrie_map.specs.Vocabulary.{hash_of, Access, Writable, Call, Get, Put, PutIfAbsent, Replace, ReplaceIf, Remove, RemoveIf, Clear, Snapshot, Freeze, Close, Entries, Count, has_value}
use Rattle.ctrie_map.specs.Vocabulary.{is_crowded, naming, HandleMap, HandleState, KeyMap, handle_of, needs_writable, opens_handle}
use Rattle.ctrie_map.specs.declared.errors.MapError.{MapError}
use Rattle.ctrie_map.specs.declared.errors.MapError.TheVariants.{Crowded, Full, WornOut}
use Rattle.ctrie_map.specs.declared.names.Name.{Name}
use Rattle.ctrie_map.specs.Cores.{LacksSlotsBy, adds, is_worn_out}
use Rattle.ctrie_map.specs.Denials.{denial_by}
use Rattle.ctrie_map.specs.Maps.{MapState, Becomes, HasThen, Stays, free_of, handles_of}
use Rattle.ctrie_map.specs.Names.{name_at}

-- ---- what is changed

-- A handle's writable map m, of which this was told, becomes change m; all other handles stay.
abbrev pub Changes : MapState → ℕ → (KeyMap → Type 0) → (KeyMap → KeyMap) → MapState → Type 0
Changes before handle Told change after =
    (m : KeyMap) × (map.get (handles_of before) handle ≡ Some (record { access = Writable; pairs = m })) × Told m
    × Becomes before (naming (handles_of before) handle Writable (change m)) after

-- The copy is a new handle of this kind, with the map that the handle has now, whatever its own kind. Its number was given last then.
abbrev pub Copies : MapState → ℕ → Access → ℕ → MapState → Type 0
Copies before handle access copy after =
    (shown : HandleState) × (map.get (handles_of before) handle ≡ Some shown) × (map.get (handles_of before) copy ≡ None)
    × HasThen before (naming (handles_of before) copy access shown.pairs) copy after

-- The handle was open, and isn't there any more.
abbrev pub Closes : MapState → ℕ → MapState → Type 0
Closes before handle after =
    (shown : HandleState) × (map.get (handles_of before) handle ≡ Some shown) × Becomes before (map.remove (handles_of before) handle) after

-- the key has a value, or fewer than 32 other keys have its hash
abbrev pub HasRoom : MapState → ℕ → KeyMap → Type 0
HasRoom before key m = is_crowded (hash_of before.core.limits.hash) m key ≡ false

-- the key has no value in this writable map, and 32 other keys have its hash
abbrev pub IsCrowdedAt : MapState → ℕ → ℕ → Type 0
IsCrowdedAt before handle key =
    (m : KeyMap) × (map.get (handles_of before) handle ≡ Some (record { access = Writable; pairs = m })) × (is_crowded (hash_of before.core.limits.hash) m key ≡ true)

-- nothing is asked of the map
abbrev pub IsAny : KeyMap → Type 0
IsAny m = Unit {0}

-- what becomes of a map where a key is set that has no value, where one is set that has a value or this one, and where one is removed that has this value
abbrev pub set_if_absent : ℕ → ℕ → KeyMap → KeyMap
set_if_absent key value m = if map.contains_key m key then m else map.insert m key value

abbrev pub set_if_there : ℕ → ℕ → KeyMap → KeyMap
set_if_there key value m = if map.contains_key m key then map.insert m key value else m

abbrev pub set_if_it_has : ℕ → ℕ → ℕ → KeyMap → KeyMap
set_if_it_has key old new m = if has_value m key old then map.insert m key new else m

abbrev pub removed_if_it_has : ℕ → ℕ → KeyMap → KeyMap
removed_if_it_has key value m = if has_value m key value then map.remove m key else m

-- ---- why not

-- the call may change the handle's map: a copy doesn't
abbrev pub changes_map : Call → Bool
changes_map (Snapshot h) = false
changes_map (Freeze h) = false
changes_map call = needs_writable call

-- why a call isn't even begun where these handles are open
abbrev pub denial_among : HandleMap → Call → Option MapError
denial_among handles call = denial_by (changes_map call) (opens_handle call) (map.get handles (handle_of call)) (map.len handles)

abbrev pub denial_in : MapState → Call → Option MapError
denial_in before call = denial_among (handles_of before) call

-- more steps are left than a call may take with the sweep behind it
abbrev pub HasLife : MapState → Type 0
HasLife before = is_worn_out before.core ≡ false

-- the same call of another handle: a freeze is a snapshot under a read-only name
abbrev pub on_handle : ℕ → Call → Call
on_handle h (Get _ k) = Get h k
on_handle h (Put _ k v) = Put h k v
on_handle h (PutIfAbsent _ k v) = PutIfAbsent h k v
on_handle h (Replace _ k v) = Replace h k v
on_handle h (ReplaceIf _ k a b) = ReplaceIf h k a b
on_handle h (Remove _ k) = Remove h k
on_handle h (RemoveIf _ k v) = RemoveIf h k v
on_handle h (Clear _) = Clear h
on_handle h (Snapshot _) = Snapshot h
on_handle h (Freeze _) = Snapshot h
on_handle h (Close _) = Close h
on_handle h (Entries _) = Entries h
on_handle h (Count _) = Count h

-- the core's handle for which a name stands
abbrev pub core_of : Option Name → ℕ
core_of None = 0
core_of (Some name) = name.core

-- the core's call by which a call is carried out
abbrev pub core_call : MapState → Call → Call
core_call before call = on_handle (core_of (name_at before.names (handle_of call))) call

-- The call has no slots: one that adds a key or a copy, where none is free of those that were asked for; another one, where other handles are open, fewer slots were free
-- than it may take, and the core's call ran out of them.
abbrev pub LacksSlots : MapState → Call → Type 0
LacksSlots before call = LacksSlotsBy (adds (handles_of before) call) (map.len (handles_of before)) before.core (core_call before call)

-- it is a call that adds, nothing but slots is wanting, and none is free
abbrev pub IsFullFor : MapState → Call → Type 0
IsFullFor before call = (denial_in before call ≡ None) × HasLife before × (adds (handles_of before) call ≡ true) × (free_of before ≡ 0)

-- no other handle is open
abbrev pub IsAlone : MapState → Type 0
IsAlone before = map.len (handles_of before) ≡ 1

-- then no call lacks slots but one that adds a key or a copy
abbrev pub OneHandleHasSlots : Type 0
OneHandleHasSlots = (before : MapState) (call : Call) → IsAlone before → adds (handles_of before) call ≡ false → ¬ LacksSlots before call

-- the handle is open, and the key has a value in its map
abbrev pub HasKey : MapState → ℕ → ℕ → Type 0
HasKey before handle key = (shown : HandleState) × (map.get (handles_of before) handle ≡ Some shown) × (map.contains_key shown.pairs key ≡ true)

-- Why a call was refused for which there may be such a denial, and whose key may be crowded. All maps stay as they are. Where it wasn't begun, nothing has changed.
abbrev pub RefusedBy : Option MapError → Call → Type 0 → MapState → MapState → MapError → Type 0
RefusedBy denial call Crowds before after Full = (denial ≡ None) × HasLife before × LacksSlots before call × Stays before after
RefusedBy denial call Crowds before after Crowded = (denial ≡ None) × HasLife before × Crowds × Stays before after
RefusedBy denial call Crowds before after WornOut = (denial ≡ None) × (is_worn_out before.core ≡ true) × (after ≡ before)
RefusedBy denial call Crowds before after error = (denial ≡ Some error) × (after ≡ before)

abbrev pub Refuses : MapState → Call → Type 0 → MapState → MapError → Type 0
Refuses before call Crowds after error = RefusedBy (denial_in before call) call Crowds before after error
