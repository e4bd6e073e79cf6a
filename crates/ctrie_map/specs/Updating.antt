-- A change of a key by what a closure answers.
use Rattle.std.specs.Prelude.{◌≡◌, ◌≢◌, ◌⊎◌, ℕ, Option, Some, None}
use Rattle.std.specs.FinMap as map
use Rattle.ctrie_map.specs.Vocabulary.{Call, Put, Remove, KeyMap}
use Rattle.ctrie_map.specs.declared.errors.MapError.{MapError}
use Rattle.ctrie_map.specs.Changes.{HasLife, HasRoom, IsCrowdedAt, Refuses, denial_in}
use Rattle.ctrie_map.specs.Drafts.{HasMap}
use Rattle.ctrie_map.specs.Maps.{MapState, handles_of}

-- the map where the key has this value, or none
abbrev pub with_value : ℕ → Option ℕ → KeyMap → KeyMap
with_value key None m = map.remove m key
with_value key (Some value) m = map.insert m key value

-- the call that gives the key this value, or takes its value away
abbrev pub giving : ℕ → ℕ → Option ℕ → Call
giving handle key None = Remove handle key
giving handle key (Some value) = Put handle key value

-- a key that is given a value has one already, or fewer than 32 other keys have its hash
abbrev pub HasRoomFor : MapState → ℕ → Option ℕ → KeyMap → Type 0
HasRoomFor before key None m = Unit {0}
HasRoomFor before key (Some value) m = HasRoom before key m

-- a call that may change this handle's map isn't begun
abbrev pub IsDenied : MapState → ℕ → ℕ → MapError → Type 0
IsDenied before handle key error = denial_in before (Remove handle key) ≡ Some error

-- ---- update

-- The closure answered this of the key's value: that very value, or one for which there are steps and room.
abbrev pub IsUpdate : (Option ℕ → Option ℕ → Type 0) → MapState → ℕ → Option ℕ → KeyMap → Type 0
IsUpdate Answers before key value m = Answers (map.get m key) value × ((map.get m key ≡ value) ⊎ (HasLife before × HasRoomFor before key value m))

-- The closure wasn't called, since the handle's map may not be changed; or the key couldn't be given the other value that it answered.
abbrev pub RefusesUpdate : (Option ℕ → Option ℕ → Type 0) → MapState → ℕ → ℕ → MapState → MapError → Type 0
RefusesUpdate Answers before handle key after error =
    (IsDenied before handle key error × (after ≡ before))
    ⊎ ((m : KeyMap) × HasMap (handles_of before) handle m × ((value : Option ℕ) × Answers (map.get m key) value × (map.get m key ≢ value)
    × Refuses before (giving handle key value) (IsCrowdedAt before handle key) after error))

-- ---- get or put

-- the key has this value; or it has none, and the closure answered this one, for which there are steps and room
abbrev pub IsThereOrMade : (ℕ → Type 0) → MapState → ℕ → ℕ → KeyMap → Type 0
IsThereOrMade Answers before key value m =
    (map.get m key ≡ Some value) ⊎ ((map.get m key ≡ None) × Answers value × HasLife before × HasRoom before key m)

-- The closure wasn't called, since the handle's map may not be changed; or the key had no value, and couldn't be given the one that it answered.
abbrev pub RefusesMaking : (ℕ → Type 0) → MapState → ℕ → ℕ → MapState → MapError → Type 0
RefusesMaking Answers before handle key after error =
    (IsDenied before handle key error × (after ≡ before))
    ⊎ ((m : KeyMap) × HasMap (handles_of before) handle m × (map.get m key ≡ None)
    × ((value : ℕ) × Answers value × Refuses before (Put handle key value) (IsCrowdedAt before handle key) after error))
