-- What calls answer that change nothing.
use Rattle.std.specs.Prelude.{◌≡◌, ◌⊎◌, ℕ, Bool, not, List, Option, Some, None, Result, Ok, Err, IsOk}
use Rattle.std.specs.FinMap as map
use Rattle.ctrie_map.specs.Vocabulary.{HandleState, KeyMap, State}
use Rattle.machine_core.specs.Comparing.{AreDifferences}
use Rattle.machine_core.specs.declared.differing.Difference.{Difference}
use Rattle.ctrie_map.specs.Beneath.map_worlds.specs.Worlds.{world_of}
use Rattle.ctrie_map.specs.declared.errors.MapError.{MapError}
use Rattle.ctrie_map.specs.declared.errors.MapError.TheVariants.{NoHandle, Memory}
use Rattle.ctrie_map.specs.Denials.{is_frozen}
use Rattle.ctrie_map.specs.Maps.{MapState, handles_of}

abbrev pub read_of : {A : Type 0} → (KeyMap → A) → Option HandleState → Result A MapError
read_of read None = Err NoHandle
read_of read (Some shown) = Ok (read shown.pairs)

-- what is read of a map of the core, where its handle is open there
abbrev pub core_reading : {A : Type 0} → State → ℕ → (KeyMap → A) → Result A MapError
core_reading now handle read = read_of read (map.get (world_of now) handle)

-- what is read of a handle's map, where it is open
abbrev pub reading : {A : Type 0} → MapState → ℕ → (KeyMap → A) → Result A MapError
reading now handle read = read_of read (map.get (handles_of now) handle)

-- the same, where memory may be wanting for what could be read
abbrev pub RefusesReading : {A : Type 0} → Result A MapError → MapError → Type 0
RefusesReading answer error = (answer ≡ Err error) ⊎ ((error ≡ Memory) × IsOk answer)

-- the map that was to be read stands so to what is told; where there is none, that is told
abbrev pub ReadsOf : {A : Type 0} → Result KeyMap MapError → (KeyMap → A → Type 0) → Result A MapError → Type 0
ReadsOf map Stands (Ok answer) = (m : KeyMap) × (map ≡ Ok m) × Stands m answer
ReadsOf map Stands (Err error) = map ≡ Err error

-- what is read stands so to the handle's map; where it isn't open, that is told
abbrev pub Reads : {A : Type 0} → MapState → ℕ → (KeyMap → A → Type 0) → Result A MapError → Type 0
Reads now handle Stands answer = ReadsOf (reading now handle (λ shown. shown)) Stands answer

-- one key with its value, and none exactly where the map has none
abbrev pub IsOneOf : KeyMap → Option (ℕ × ℕ) → Type 0
IsOneOf m None = m ≡ map.empty
IsOneOf m (Some pair) = map.get m pair.0 ≡ Some pair.1

-- the map without this key, if it is one
abbrev pub without : Option (ℕ × ℕ) → KeyMap → KeyMap
without None m = m
without (Some pair) m = map.remove m pair.0

-- the differences of two maps that were to be read
abbrev pub ComparesOf : Result KeyMap MapError → Result KeyMap MapError → List Difference → Type 0
ComparesOf older newer differences = (m : KeyMap) × (n : KeyMap) × (older ≡ Ok m) × (newer ≡ Ok n) × AreDifferences (map.get m) (map.get n) differences

-- one of the two isn't there, or memory was wanting for what could be compared
abbrev pub RefusesComparingOf : Result KeyMap MapError → Result KeyMap MapError → MapError → Type 0
RefusesComparingOf older newer error =
    ((error ≡ NoHandle) × ((older ≡ Err NoHandle) ⊎ (newer ≡ Err NoHandle))) ⊎ ((error ≡ Memory) × IsOk older × IsOk newer)

-- the differences of two handles' maps
abbrev pub Compares : MapState → ℕ → ℕ → List Difference → Type 0
Compares now older newer differences = ComparesOf (reading now older (λ shown. shown)) (reading now newer (λ shown. shown)) differences

-- why there are none
abbrev pub RefusesComparing : MapState → ℕ → ℕ → MapError → Type 0
RefusesComparing now older newer error = RefusesComparingOf (reading now older (λ shown. shown)) (reading now newer (λ shown. shown)) error

-- whether a handle's map may be changed by it
abbrev pub writability_by : Option HandleState → Result Bool MapError
writability_by None = Err NoHandle
writability_by (Some shown) = Ok (not (is_frozen shown.access))

abbrev pub writability : MapState → ℕ → Result Bool MapError
writability now handle = writability_by (map.get (handles_of now) handle)
