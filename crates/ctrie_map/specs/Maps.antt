-- What contracts see of a map: the state of its core, and its handles' names. What they say of it they say by the maps that its handles name, and by its free slots.
use Rattle.std.specs.Prelude.{◌≡◌, ◌⊎◌, ◌≤◌, ◌+◌, ◌-◌, ℕ}
use Rattle.ctrie_map.specs.Vocabulary.{HashKind, HandleMap, first_world, longest_life, State}
use Rattle.ctrie_map.specs.Beneath.map_worlds.specs.Worlds.{world_of}
use Rattle.ctrie_map.specs.declared.errors.MapError.{MapError}
use Rattle.ctrie_map.specs.declared.errors.MapError.TheVariants.{BadSizes, Memory}
use Rattle.ctrie_map.specs.Cores.{IsCalm, free_in, reserve}
use Rattle.ctrie_map.specs.Names.{AreNamesOf, NameTable, handles_under}

pub record MapState : Type 0 where
  pub core : State
  pub names : NameTable

abbrev pub map_with : State → NameTable → MapState
map_with core names = record { core = core; names = names }

-- the open handles, each with its kind and its finite map
abbrev pub handles_of : MapState → HandleMap
handles_of map = handles_under map.names (world_of map.core)

-- how many slots were asked for, beside which the core has its reserve
abbrev pub slots_asked : MapState → ℕ
slots_asked map = map.core.limits.slots - reserve

-- how many of these no open handle reaches: none where the reserve is in use
abbrev pub free_of : MapState → ℕ
free_of map = free_in map.core

-- between two calls: the core is calm, and its handles are named
pub record IsWhole (map : MapState) : Type 0 where
  pub calm : IsCalm map.core
  pub named : AreNamesOf (world_of map.core) map.names

-- the map has these handles then, and this number was given last; hash, slots and life are as before
abbrev pub HasThen : MapState → HandleMap → ℕ → MapState → Type 0
HasThen before handles last after = (after.core.limits ≡ before.core.limits) × (after.names.last ≡ last) × (handles_of after ≡ handles)

-- the map has these handles then, and no number was given
abbrev pub Becomes : MapState → HandleMap → MapState → Type 0
Becomes before handles after = HasThen before handles before.names.last after

-- no handle and no map has changed
abbrev pub Stays : MapState → MapState → Type 0
Stays before after = Becomes before (handles_of before) after

-- so many slots may be asked for: the first handle takes two
abbrev pub AreSlots : ℕ → Type 0
AreSlots slots = (3 ≤ slots) × (slots ≤ 1000000)

-- a new map, which has its whole life before it: handle 0 was given, is open, writable and empty, and takes two slots
abbrev pub IsNew : ℕ → HashKind → MapState → Type 0
IsNew slots hash made =
    (made.core.limits ≡ record { slots = slots + reserve; actors = 1; hash = hash; steps = longest_life }) × (made.names.last ≡ 0) × (handles_of made ≡ first_world)
    × (made.core.steps ≡ 0) × (free_of made + 2 ≡ slots)

-- why there is none
abbrev pub RefusesSizes : ℕ → MapError → Type 0
RefusesSizes slots error = ((¬ AreSlots slots) × (error ≡ BadSizes)) ⊎ (AreSlots slots × (error ≡ Memory))
