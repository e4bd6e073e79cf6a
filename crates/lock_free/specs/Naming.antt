-- Names of maps.
use Rattle.std.specs.Prelude.{[]}
use Rattle.atomic_table.specs.Seated.{TableId}
use Rattle.lock_free.specs.declared.sizes.Sizes.{Sizes}
use Rattle.lock_free.specs.Finishing.{no_sizes}

-- which map it is: the words that it has, and of what sizes
pub record MapId : Type 0 where
  pub table : TableId
  pub sizes : Sizes

-- for what a name stands where nobody picked a map: no map is this one
abbrev pub no_map : MapId
no_map = record { table = record { words = 0; slots = 0; views_name = 0; atom = 0; block = 0; offset = 0; slot_names = [] }; sizes = no_sizes }
