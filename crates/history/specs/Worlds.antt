-- Worlds: what handles name.
use Rattle.std.specs.Prelude.{ℕ}
use Rattle.std.specs.Ordering.{nat_cmp}
use Rattle.std.specs.FinMap.{FinMap, empty, insert}
use Rattle.history.specs.declared.calls.Access.{Access}
use Rattle.history.specs.declared.calls.Access.TheVariants.{Writable}

-- a finite map from keys to values
abbrev pub KeyMap : Type 0
KeyMap = FinMap nat_cmp ℕ

-- what a handle names: whether its map may be changed, and the map
pub record HandleState : Type 0 where
  pub access : Access
  pub pairs : KeyMap

-- a world: a finite map from handles to what they name
abbrev pub HandleMap : Type 0
HandleMap = FinMap nat_cmp HandleState

-- the first world: handle 0, writable and empty
abbrev pub first_world : HandleMap
first_world = insert empty 0 (record { access = Writable; pairs = empty })
