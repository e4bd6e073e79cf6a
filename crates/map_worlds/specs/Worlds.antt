-- The world that a state shows: each open handle, with its kind and its content as a finite map.
use Rattle.std.specs.Prelude.{ℕ, ◌+◌, List, [], ◌∷◌, Option, Some, None}
use Rattle.std.specs.FinMap as map
use Rattle.map_worlds.specs.Beneath.history.specs.Worlds.{HandleState, HandleMap}
use Rattle.map_worlds.specs.Beneath.machine_model.specs.declared.roots.Root.{Root}
use Rattle.map_worlds.specs.Beneath.machine_model.specs.Contents.{content_at}
use Rattle.map_worlds.specs.Beneath.machine_model.specs.States.{State}

-- what the open handle of this number names
abbrev pub named_at : State → ℕ → Root → HandleState
named_at state handle root = record { access = root.access; pairs = map.from_entries (content_at state handle) }

-- the open ones of these handles, which are numbered from n on
abbrev pub named_from : State → ℕ → List (Option Root) → List (ℕ × HandleState)
named_from state n [] = []
named_from state n (None ∷ roots) = named_from state (n + 1) roots
named_from state n (Some root ∷ roots) = (n, named_at state n root) ∷ named_from state (n + 1) roots

-- the world
abbrev pub world_of : State → HandleMap
world_of state = map.from_entries (named_from state 0 state.roots)
