-- Laws of the world that a state shows.
use Rattle.std.specs.Prelude.{◌≡◌, ℕ, false, List, [], option_map}
use Rattle.std.specs.FinMap as map
use Rattle.map_worlds.specs.Beneath.history.specs.Worlds.{HandleMap, first_world}
use Rattle.map_worlds.specs.Beneath.machine_model.specs.declared.steps.Bounds.{Bounds}
use Rattle.map_worlds.specs.Beneath.machine_model.specs.declared.steps.Step.{Step}
use Rattle.map_worlds.specs.Beneath.machine_model.specs.Keys.{KeysFit}
use Rattle.map_worlds.specs.Beneath.machine_model.specs.Machine.{AreBounds, handles_taken, is_busy, run}
use Rattle.map_worlds.specs.Beneath.machine_model.specs.States.{State, root_at}
use Rattle.map_worlds.specs.Beneath.proof_order.specs.Laws.Orders.{ShowsContents}
use Rattle.map_worlds.specs.Worlds.{named_at, world_of}

-- a world that shows a state's contents is the one that is computed from it
abbrev pub ShownIsOne : Type 0
ShownIsOne = (world : HandleMap) (state : State) → ShowsContents world state → world ≡ world_of state

-- the world of each state that is reached shows the state's contents
abbrev pub StatesShow : Type 0
StatesShow = (limits : Bounds) (steps : List Step) → AreBounds limits → KeysFit steps → ShowsContents (world_of (run limits steps)) (run limits steps)

-- the first state shows the first world
abbrev pub FirstIsShown : Type 0
FirstIsShown = (limits : Bounds) → AreBounds limits → world_of (run limits []) ≡ first_world

-- the world has just the open handles
abbrev pub ShowsRoots : Type 0
ShowsRoots = (state : State) (handle : ℕ) → map.get (world_of state) handle ≡ option_map (named_at state handle) (root_at state handle)

-- where no operation runs as many handles are taken as the world has
abbrev pub HandlesAtRest : Type 0
HandlesAtRest = (limits : Bounds) (steps : List Step) → is_busy (run limits steps) ≡ false → handles_taken (run limits steps) ≡ map.len (world_of (run limits steps))
