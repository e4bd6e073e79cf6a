-- How the references that the heap counts from outside are tied to root words and private lists.
use Rattle.std.specs.Prelude.{◌≡◌, ◌+◌, List, flat_map, map, Option}
use Rattle.machine_core.specs.Vocabulary.{Ref, times, Operation, Root, refs_of_operation, pin_of, root_refs}
use Rattle.epochs.specs.Memories.{Memory}

-- the references in the private lists of running operations
abbrev pub private_refs : List (Option Operation) → List Ref
private_refs actors = flat_map refs_of_operation actors

-- the heap holds what stands in root words and private lists, as often as it stands there, and an actor has recorded the
-- epoch of its operation's begin
pub record IsTied (memory : Memory) (roots : List (Option Root)) (actors : List (Option Operation)) : Type 0 where
  pub held : (r : Ref) → times r memory.outside ≡ times r (root_refs roots) + times r (private_refs actors)
  pub pins : memory.pins ≡ map pin_of actors
