-- A step of WALK is one of its ways.
use Rattle.std.proofs.Common.{◌≡◌, ℕ, List, [], ◌∷◌, refl}
use Rattle.machine_model.specs.Beneath.slot_arena.specs.declared.refs.Ref.{Ref}
use Rattle.machine_model.specs.Beneath.slot_arena.specs.declared.nodes.Node.{Node}
use Rattle.machine_model.specs.Beneath.slot_arena.specs.declared.nodes.Node.TheVariants.{Indirection, Single}
use Rattle.machine_model.specs.Beneath.slot_arena.specs.Heaps.{node_at}
use Rattle.machine_model.specs.declared.operations.Operation.{Operation}
use Rattle.machine_model.specs.declared.reading.After.{After}
use Rattle.machine_model.specs.declared.reading.After.TheVariants.{Goes, Gives}
use Rattle.machine_model.specs.declared.reading.Read.{Read}
use Rattle.machine_model.specs.declared.walking.WalkLine.{WalkLine}
use Rattle.machine_model.specs.declared.walking.WalkLine.TheVariants as walk
use Rattle.machine_model.specs.States.{State}
use Rattle.machine_model.specs.Reading.{read_step}
use Rattle.machine_model.specs.Walking.{first_of, rest_of, walk_after, walk_after_entry, walk_after_read, walk_next}
use Rattle.machine_model.specs.Edges.Walking.{WalkNext, walked, walks, WalkEdge, begins, reads_on, gives, opens, goes_down, takes}

pub walk_next_edge : (operation : Operation) (pairs : List (ℕ × ℕ)) (todo : List Ref) → WalkNext operation pairs todo (walk_next operation todo pairs)
walk_next_edge operation pairs [] = walked
walk_next_edge operation pairs (entry ∷ todo) = walks entry todo

module _ (state : State) (operation : Operation) where
  seen_read : (r : Read) (todo : List Ref) (pairs : List (ℕ × ℕ)) (a : After Read Ref) → read_step state operation r ≡ a →
      WalkEdge state operation (walk.Read r todo pairs) (walk_after_read todo pairs a)
  seen_read r todo pairs (Goes next) e = reads_on r next todo pairs e
  seen_read r todo pairs (Gives main) e = gives r main todo pairs e

  seen_entry : (todo : List Ref) (pairs : List (ℕ × ℕ)) (n : Node) → node_at state.heap (first_of todo) ≡ n →
      WalkEdge state operation (walk.Entry todo pairs) (walk_after_entry operation (first_of todo) (rest_of todo) pairs n)
  seen_entry todo pairs (Indirection g w) e = goes_down todo pairs g w e
  seen_entry todo pairs (Single k v) e = takes todo pairs k v _ e (walk_next_edge operation _ _)
  seen_entry todo pairs n e = WalkEdge.strays _

  pub walk_edge : (l : WalkLine) → WalkEdge state operation l (walk_after state operation l)
  walk_edge walk.Root = begins
  walk_edge (walk.Read r todo pairs) = seen_read r todo pairs _ refl
  walk_edge (walk.Main main todo pairs) = opens main todo pairs _ (walk_next_edge operation pairs _)
  walk_edge (walk.Entry todo pairs) = seen_entry todo pairs _ refl
