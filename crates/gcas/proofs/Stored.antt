-- What a look-up in a slot says of the definition's.
use Rattle.std.specs.Prelude.{◌≡◌, Option, Some, None, option_map, unwrap_or, refl}
use Rattle.machine_model.specs.Beneath.slot_arena.specs.declared.refs.Ref.{Ref}
use Rattle.machine_model.specs.Beneath.slot_arena.specs.declared.nodes.Node.{Node}
use Rattle.machine_model.specs.Beneath.slot_arena.specs.declared.nodes.Slot.{Slot}
use Rattle.machine_model.specs.Beneath.slot_arena.specs.Heaps.{Heap, stored, node_of, node_at, empty_branch}

from_stored : (slot : Option Slot) → node_of slot ≡ unwrap_or (option_map (λ s. s.node) slot) empty_branch
from_stored None = refl
from_stored (Some slot) = refl

-- the node that stands in a slot, or the branch without entries
pub stands : (heap : Heap) (r : Ref) (found : Option Node) → found ≡ option_map (λ slot. slot.node) (stored heap r) → node_at heap r ≡ unwrap_or found empty_branch
unfolding node_at
stands heap r found same = rw same (from_stored (stored heap r))

-- what stands there is the node
pub node_is : (heap : Heap) (r : Ref) {node : Node} → Some node ≡ option_map (λ slot. slot.node) (stored heap r) → node_at heap r ≡ node
node_is heap r {node} is = stands heap r (Some node) is

-- where nothing stands the default is met
pub nothing_is : (heap : Heap) (r : Ref) → None ≡ option_map (λ slot. slot.node) (stored heap r) → node_at heap r ≡ empty_branch
nothing_is heap r is = stands heap r None is
