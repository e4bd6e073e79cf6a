-- The trie of a run, by its states and the heap that only grows.
use Rattle.std.specs.Prelude.{ℕ, zero, suc, ◌-◌, ◌==◌, Bool, List, [], ◌∷◌, ◌++◌, flat_map, Option, Some, None, is_some, unwrap_or, if◌then◌else◌}
use Rattle.proof_contents.specs.Vocabulary.{Ref, Node, Single, Slot, Heap, no_ref, generation_at, Root, Bounds, State, root_of, grown, node_under, main_before}
use Rattle.proof_contents.specs.Tries.{Trie}

-- something stood under the reference before step t or earlier
abbrev pub is_made : (ℕ → State) → ℕ → Ref → Bool
is_made states t r = is_some (grown states t r)

-- The main node that counts for an indirection before step t; for one that isn't made by then, what it has when it is made, if
-- that is within so many steps. So to make an indirection changes no main node.
unfoldable pub main_within : (ℕ → State) → ℕ → ℕ → Ref → Ref
main_within states t zero i = main_before states t i
main_within states t (suc left) i = if is_made states t i then main_before states t i else main_within states (suc t) left i

abbrev pub counting_main : (ℕ → State) → ℕ → ℕ → Ref → Ref
counting_main states last t i = main_within states t (last - t) i

-- ---- roots of generations

abbrev pub or_other : Option Ref → Option Ref → Option Ref
or_other None other = other
or_other (Some r) other = Some r

abbrev pub root_if : Heap → ℕ → Option Root → Option Ref
root_if heap generation None = None
root_if heap generation (Some root) = if generation_at heap (root_of root.word) == generation then Some (root_of root.word) else None

-- the first handle's root of this generation
abbrev pub root_among : Heap → ℕ → List (Option Root) → Option Ref
root_among heap generation [] = None
root_among heap generation (root ∷ roots) = or_other (root_if heap generation root) (root_among heap generation roots)

-- the first one up to the state before step t
unfoldable pub root_until : (ℕ → State) → ℕ → ℕ → Option Ref
root_until states generation zero = root_among (states zero).heap generation (states zero).roots
root_until states generation (suc t) = or_other (root_until states generation t) (root_among (states (suc t)).heap generation (states (suc t)).roots)

abbrev pub root_of_generation : (ℕ → State) → ℕ → ℕ → Ref
root_of_generation states last generation = unwrap_or (root_until states generation last) no_ref

-- ---- keys

abbrev pub keys_of_node : Node → List ℕ
keys_of_node (Single key value) = key ∷ []
keys_of_node node = []

abbrev pub keys_of_slot : Option Slot → List ℕ
keys_of_slot None = []
keys_of_slot (Some slot) = keys_of_node slot.node

-- the keys of all singles up to the state before step t
unfoldable pub keys_until : (ℕ → State) → ℕ → List ℕ
keys_until states zero = flat_map keys_of_slot (states zero).heap.slots
keys_until states (suc t) = keys_until states t ++ flat_map keys_of_slot (states (suc t)).heap.slots

-- ---- the trie

-- the trie of a run of so many steps, where indirections have these depths and paths
abbrev pub trie_of : Bounds → (ℕ → State) → ℕ → (Ref → ℕ) → (Ref → ℕ) → Trie
trie_of limits states last depth path = record {
  kind = limits.hash;
  last = last;
  node = node_under states last;
  main = counting_main states last;
  root = root_of_generation states last;
  depth = depth;
  path = path;
  keys = keys_until states last;
}
