-- The heap: what stands in the slots, which slots are free, and how many births were drawn.
use Rattle.std.specs.Prelude.{ℕ, ◌+◌, List, [], ◌∷◌, ◌++◌, flat_map, Option, Some, None, option_map, slice_index_or, slice_set, take}
use Rattle.arrayvec.specs.ArrayVec.{ArrayVec}
use Rattle.slot_arena.specs.Refs.{ref_to, slot_of}
use Rattle.slot_arena.specs.declared.refs.Ref.{Ref}
use Rattle.slot_arena.specs.declared.nodes.Node.{Node}
use Rattle.slot_arena.specs.declared.nodes.Node.TheVariants.{Indirection, Branch, Single, Tomb, List as Listed}
use Rattle.slot_arena.specs.declared.nodes.Prev.{Prev}
use Rattle.slot_arena.specs.declared.nodes.Prev.TheVariants as prev
use Rattle.slot_arena.specs.declared.nodes.Slot.{Slot}

pub record Heap : Type 0 where
  -- each slot, if it is in use
  pub slots : List (Option Slot)
  -- the numbers of the free slots, the next one first
  pub free : List ℕ
  -- how many births were drawn
  pub births : ℕ

-- Looking up. A look-up goes by the slot alone, and where nothing stands there it gives a default. The laws of memory say
-- that a machine's steps look up what was made under that very reference, and so meet no default.

-- the reference that stands for none: births begin at 1, so it is never drawn
abbrev pub no_ref : Ref
no_ref = 0

-- these references as the entries of a node, which has room for 32; no machine ever needs more
abbrev pub entries_from : List Ref → ArrayVec Ref
entries_from rs = record { items = take 32 rs }

-- a branch without entries
abbrev pub empty_branch : Node
empty_branch = Branch 0 (entries_from [])

-- what stands in the slot that a reference names
unfoldable pub stored : Heap → Ref → Option Slot
stored heap r = slice_index_or heap.slots (slot_of r) None

abbrev pub node_of : Option Slot → Node
node_of None = empty_branch
node_of (Some slot) = slot.node

-- the node
unfoldable pub node_at : Heap → Ref → Node
node_at heap r = node_of (stored heap r)

abbrev pub prev_of : Option Slot → Prev
prev_of None = prev.None
prev_of (Some slot) = slot.prev

-- the prev word of a main node
unfoldable pub prev_at : Heap → Ref → Prev
prev_at heap r = prev_of (stored heap r)

abbrev pub main_of : Node → Ref
main_of (Indirection generation main) = main
main_of node = no_ref

-- the main word of an indirection
abbrev pub main_at : Heap → Ref → Ref
main_at heap r = main_of (node_at heap r)

abbrev pub generation_of : Node → ℕ
generation_of (Indirection generation main) = generation
generation_of node = 0

-- the generation of an indirection
abbrev pub generation_at : Heap → Ref → ℕ
generation_at heap r = generation_of (node_at heap r)

-- the entries of a branch, the singles of a list, the single of a tomb
abbrev pub entries_of : Node → List Ref
entries_of (Indirection generation main) = []
entries_of (Branch bitmap entries) = entries.items
entries_of (Single key value) = []
entries_of (Tomb single) = single ∷ []
entries_of (Listed singles) = singles.items

-- the entry of a main node at a position
abbrev pub entry_at : Heap → Ref → ℕ → Ref
entry_at heap main position = slice_index_or (entries_of (node_at heap main)) position no_ref

abbrev pub bitmap_of : Node → ℕ
bitmap_of (Branch bitmap entries) = bitmap
bitmap_of node = 0

-- Writing, taking and freeing.

-- the heap with what stands in a slot changed
abbrev pub written : (Slot → Slot) → Heap → Ref → Heap
written change heap r = record heap { slots = slice_set heap.slots (slot_of r) (option_map change (stored heap r)) }

abbrev pub with_main_word : Ref → Node → Node
with_main_word m (Indirection generation main) = Indirection generation m
with_main_word m node = node

abbrev pub main_changed : Ref → Slot → Slot
main_changed m slot = record slot { node = with_main_word m slot.node }

abbrev pub prev_changed : Prev → Slot → Slot
prev_changed p slot = record slot { prev = p }

-- the heap in which the indirection's main word is m
unfoldable pub with_main : Heap → Ref → Ref → Heap
with_main heap r m = written (main_changed m) heap r

-- the heap in which the main node's prev word is p
unfoldable pub with_prev : Heap → Ref → Prev → Heap
with_prev heap r p = written (prev_changed p) heap r

abbrev pub ref_in : ℕ → List ℕ → Option Ref
ref_in births [] = None
ref_in births (slot ∷ free) = Some (ref_to (births + 1) slot)

-- the reference that the next slot to be taken will have, if one is free
abbrev pub next_ref : Heap → Option Ref
next_ref heap = ref_in heap.births heap.free

abbrev pub take_from : Heap → Node → List ℕ → Heap
take_from heap node [] = heap
take_from heap node (slot ∷ free) =
    record { slots = slice_set heap.slots slot (Some (record { birth = heap.births + 1; node = node; prev = prev.None })); free = free; births = heap.births + 1 }

-- the heap in which the first free slot has this node, under a new birth
unfoldable pub taken : Heap → Node → Heap
taken heap node = take_from heap node heap.free

-- the heap in which the slot is free, the first of the free ones
unfoldable pub freed : Heap → Ref → Heap
freed heap r = record heap { slots = slice_set heap.slots (slot_of r) None; free = slot_of r ∷ heap.free }

-- References.

-- the reference that is there, if one is
abbrev pub refs_of_option : Option Ref → List Ref
refs_of_option None = []
refs_of_option (Some r) = r ∷ []

-- the references that stand in a node
abbrev pub refs_of_node : Node → List Ref
refs_of_node (Indirection generation main) = main ∷ []
refs_of_node (Branch bitmap entries) = entries.items
refs_of_node (Single key value) = []
refs_of_node (Tomb single) = single ∷ []
refs_of_node (Listed singles) = singles.items

-- the reference that stands in a prev word
abbrev pub refs_of_prev : Prev → List Ref
refs_of_prev prev.None = []
refs_of_prev (prev.Pending p) = p ∷ []
refs_of_prev (prev.Failed p) = p ∷ []

abbrev pub refs_of_slot : Option Slot → List Ref
refs_of_slot None = []
refs_of_slot (Some slot) = refs_of_node slot.node ++ refs_of_prev slot.prev

-- the references that stand in slots in use
abbrev pub heap_refs : Heap → List Ref
heap_refs heap = flat_map refs_of_slot heap.slots

abbrev pub named_from : ℕ → List (Option Slot) → List Ref
named_from n [] = []
named_from n (None ∷ slots) = named_from (n + 1) slots
named_from n (Some slot ∷ slots) = ref_to slot.birth n ∷ named_from (n + 1) slots

-- the references to the slots in use, by rising slot
abbrev pub in_use : Heap → List Ref
in_use heap = named_from 0 heap.slots

-- the main node that counts in an indirection with this main node: the one before it while it is pending or failed
abbrev pub logical : Ref → Prev → Ref
logical m prev.None = m
logical m (prev.Pending p) = p
logical m (prev.Failed p) = p

-- the logical main node of an indirection
abbrev pub logical_main : Heap → Ref → Ref
logical_main heap indirection = logical (main_at heap indirection) (prev_at heap (main_at heap indirection))
