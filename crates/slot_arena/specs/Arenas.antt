-- What a contract sees of an arena.
use Rattle.std.specs.Prelude.{◌≡◌, ℕ, ◌+◌, ◌≤◌, ◌==◌, Bool, true, false, List, [], Option, Some, None, replicate, slice_index_or, All, if◌then◌else◌}
use Rattle.std.specs.List.{range_with_len}
use Rattle.slot_arena.specs.declared.refs.Ref.{Ref}
use Rattle.slot_arena.specs.declared.nodes.Node.{Node}
use Rattle.slot_arena.specs.declared.nodes.Node.TheVariants.{Indirection, Branch, Single, Tomb, List as Listed}
use Rattle.slot_arena.specs.declared.nodes.Slot.{Slot}
use Rattle.slot_arena.specs.Refs.{ref_to, birth_of, most_slots}
use Rattle.slot_arena.specs.Heaps.{Heap, stored}
use Rattle.slot_arena.specs.Counts.{count_of}
use Rattle.slot_arena.specs.Tallies.{Tally}
use Rattle.slot_arena.specs.Times.{times}

pub record Contents : Type 0 where
  pub heap : Heap
  -- the references that are held from outside the slots
  pub outside : List Ref
  -- the slots that are noted: their count reached or left zero while they were in use
  pub noted : List ℕ
  -- how often a link of the free slots, a count or a note was looked at
  pub ticks : ℕ

-- what a contract sees where this is counted and noted, and the links of free slots were looked at so often
abbrev pub contents_of : Heap → List Ref → ℕ → Tally → Contents
contents_of heap outside ticks tally = record { heap = heap; outside = outside; noted = tally.noted; ticks = ticks + tally.ticks }

-- the slot is in use under this birth
abbrev pub has_birth : ℕ → Option Slot → Bool
has_birth birth None = false
has_birth birth (Some slot) = slot.birth == birth

-- the reference names a slot in use
abbrev pub is_live : Heap → Ref → Bool
is_live heap r = has_birth (birth_of r) (stored heap r)

abbrev pub IsLive : Heap → Ref → Type 0
IsLive heap r = is_live heap r ≡ true

-- each of the references names a slot in use
abbrev pub AreLive : Heap → List Ref → Type 0
AreLive heap rs = All (IsLive heap) rs

abbrev pub is_indirection : Node → Bool
is_indirection (Indirection generation main) = true
is_indirection node = false

-- main nodes have a prev word
abbrev pub is_main_node : Node → Bool
is_main_node (Indirection generation main) = false
is_main_node (Branch bitmap entries) = true
is_main_node (Single key value) = false
is_main_node (Tomb single) = true
is_main_node (Listed singles) = true

abbrev pub waiting_in : Heap → List Ref → ℕ → Option Slot → Option Ref
waiting_in heap outside slot None = None
waiting_in heap outside slot (Some kept) = if count_of heap outside (ref_to kept.birth slot) == 0 then Some (ref_to kept.birth slot) else None

-- the reference to the slot, where it is in use and nothing refers to it
abbrev pub waiting : Contents → ℕ → Option Ref
waiting arena slot = waiting_in arena.heap arena.outside slot (slice_index_or arena.heap.slots slot None)

-- a slot that isn't noted now wasn't before, and waits now where it did
abbrev pub NotesWaiting : Contents → Contents → Type 0
NotesWaiting before after = (slot : ℕ) → times slot after.noted ≡ 0 → (times slot before.noted ≡ 0) × (waiting before slot ≡ waiting after slot)

-- a slot that isn't noted now wasn't before, and waits now where it did, unless it is this one
abbrev pub NotesWaitingBut : ℕ → Contents → Contents → Type 0
NotesWaitingBut one before after = (slot : ℕ) → times slot after.noted ≡ 0 → (times slot before.noted ≡ 0) × ((slot ≡ one → ⊥) → waiting before slot ≡ waiting after slot)

-- as many slots as an arena may have
abbrev pub AreSlots : ℕ → Type 0
AreSlots slots = (2 ≤ slots) × (slots ≤ most_slots)

-- an arena of so many slots, all free
abbrev pub new_arena : ℕ → Contents
new_arena slots = record { heap = record { slots = replicate slots None; free = range_with_len 0 slots; births = 0 }; outside = []; noted = []; ticks = slots }
