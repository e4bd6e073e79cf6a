-- What an arena keeps of its slots, counts and free slots.
use Rattle.std.specs.Prelude.{◌≡◌, ℕ, ◌+◌, ◌<◌, ◌≤◌, ◌^◌, Bool, true, List, length, All, Option, None, is_some, slice_index, slice_index_or, count_by, if◌then◌else◌}
use Rattle.std.specs.List.{sum_by}
use Rattle.slot_arena.specs.declared.refs.Ref.{Ref}
use Rattle.slot_arena.specs.declared.nodes.Slot.{Slot}
use Rattle.slot_arena.specs.Refs.{slot_of, birth_of, most_slots, birth_limit}
use Rattle.slot_arena.specs.Heaps.{node_of, entries_of, refs_of_node, refs_of_slot}
use Rattle.slot_arena.specs.Times.{times}
use Rattle.slot_arena.specs.Chains.{Chain}
use Rattle.slot_arena.specs.Arenas.{has_birth}
use Rattle.slot_arena.specs.Cells.{birth_of_slot}

abbrev pub live : List (Option Slot) → Ref → Bool
live slots r = has_birth (birth_of r) (slice_index_or slots (slot_of r) None)

-- how often the reference stands in slots in use and outside
abbrev pub found : List (Option Slot) → List Ref → Ref → ℕ
found slots outside r = sum_by (λ o. times r (refs_of_slot o)) slots + times r outside

-- what is counted for the reference: nothing, unless it names a slot in use
abbrev pub counted : List (Option Slot) → List ℕ → Ref → ℕ
counted slots counts r = if live slots r then slice_index counts (slot_of r) else 0

pub record IsKept (slots : List (Option Slot)) (counts : List ℕ) (free : Chain) (used : ℕ) (outside : List Ref) : Type 0 where
  pub few : length slots ≤ most_slots
  pub sizes : length counts ≡ length slots
  pub chained : free.size ≡ length slots
  -- counts are exact, and nothing stands anywhere that doesn't name a slot in use
  pub exact : (r : ℕ) → found slots outside r ≡ counted slots counts r
  pub unused : (slot : ℕ) → slice_index_or slots slot None ≡ None → slice_index counts slot ≡ 0
  pub apart : (slot : ℕ) → is_some (slice_index_or slots slot None) ≡ true → times slot free.slots ≡ 0
  pub in_use : used ≡ count_by is_some slots
  pub all : length free.slots + used ≡ length slots
  -- so that each birth fits a reference
  pub born : (slot : ℕ) → birth_of_slot (slice_index_or slots slot None) < birth_limit
  -- so that no count overflows
  pub narrow : (slot : ℕ) → length (refs_of_node (node_of (slice_index_or slots slot None))) ≤ 32
  pub held : (r : ℕ) → times r outside ≤ 2 ^ 31

-- the entries of a main node were born before it
abbrev pub HasOlder : Option Slot → Type 0
HasOlder o = All (λ r. birth_of r < birth_of_slot o) (entries_of (node_of o))

-- each birth was drawn, and what any node but an indirection refers to was born before it
pub record IsRising (slots : List (Option Slot)) (births : ℕ) : Type 0 where
  pub drawn : (slot : ℕ) → birth_of_slot (slice_index_or slots slot None) ≤ births
  pub older : (slot : ℕ) → HasOlder (slice_index_or slots slot None)
