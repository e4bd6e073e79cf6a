-- The heap that only grows: what stood last under each reference. References are never drawn twice, so it holds all nodes
-- that a run ever made, also those whose slots are free again.
use Rattle.std.specs.Prelude.{ℕ, zero, suc, ◌==◌, Option, Some, None, if◌then◌else◌}
use Rattle.machine_model.specs.Beneath.slot_arena.specs.Refs.{birth_of}
use Rattle.machine_model.specs.Beneath.slot_arena.specs.declared.refs.Ref.{Ref}
use Rattle.machine_model.specs.Beneath.slot_arena.specs.declared.nodes.Node.{Node}
use Rattle.machine_model.specs.Beneath.slot_arena.specs.declared.nodes.Prev.{Prev}
use Rattle.machine_model.specs.Beneath.slot_arena.specs.declared.nodes.Slot.{Slot}
use Rattle.machine_model.specs.Beneath.slot_arena.specs.Heaps.{Heap, stored, node_of, prev_of, main_of, logical}
use Rattle.machine_model.specs.States.{State}

abbrev pub of_birth : ℕ → Option Slot → Option Slot
of_birth birth None = None
of_birth birth (Some slot) = if slot.birth == birth then Some slot else None

-- what stands under a reference: its slot is in use, with that very birth
abbrev pub standing : Heap → Ref → Option Slot
standing heap r = of_birth (birth_of r) (stored heap r)

abbrev pub or_before : Option Slot → Option Slot → Option Slot
or_before None before = before
or_before (Some slot) before = Some slot

-- what stood last under a reference up to the state before step t
unfoldable pub grown : (ℕ → State) → ℕ → Ref → Option Slot
grown states zero r = standing (states zero).heap r
grown states (suc t) r = or_before (standing (states (suc t)).heap r) (grown states t r)

-- the node under a reference, the main word of an indirection, the prev word of a main node and the logical main node of an
-- indirection in it
abbrev pub node_under : (ℕ → State) → ℕ → Ref → Node
node_under states t r = node_of (grown states t r)

abbrev pub main_word : (ℕ → State) → ℕ → Ref → Ref
main_word states t i = main_of (node_under states t i)

abbrev pub prev_word : (ℕ → State) → ℕ → Ref → Prev
prev_word states t m = prev_of (grown states t m)

abbrev pub main_before : (ℕ → State) → ℕ → Ref → Ref
main_before states t i = logical (main_word states t i) (prev_word states t (main_word states t i))
