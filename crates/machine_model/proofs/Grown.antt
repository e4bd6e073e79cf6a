-- What stands under a reference, and the heap that only grows: what is in use stands in both.
use Rattle.std.proofs.Common.{◌≡◌, ℕ, zero, suc, ◌==◌, Option, Some, None, sym, ◌∙◌, ap, subst, eqb-true}
use Rattle.std.proofs.lemmas.Option.{none-some, cond_some}
use Rattle.machine_model.specs.Beneath.slot_arena.specs.Refs.{birth_of}
use Rattle.machine_model.specs.Beneath.slot_arena.specs.declared.refs.Ref.{Ref}
use Rattle.machine_model.specs.Beneath.slot_arena.specs.declared.nodes.Slot.{Slot}
use Rattle.machine_model.specs.Beneath.slot_arena.specs.Heaps.{Heap, stored, node_at, node_of, prev_at, prev_of}
use Rattle.machine_model.specs.States.{State}
use Rattle.machine_model.specs.Grown.{of_birth, standing, or_before, grown, node_under, prev_word}

-- what stands under a birth is the slot with that birth
pub birth_parts : (birth : ℕ) (o : Option Slot) (slot : Slot) → of_birth birth o ≡ Some slot → (o ≡ Some slot) × (slot.birth ≡ birth)
birth_parts birth None slot e = absurd (none-some slot e)
birth_parts birth (Some found) slot e =
    let (b, same) = cond_some (found.birth == birth) found slot e in
    (ap Some same, subst (λ s. s.birth ≡ birth) same (eqb-true _ _ b))

pub standing_parts : (heap : Heap) (r : Ref) (slot : Slot) → standing heap r ≡ Some slot → (stored heap r ≡ Some slot) × (slot.birth ≡ birth_of r)
standing_parts heap r slot e = birth_parts (birth_of r) (stored heap r) slot e

-- then the node and the prev word are those of the slot
pub node_standing : (heap : Heap) (r : Ref) (slot : Slot) → standing heap r ≡ Some slot → node_at heap r ≡ slot.node
unfolding node_at
node_standing heap r slot e = ap node_of ((standing_parts heap r slot e).0)

pub prev_standing : (heap : Heap) (r : Ref) (slot : Slot) → standing heap r ≡ Some slot → prev_at heap r ≡ slot.prev
unfolding prev_at
prev_standing heap r slot e = ap prev_of ((standing_parts heap r slot e).0)

-- what stands is what stood last
pub stands_in : (now before : Option Slot) (slot : Slot) → now ≡ Some slot → or_before now before ≡ Some slot
stands_in now before slot e = ap (λ o. or_before o before) e

pub grown_in_use : (states : ℕ → State) (t : ℕ) (r : Ref) (slot : Slot) → standing (states t).heap r ≡ Some slot → grown states t r ≡ Some slot
unfolding grown
grown_in_use states zero r slot e = e
grown_in_use states (suc t) r slot e = stands_in _ (grown states t r) slot e

-- so a look-up of what stands finds what stood last
pub node_grown : (states : ℕ → State) (t : ℕ) (r : Ref) (slot : Slot) → standing (states t).heap r ≡ Some slot → node_at (states t).heap r ≡ node_under states t r
node_grown states t r slot e = node_standing (states t).heap r slot e ∙ sym (ap node_of (grown_in_use states t r slot e))

pub prev_grown : (states : ℕ → State) (t : ℕ) (r : Ref) (slot : Slot) → standing (states t).heap r ≡ Some slot → prev_at (states t).heap r ≡ prev_word states t r
prev_grown states t r slot e = prev_standing (states t).heap r slot e ∙ sym (ap prev_of (grown_in_use states t r slot e))
