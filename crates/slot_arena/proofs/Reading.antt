-- Words of the definition, read in the list of slots.
use Rattle.std.proofs.Common.{◌≡◌, ℕ, ◌+◌, true, List, [], ◌∷◌, get_or, set, All, Option, Some, None, is_some, refl, sym, ap, ◌∙◌}
use Rattle.std.proofs.lemmas.Bool.{false≢true}
use Rattle.slot_arena.specs.declared.refs.Ref.{Ref}
use Rattle.slot_arena.specs.declared.nodes.Node.{Node}
use Rattle.slot_arena.specs.declared.nodes.Prev.{Prev}
use Rattle.slot_arena.specs.declared.nodes.Prev.TheVariants as prev
use Rattle.slot_arena.specs.declared.nodes.Slot.{Slot}
use Rattle.slot_arena.specs.Refs.{slot_of, birth_of}
use Rattle.slot_arena.specs.Heaps.{Heap, stored, node_of, node_at, prev_of, prev_at, taken, take_from, freed, with_main, with_prev, main_changed, prev_changed}
use Rattle.std.specs.Prelude.{option_map}
use Rattle.slot_arena.specs.Arenas.{Contents, has_birth, is_live, IsLive, AreLive}
use Rattle.slot_arena.specs.Kept.{live}

pub live_seen : (heap : Heap) (r : Ref) → IsLive heap r → live heap.slots r ≡ true
unfolding stored
live_seen heap r has = has

pub live_is : (heap : Heap) (r : Ref) → is_live heap r ≡ live heap.slots r
unfolding stored
live_is heap r = refl

pub live_shown : (heap : Heap) (r : Ref) → live heap.slots r ≡ true → IsLive heap r
unfolding stored
live_shown heap r has = has

-- what is live in an arena is so in its slots
pub live_inside : (before after : Contents) → before ≡ after → (r : Ref) → IsLive after.heap r → live before.heap.slots r ≡ true
live_inside before after same r has = ap (λ (a : Contents). live a.heap.slots r) same ∙ live_seen after.heap r has

pub all_seen : (heap : Heap) (rs : List Ref) → AreLive heap rs → All (λ q. live heap.slots q ≡ true) rs
all_seen heap rs all k d within = live_seen heap (get_or rs k d) (all k d within)

-- what a live reference names
pub slot_seen : (slots : List (Option Slot)) (r : Ref) → live slots r ≡ true → (slot : Slot) × (get_or slots (slot_of r) None ≡ Some slot)
slot_seen slots r has = by_slot (get_or slots (slot_of r) None) refl
  where
    by_slot : (o : Option Slot) → get_or slots (slot_of r) None ≡ o → (slot : Slot) × (get_or slots (slot_of r) None ≡ Some slot)
    by_slot None none = absurd (false≢true (sym (ap (has_birth (birth_of r)) none) ∙ has))
    by_slot (Some slot) some = (slot, some)

pub used_seen : (slots : List (Option Slot)) (r : Ref) → live slots r ≡ true → is_some (get_or slots (slot_of r) None) ≡ true
used_seen slots r has = ap is_some (slot_seen slots r has).1

pub node_seen : (heap : Heap) (r : Ref) → node_of (get_or heap.slots (slot_of r) None) ≡ node_at heap r
unfolding node_at stored
node_seen heap r = refl

pub prev_seen : (heap : Heap) (r : Ref) → prev_of (get_or heap.slots (slot_of r) None) ≡ prev_at heap r
unfolding prev_at stored
prev_seen heap r = refl

-- where no slot is free nothing is taken
pub taken_none : (heap : Heap) (node : Node) → heap.free ≡ [] → taken heap node ≡ heap
unfolding taken
taken_none heap node none = ap (take_from heap node) none

pub taken_first : (heap : Heap) (node : Node) (slot : ℕ) (rest : List ℕ) → heap.free ≡ slot ∷ rest →
    taken heap node ≡ record { slots = set heap.slots slot (Some (record { birth = heap.births + 1; node = node; prev = prev.None })); free = rest; births = heap.births + 1 }
unfolding taken
taken_first heap node slot rest first = ap (take_from heap node) first

pub freed_seen : (heap : Heap) (r : Ref) → freed heap r ≡ record { slots = set heap.slots (slot_of r) None; free = slot_of r ∷ heap.free; births = heap.births }
unfolding freed
freed_seen heap r = refl

pub main_seen : (heap : Heap) (r m : Ref) → with_main heap r m ≡ record {
  slots = set heap.slots (slot_of r) (option_map (main_changed m) (get_or heap.slots (slot_of r) None));
  free =
      heap.free;
  births = heap.births;
}
unfolding with_main stored
main_seen heap r m = refl

pub prev_put_seen : (heap : Heap) (r : Ref) (p : Prev)
    → with_prev heap r p ≡ record { slots = set heap.slots (slot_of r) (option_map (prev_changed p) (get_or heap.slots (slot_of r) None)); free = heap.free; births = heap.births }
unfolding with_prev stored
prev_put_seen heap r p = refl
