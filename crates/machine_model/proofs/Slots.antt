-- The slots in use and the free ones are all slots, after every run.
use Rattle.std.proofs.Common.{◌≡◌, ℕ, zero, suc, ◌+◌, Bool, true, false, cond, nat_le, is_some, List, [], ◌∷◌, length, map, replicate, All, Option, Some, None}
use Rattle.std.proofs.Common.{option_map, refl, ap, ◌∙◌, subst, arith}
use Rattle.std.proofs.Math.Seq.{map-set_same}
use Rattle.std.proofs.lemmas.List.{map-set, length-set, length-map, length-replicate}
use Rattle.std.proofs.lemmas.List.Elements.{All-nil, All-head}
use Rattle.std.proofs.lemmas.Option.{none-some, same_Some}
use Rattle.machine_model.specs.Beneath.slot_arena.specs.Refs.{slot_of}
use Rattle.machine_model.specs.Beneath.slot_arena.specs.declared.refs.Ref.{Ref}
use Rattle.machine_model.specs.Beneath.slot_arena.specs.declared.nodes.Node.{Node}
use Rattle.machine_model.specs.Beneath.slot_arena.specs.declared.nodes.Prev.{Prev}
use Rattle.machine_model.specs.Beneath.slot_arena.specs.declared.nodes.Slot.{Slot}
use Rattle.epochs.specs.declared.limbo.Zeroed.{Zeroed}
use Rattle.machine_model.specs.declared.steps.Bounds.{Bounds}
use Rattle.machine_model.specs.declared.steps.Outcome.{Outcome}
use Rattle.machine_model.specs.declared.steps.Step.{Step}
use Rattle.machine_model.specs.Beneath.slot_arena.specs.Heaps.{Heap, stored, written, with_main, with_prev, with_main_word, taken, take_from, freed, in_use}
use Rattle.machine_model.specs.States.{State, first_state, empty_heap}
use Rattle.epochs.specs.Sweeping.{ripe}
use Rattle.machine_model.specs.Machine.{run, AreBounds}
use Rattle.machine_model.proofs.Along.{along}
use Rattle.machine_model.specs.Moves.{Begins, Goes, Ends, Sweeps, GivesUp}
use Rattle.machine_model.specs.Moves.{Moves}
use Rattle.machine_model.proofs.HeapMoves.{HeapMoves, Stays, Takes, Publishes, Restores, Commit, Fail, Frees, heap_moves}
use Rattle.machine_model.proofs.Rest.{IsRest, take_one, free_one, all_free}
use Rattle.machine_model.proofs.InUse.{InUse, flag_of_used, limbo_in_use, length-named_from}

-- which slots are used
abbrev flags : Heap → List Bool
flags heap = map is_some heap.slots

-- the heap has so many slots, and the free ones are those that aren't used
pub record AddsUp (slots : ℕ) (heap : Heap) : Type 0 where
  pub size : length heap.slots ≡ slots
  pub rest : IsRest (flags heap) heap.free

-- ---- each effect keeps that

-- a slot in use that changes is still in use
pub change_kept : (change : Slot → Slot) (o : Option Slot) → is_some (option_map change o) ≡ is_some o
change_kept change None = refl
change_kept change (Some slot) = refl

-- a write to a slot keeps that
written_kept : (slots : ℕ) (change : Slot → Slot) (heap : Heap) (r : Ref) → AddsUp slots heap → AddsUp slots (written change heap r)
unfolding stored
written_kept slots change heap r h = record {
  size = length-set heap.slots (slot_of r) _ ∙ h.size;
  rest = rw (map-set_same is_some heap.slots (slot_of r) (option_map change (stored heap r)) None (change_kept change (stored heap r))) (h.rest);
}

-- a write of a main word
with_main_kept : (slots : ℕ) (heap : Heap) (r m : Ref) → AddsUp slots heap → AddsUp slots (with_main heap r m)
unfolding with_main
with_main_kept slots heap r m h = written_kept slots (λ slot. record slot { node = with_main_word m slot.node }) heap r h

-- a write of a prev word
with_prev_kept : (slots : ℕ) (heap : Heap) (r : Ref) (p : Prev) → AddsUp slots heap → AddsUp slots (with_prev heap r p)
unfolding with_prev
with_prev_kept slots heap r p h = written_kept slots (λ slot. record slot { prev = p }) heap r h

-- taking a slot, by which are free
take_from_kept : (slots : ℕ) (heap : Heap) (node : Node) (free : List ℕ) → heap.free ≡ free → AddsUp slots heap → AddsUp slots (take_from heap node free)
take_from_kept slots heap node [] e h = h
take_from_kept slots heap node (slot ∷ free) e h = record {
  size = length-set heap.slots slot _ ∙ h.size;
  rest = rw (map-set is_some heap.slots slot _) (take_one (flags heap) slot free (rw e at (h.rest)));
}

-- taking a slot
pub taken_kept : (slots : ℕ) (heap : Heap) (node : Node) → AddsUp slots heap → AddsUp slots (taken heap node)
unfolding taken
taken_kept slots heap node h = take_from_kept slots heap node heap.free refl h

-- freeing a slot in use
freed_kept : (slots : ℕ) (heap : Heap) (r : Ref) → InUse heap r → AddsUp slots heap → AddsUp slots (freed heap r)
unfolding freed
freed_kept slots heap r is_used h = record {
  size = length-set heap.slots (slot_of r) _ ∙ h.size;
  rest = rw (map-set is_some heap.slots (slot_of r) None) (free_one (flags heap) (slot_of r) heap.free (h.rest) (flag_of_used heap r is_used));
}

-- each effect of a step
moves_kept : (slots : ℕ) (heap after : Heap) (due : Option Ref) → ((r : Ref) → due ≡ Some r → InUse heap r) → HeapMoves heap due after →
    AddsUp slots heap → AddsUp slots after
moves_kept slots heap after due is_used Stays h = h
moves_kept slots heap after due is_used (Takes node) h = taken_kept slots heap node h
moves_kept slots heap after due is_used (Publishes indirection replaced fresh e) h =
    with_prev_kept slots _ fresh _ (with_main_kept slots heap indirection fresh h)
moves_kept slots heap after due is_used (Restores indirection main previous e) h = with_main_kept slots heap indirection previous h
moves_kept slots heap after due is_used (Commit indirection main previous told e) h = with_prev_kept slots heap main _ h
moves_kept slots heap after due is_used (Fail indirection main previous told e) h = with_prev_kept slots heap main _ h
moves_kept slots heap after due is_used (Frees r e) h = freed_kept slots heap r (is_used r e) h

-- ---- runs

-- that, and each slot of limbo is in use
pub record IsSound (slots : ℕ) (state : State) : Type 0 where
  pub heap : AddsUp slots state.heap
  pub limbo : All (λ z. InUse state.heap z.at) state.limbo

-- what is ripe is what stands first in limbo, by whether it is ripe
ripe_by : (P : Ref → Type 0) (b : Bool) (q r : Ref) → P q → cond b (Some q) None ≡ Some r → P r
ripe_by P true q r h e = subst P (same_Some _ _ e) h
ripe_by P false q r h e = absurd (none-some r e)

-- what holds of each slot of limbo holds of the ripe one
pub ripe_in_use : (P : Ref → Type 0) (epoch : ℕ) (limbo : List Zeroed) → All (λ z. P z.at) limbo → (r : Ref) → ripe epoch limbo ≡ Some r → P r
ripe_in_use P epoch [] all r e = absurd (none-some r e)
ripe_in_use P epoch (z ∷ limbo) all r e = ripe_by P (nat_le (z.epoch + 2) epoch) z.at r (All-head (λ x. P x.at) z limbo all) e

-- after each step the slots of limbo are in use
settled_limbo : (state : State) (s : Step) (o : Outcome) (after : State) → Moves state s o after → All (λ z. InUse after.heap z.at) after.limbo
settled_limbo state s o after (Begins d) = limbo_in_use _ _ _ _
settled_limbo state s o after (Goes d is a g) = limbo_in_use _ _ _ _
settled_limbo state s o after (Ends d is a) = limbo_in_use _ _ _ _
settled_limbo state s o after (Sweeps spent) = limbo_in_use _ _ _ _
settled_limbo state s o after (GivesUp d is a) = limbo_in_use _ _ _ _

-- each step keeps that
pub sound_after : (slots : ℕ) (state : State) (s : Step) → IsSound slots state → (o : Outcome) (after : State) → Moves state s o after → IsSound slots after
sound_after slots state s h o after m = record {
  heap = moves_kept slots state.heap after.heap (ripe state.epoch state.limbo) (ripe_in_use (InUse state.heap) state.epoch state.limbo (h.limbo))
      (heap_moves state s o after m) (h.heap);
  limbo = settled_limbo state s o after m;
}

-- at first no slot is used
none_used_at_first : (n : ℕ) → map (is_some {T = Slot}) (replicate n None) ≡ replicate n false
none_used_at_first zero = refl
none_used_at_first (suc n) = ap (λ l. false ∷ l) (none_used_at_first n)

-- the empty heap adds up
pub empty_adds_up : (slots : ℕ) → AddsUp slots (empty_heap slots)
empty_adds_up slots = record {
  size = length-replicate slots None;
  rest = rw none_used_at_first (all_free slots);
}

-- the first state is sound
pub sound_at_first : (limits : Bounds) → IsSound limits.slots (first_state limits)
unfolding first_state
sound_at_first limits = record {
  heap = taken_kept limits.slots _ _ (taken_kept limits.slots (empty_heap limits.slots) _ (empty_adds_up limits.slots));
  limbo = All-nil _;
}

-- after every run
pub sound_along : (limits : Bounds) → AreBounds limits → (steps : List Step) → IsSound limits.slots (run limits steps)
sound_along limits ok =
    along limits (IsSound limits.slots) (sound_at_first limits) (λ steps s o after m h. sound_after limits.slots (run limits steps) s h o after m)

-- then the slots in use and the free ones are all slots
pub add_up : (slots : ℕ) (heap : Heap) → AddsUp slots heap → length (in_use heap) + length heap.free ≡ slots
add_up slots heap h = omega (arith, length-named_from 0 heap.slots, h.rest.sum, length-map heap.slots is_some, h.size)
