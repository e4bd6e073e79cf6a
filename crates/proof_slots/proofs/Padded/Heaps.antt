-- The padded heap is looked up, written and swept like the heap.
use Rattle.std.proofs.Common.{◌≡◌, ℕ, ◌+◌, ◌<◌, ◌==◌, ◌&&◌, ◌++◌, not, List, [], ◌∷◌, length, set, map, count_by, option_map, Option, None, refl}
use Rattle.std.proofs.Common.{sym, ap, ◌∙◌, arith}
use Rattle.std.specs.Prelude.{filter}
use Rattle.std.specs.List.{list_any, range_with_len}
use Rattle.std.proofs.lemmas.List.{get_or_past}
use Rattle.proof_slots.specs.Vocabulary.{Ref, Node, Prev, Slot, slot_of, Heap, stored, node_at, node_of, prev_at, prev_of, with_main, with_prev, written, main_changed, prev_changed, next_ref}
use Rattle.proof_slots.specs.Vocabulary.{ref_in, taken, take_from, freed, in_use, heap_refs, count_of, Zeroed, limbo_after, is_in, by_birth}
use Rattle.proof_slots.specs.Padding.{padded_heap}
use Rattle.proof_slots.proofs.Padded.Lists.{longer, get_longer, set_longer, named_longer, held_longer}

-- a slot of the heap is free
abbrev pub HasFree : Heap → Type 0
HasFree heap = (slot : ℕ) × (free : List ℕ) × (heap.free ≡ slot ∷ free) × (slot < length heap.slots)

module _ (more slots : ℕ) (heap : Heap) where
  abbrev pub wide : Heap
  wide = padded_heap more slots heap

  -- ---- looking up

  pub stored_wide : (r : Ref) → stored wide r ≡ stored heap r
  unfolding stored
  stored_wide r = get_longer more heap.slots (slot_of r)

  pub node_wide : (r : Ref) → node_at wide r ≡ node_at heap r
  unfolding node_at
  node_wide r = ap node_of (stored_wide r)

  pub prev_wide : (r : Ref) → prev_at wide r ≡ prev_at heap r
  unfolding prev_at
  prev_wide r = ap prev_of (stored_wide r)

  -- ---- writing

  written_wide : (change : Slot → Slot) (r : Ref) → written change wide r ≡ padded_heap more slots (written change heap r)
  unfolding stored
  written_wide change r =
      let same : option_map change (stored wide r) ≡ option_map change (stored heap r) = ap (option_map change) (stored_wide r) in
      ap (λ (s : Option Slot). record { slots = set (longer more heap.slots) (slot_of r) s; free = heap.free ++ range_with_len slots more; births = heap.births }) same
      ∙ ap (λ (l : List (Option Slot)). record { slots = l; free = heap.free ++ range_with_len slots more; births = heap.births })
      (set_longer more heap.slots (slot_of r) (option_map change (stored heap r)) (λ past. ap (option_map change) (get_or_past heap.slots (slot_of r) None past)))

  pub with_main_wide : (r m : Ref) → with_main wide r m ≡ padded_heap more slots (with_main heap r m)
  unfolding with_main
  with_main_wide r m = written_wide (main_changed m) r

  pub with_prev_wide : (r : Ref) (p : Prev) → with_prev wide r p ≡ padded_heap more slots (with_prev heap r p)
  unfolding with_prev
  with_prev_wide r p = written_wide (prev_changed p) r

  pub freed_wide : (r : Ref) → freed wide r ≡ padded_heap more slots (freed heap r)
  unfolding freed
  freed_wide r =
      ap (λ (l : List (Option Slot)). record { slots = l; free = slot_of r ∷ (heap.free ++ range_with_len slots more); births = heap.births })
      (set_longer more heap.slots (slot_of r) None (λ past. refl))

  -- ---- making, where a slot is free

  ref_by : (free : List ℕ) (slot : ℕ) (rest : List ℕ) → free ≡ slot ∷ rest → ref_in heap.births (free ++ range_with_len slots more) ≡ ref_in heap.births free
  ref_by [] slot rest e = refl' e
    where
      refl' : [] ≡ slot ∷ rest → ref_in heap.births (range_with_len slots more) ≡ None
      refl' e = cc e
  ref_by (first ∷ free) slot rest e = refl

  pub next_wide : HasFree heap → next_ref wide ≡ next_ref heap
  next_wide (slot, rest, e, within) = ref_by heap.free slot rest e

  take_by : (node : Node) (slot : ℕ) (free : List ℕ) → slot < length heap.slots →
      take_from wide node (slot ∷ free ++ range_with_len slots more) ≡ padded_heap more slots (take_from heap node (slot ∷ free))
  take_by node slot free within =
      ap (λ (l : List (Option Slot)). record { slots = l; free = free ++ range_with_len slots more; births = heap.births + 1 })
      (set_longer more heap.slots slot _ (λ past. absurd (omega (arith, past, within))))

  pub taken_wide : (node : Node) → HasFree heap → taken wide node ≡ padded_heap more slots (taken heap node)
  unfolding taken
  taken_wide node (slot, free, e, within) =
      ap (λ (l : List ℕ). take_from wide node (l ++ range_with_len slots more)) e ∙ take_by node slot free within
      ∙ ap (λ (l : List ℕ). padded_heap more slots (take_from heap node l)) (sym e)

  -- ---- limbo

  pub in_use_wide : in_use wide ≡ in_use heap
  in_use_wide = named_longer more 0 heap.slots

  pub refs_wide : heap_refs wide ≡ heap_refs heap
  refs_wide = held_longer more heap.slots

  -- limbo, by what is in use and what stands in slots
  abbrev limbo_by : List Ref → ℕ → List Zeroed → List Ref → List Ref → List Zeroed
  limbo_by outside epoch limbo used refs =
      filter (λ (z : Zeroed). list_any (λ q. q == z.at) used && (count_by (λ q. q == z.at) (refs ++ outside) == 0)) limbo
      ++ map (λ r. record { at = r; epoch = epoch }) (by_birth (filter (λ r. (count_by (λ q. q == r) (refs ++ outside) == 0) && not (is_in limbo r)) used))

  pub limbo_wide : (outside : List Ref) (epoch : ℕ) (limbo : List Zeroed) → limbo_after wide outside epoch limbo ≡ limbo_after heap outside epoch limbo
  unfolding count_of
  limbo_wide outside epoch limbo =
      ap (λ used. limbo_by outside epoch limbo used (heap_refs wide)) in_use_wide ∙ ap (λ refs. limbo_by outside epoch limbo (in_use heap) refs) refs_wide
