-- Without sweeps slots are taken in the order of their numbers.
use Rattle.std.proofs.Common.{◌≡◌, ℕ, suc, ◌+◌, List, [], ◌∷◌, length, drop, get_or, set, option_map, Option, Some, None, refl, sym, ap, ◌∙◌, subst, inl, inr, arith}
use Rattle.std.specs.List.{range_with_len}
use Rattle.std.proofs.lemmas.Bool.{cases_eq}
use Rattle.std.proofs.lemmas.List.FromFn.{length-range_with_len}
use Rattle.std.proofs.lemmas.Option.{none-some, same_Some}
use Rattle.proof_slots.specs.Vocabulary.{Ref, Node, Indirection, Prev, Slot, slot_of, ref_to, Heap, stored, empty_branch, taken, take_from, written, with_main, with_prev, main_changed, prev_changed}
use Rattle.proof_slots.specs.Vocabulary.{first_state, empty_heap, first_heap, run}
use Rattle.proof_slots.specs.Beneath.slot_arena.specs.declared.nodes.Prev.TheVariants as prev
use Rattle.machine_model.proofs.Found.{found_here, found_elsewhere, none_found}
use Rattle.machine_model.proofs.Grown.{standing_parts}
use Rattle.machine_model.proofs.HeapMoves.{HeapMoves, Stays, Takes, Publishes, Restores, Commit, Fail, Frees}
use Rattle.proof_slots.specs.Unswept.{SlotsAreTakenInOrder}
use Rattle.proof_slots.proofs.Unswept.Shrinking.{unswept_along}

record IsInOrder (heap : Heap) : Type 0 where
  pub free : heap.free ≡ range_with_len heap.births (length heap.free)
  pub births : (k : ℕ) (slot : Slot) → get_or heap.slots k None ≡ Some slot → slot.birth ≡ k + 1

module _ (heap : Heap) (h : IsInOrder heap) where
  -- a slot is taken
  put_births : (slot : ℕ) (put : Slot) → put.birth ≡ slot + 1 → (k : ℕ) (found : Slot) → get_or (set heap.slots slot (Some put)) k None ≡ Some found → found.birth ≡ k + 1
  put_births slot put birth k found e = elim (cases_eq k slot) [
    | inl same ↦
        let is = same_Some _ _ (found_here heap.slots slot (Some put) found (subst (λ i. get_or (set heap.slots slot (Some put)) i None ≡ Some found) same e)) in
        omega (arith, birth, same, ap (λ (x : Slot). x.birth) is)
    | inr other ↦ h.births k found (sym (found_elsewhere heap.slots slot k (Some put) other) ∙ e)
  ]

  take_ordered : (node : Node) (free : List ℕ) → heap.free ≡ free → IsInOrder (take_from heap node free)
  take_ordered node [] e = h
  take_ordered node (slot ∷ free) e =
      let all : slot ∷ free ≡ range_with_len heap.births (suc (length free)) = sym e ∙ h.free ∙ ap (λ (l : List ℕ). range_with_len heap.births (length l)) e in
      let first : slot ≡ heap.births = ap (λ (l : List ℕ). get_or l 0 slot) all in
      record {
        free = ap (drop 1) all;
        births = put_births slot (record { birth = heap.births + 1; node = node; prev = prev.None }) (omega (arith, first));
      }

  taken_ordered : (node : Node) → IsInOrder (taken heap node)
  unfolding taken
  taken_ordered node = take_ordered node heap.free refl

  -- a slot is written
  changed_birth : (change : Slot → Slot) → ((was : Slot) → (change was).birth ≡ was.birth) → (k : ℕ) (o : Option Slot) → get_or heap.slots k None ≡ o → (now : Slot) →
      option_map change o ≡ Some now → now.birth ≡ k + 1
  changed_birth change same k None at now e = absurd (none-some now e)
  changed_birth change same k (Some was) at now e = omega (arith, ap (λ (x : Slot). x.birth) (same_Some _ _ e), same was, h.births k was at)

  written_ordered : (change : Slot → Slot) → ((was : Slot) → (change was).birth ≡ was.birth) → (r : Ref) → IsInOrder (written change heap r)
  unfolding stored
  written_ordered change same r = record {
    free = h.free;
    births = λ k now e. elim (cases_eq k (slot_of r)) [
      | inl here ↦
          let put = option_map change (stored heap r) in
          let is = found_here heap.slots (slot_of r) put now (subst (λ i. get_or (set heap.slots (slot_of r) put) i None ≡ Some now) here e) in
          omega (arith, here, changed_birth change same (slot_of r) (get_or heap.slots (slot_of r) None) refl now is)
      | inr other ↦ h.births k now (sym (found_elsewhere heap.slots (slot_of r) k _ other) ∙ e)
    ];
  }

  main_ordered : (r m : Ref) → IsInOrder (with_main heap r m)
  unfolding with_main
  main_ordered r m = written_ordered (main_changed m) (λ was. refl) r

  prev_ordered : (r : Ref) (p : Prev) → IsInOrder (with_prev heap r p)
  unfolding with_prev
  prev_ordered r p = written_ordered (prev_changed p) (λ was. refl) r

ordered : (heap after : Heap) → HeapMoves heap None after → IsInOrder heap → IsInOrder after
ordered heap after Stays h = h
ordered heap after (Takes node) h = taken_ordered heap h node
ordered heap after (Publishes i replaced fresh e) h = prev_ordered _ (main_ordered heap h i fresh) fresh (prev.Pending replaced)
ordered heap after (Restores i main previous e) h = main_ordered heap h i previous
ordered heap after (Commit i main previous told e) h = prev_ordered heap h main prev.None
ordered heap after (Fail i main previous told e) h = prev_ordered heap h main (prev.Failed previous)
ordered heap after (Frees r e) h = absurd (none-some r e)

empty_ordered : (n : ℕ) → IsInOrder (empty_heap n)
empty_ordered n = record { free = ap (range_with_len 0) (sym (length-range_with_len 0 n)); births = λ k slot e. absurd (none_found n k slot e) }

first_ordered : (n : ℕ) → IsInOrder (first_heap n)
first_ordered n = taken_ordered _ (taken_ordered _ (empty_ordered n) empty_branch) (Indirection 0 (ref_to 1 0))

pub slots_are_taken_in_order : SlotsAreTakenInOrder
unfolding first_state stored
slots_are_taken_in_order limits steps quiet =
    let h = unswept_along IsInOrder ordered steps (first_state limits) quiet (first_ordered limits.slots) in (
      h.free,
      λ r (slot, found). let (at, birth) = standing_parts (run limits steps).heap r slot found in sym birth ∙ h.births (slot_of r) slot at,
    )
