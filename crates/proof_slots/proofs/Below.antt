-- What is in use stands below as many slots as births were drawn.
use Rattle.std.proofs.Common.{◌≡◌, ℕ, zero, suc, ◌+◌, ◌<◌, ◌≤◌, List, ◌∷◌, get_or, set, option_map, Option, Some, None, refl, sym, ◌∙◌, subst, inl, inr, arith}
use Rattle.std.specs.List.{range_with_len}
use Rattle.std.proofs.lemmas.Bool.{cases_eq}
use Rattle.std.proofs.lemmas.Option.{none-some}
use Rattle.machine_model.proofs.Along.{along}
use Rattle.machine_model.proofs.Found.{found_elsewhere, found_here, none_found}
use Rattle.machine_model.proofs.Grown.{standing_parts}
use Rattle.machine_model.proofs.HeapMoves.{HeapMoves, Stays, Takes, Publishes, Restores, Commit, Fail, Frees, heap_moves}
use Rattle.machine_model.proofs.InUse.{InUse}
use Rattle.machine_model.proofs.Slots.{ripe_in_use}
use Rattle.proof_memory.specs.Laws.{IsInUse}
use Rattle.proof_memory.proofs.Safety.AtEachTime.{safe_along}
use Rattle.proof_memory.proofs.Safety.States.{stands_in_use}
use Rattle.proof_slots.specs.Beneath.slot_arena.specs.declared.nodes.Prev.TheVariants as prev
use Rattle.proof_slots.specs.Vocabulary.{Ref, Node, Prev, Slot, slot_of, ref_to, Heap, Indirection, stored, empty_branch, taken, take_from, freed, written, with_main, with_prev, main_changed}
use Rattle.proof_slots.specs.Vocabulary.{prev_changed}
use Rattle.proof_slots.specs.Vocabulary.{Bounds, Step, AreBounds, first_state, empty_heap, first_heap, run}
use Rattle.proof_slots.specs.Slots.{SlotsAreBelowBirths}

-- the free slots from this one on were never taken, and stand in order behind all others
data IsRest (n : ℕ) : List ℕ → Type 0 where
  untaken : (size : ℕ) → IsRest n (range_with_len n size)
  again : (slot : ℕ) (free : List ℕ) → slot < n → IsRest n free → IsRest n (slot ∷ free)

record IsFilled (heap : Heap) : Type 0 where
  pub first : ℕ
  pub few : first ≤ heap.births
  pub rest : IsRest first heap.free
  pub below : (k : ℕ) (slot : Slot) → get_or heap.slots k None ≡ Some slot → k < first

put_below : (slots : List (Option Slot)) (n slot : ℕ) (put : Option Slot) → slot < n → ((k : ℕ) (found : Slot) → get_or slots k None ≡ Some found → k < n) → (k : ℕ) (found : Slot) →
    get_or (set slots slot put) k None ≡ Some found → k < n
put_below slots n slot put low below k found e = elim (cases_eq k slot) [ inl same ↦ omega (arith, same, low) | inr other ↦ below k found (sym (found_elsewhere slots slot k put other) ∙ e) ]

module _ (heap : Heap) (h : IsFilled heap) where
  take_by : (node : Node) (free : List ℕ) → IsRest h.first free → heap.free ≡ free → IsFilled (take_from heap node free)
  take_by node free (untaken zero) e = h
  take_by node free (untaken (suc size)) e = record {
    first = h.first + 1;
    few = omega (arith, h.few);
    rest = untaken size;
    below = put_below heap.slots (h.first + 1) h.first _ (omega arith) (λ k slot at_k. let low = h.below k slot at_k in omega (arith, low));
  }
  take_by node free (again slot rest low more) e = record { first = h.first; few = omega (arith, h.few); rest = more; below = put_below heap.slots h.first slot _ low h.below }

  taken_filled : (node : Node) → IsFilled (taken heap node)
  unfolding taken
  taken_filled node = take_by node heap.free h.rest refl

  -- a slot is written where one stands
  changed_below : (change : Slot → Slot) (slot : ℕ) (o : Option Slot) → get_or heap.slots slot None ≡ o → (k : ℕ) (found : Slot) →
      get_or (set heap.slots slot (option_map change o)) k None ≡ Some found → k < h.first
  changed_below change slot (Some was) at_slot k found e = put_below heap.slots h.first slot _ (h.below slot was at_slot) h.below k found e
  changed_below change slot None at_slot k found e = elim (cases_eq k slot) [
    | inl same ↦ absurd (none-some found (found_here heap.slots slot None found (subst (λ i. get_or (set heap.slots slot None) i None ≡ Some found) same e)))
    | inr other ↦ h.below k found (sym (found_elsewhere heap.slots slot k None other) ∙ e)
  ]

  written_filled : (change : Slot → Slot) (r : Ref) → IsFilled (written change heap r)
  unfolding stored
  written_filled change r = record { first = h.first; few = h.few; rest = h.rest; below = changed_below change (slot_of r) (get_or heap.slots (slot_of r) None) refl }

  main_filled : (r m : Ref) → IsFilled (with_main heap r m)
  unfolding with_main
  main_filled r m = written_filled (main_changed m) r

  prev_filled : (r : Ref) (p : Prev) → IsFilled (with_prev heap r p)
  unfolding with_prev
  prev_filled r p = written_filled (prev_changed p) r

  freed_filled : (r : Ref) → IsInUse heap r → IsFilled (freed heap r)
  unfolding freed stored
  freed_filled r (slot, stands) =
      let (at, birth) = standing_parts heap r slot stands in
      let low = h.below (slot_of r) slot at in
      record { first = h.first; few = h.few; rest = again (slot_of r) heap.free low h.rest; below = put_below heap.slots h.first (slot_of r) None low h.below }

filled : (heap after : Heap) (due : Option Ref) → HeapMoves heap due after → ((r : Ref) → due ≡ Some r → IsInUse heap r) → IsFilled heap → IsFilled after
filled heap after due Stays used h = h
filled heap after due (Takes node) used h = taken_filled heap h node
filled heap after due (Publishes i replaced fresh e) used h = prev_filled _ (main_filled heap h i fresh) fresh (prev.Pending replaced)
filled heap after due (Restores i main previous e) used h = main_filled heap h i previous
filled heap after due (Commit i main previous told e) used h = prev_filled heap h main prev.None
filled heap after due (Fail i main previous told e) used h = prev_filled heap h main (prev.Failed previous)
filled heap after due (Frees r e) used h = freed_filled heap h r (used r e)

empty_filled : (n : ℕ) → IsFilled (empty_heap n)
empty_filled n = record { first = 0; few = omega arith; rest = untaken n; below = λ k slot e. absurd (none_found n k slot e) }

first_filled : (n : ℕ) → IsFilled (first_heap n)
first_filled n = taken_filled _ (taken_filled _ (empty_filled n) empty_branch) (Indirection 0 (ref_to 1 0))

filled_along : (limits : Bounds) → AreBounds limits → (steps : List Step) → IsFilled (run limits steps).heap
unfolding first_state
filled_along limits ok =
    along limits (λ state. IsFilled state.heap) (first_filled limits.slots)
    (λ steps s o after m h. filled (run limits steps).heap after.heap _ (heap_moves (run limits steps) s o after m)
    (λ r due.
    let sound = (safe_along limits ok steps).sound in
    stands_in_use (run limits steps).heap r (ripe_in_use (InUse (run limits steps).heap) (run limits steps).epoch (run limits steps).limbo sound.limbo r due)) h)

pub slots_are_below_births : SlotsAreBelowBirths
unfolding stored
slots_are_below_births limits steps r ok (slot, found) =
    let h = filled_along limits ok steps in
    let low = h.below (slot_of r) slot (standing_parts (run limits steps).heap r slot found).0 in omega (arith, low, h.few)
