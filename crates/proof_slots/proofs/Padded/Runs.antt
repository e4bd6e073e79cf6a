-- Runs of padded machines.
use Rattle.std.proofs.Common.{◌≡◌, ℕ, zero, suc, ◌+◌, ◌≤◌, List, [], ◌∷◌, ◌++◌, length, map, replicate, is_some, Option, None, refl, sym, ap, ◌∙◌, subst, arith, length-append}
use Rattle.std.specs.List.{range_with_len}
use Rattle.std.proofs.lemmas.List.{append_assoc, length-map, replicate-append-replicate}
use Rattle.std.proofs.lemmas.List.FromFn.{length-range_with_len}
use Rattle.proof_slots.specs.Vocabulary.{Indirection, Slot, Ref, ref_to, Heap, empty_branch, taken, take_from, freed, with_main, with_prev, Bounds, Step, State, first_state, empty_heap, first_heap}
use Rattle.proof_slots.specs.Vocabulary.{AreBounds, next, next_state, run, run_from, Record, first_record, next_record, record_from, record_of}
use Rattle.machine_model.proofs.Along.{run_push, kept_by_moves}
use Rattle.machine_model.proofs.HeapMoves.{HeapMoves, Stays, Takes, Publishes, Restores, Commit, Fail, Frees, heap_moves}
use Rattle.machine_model.proofs.Rest.{first_free}
use Rattle.machine_model.proofs.Slots.{AddsUp, sound_along}
use Rattle.proof_slots.specs.Padding.{with_slots, padded, padded_heap}
use Rattle.proof_slots.specs.Laws.{HasFreeSlots, MoreSlotsAlike, MoreSlotsAnswer, FewStepsHaveSlots}
use Rattle.proof_slots.proofs.Padded.Heaps.{HasFree, taken_wide}
use Rattle.proof_slots.proofs.Padded.Steps.{next_padded, next_state_padded, next_record_padded}

-- ---- at first

range_parts : (a n more : ℕ) → range_with_len a (n + more) ≡ range_with_len a n ++ range_with_len (a + n) more
range_parts a zero more =
    let none : 0 + more ≡ more = omega arith in
    let there : a ≡ a + 0 = omega arith in
    ap (range_with_len a) none ∙ ap (λ b. range_with_len b more) there
range_parts a (suc n) more =
    let longer : suc n + more ≡ suc (n + more) = omega arith in
    let there : a + 1 + n ≡ a + suc n = omega arith in
    ap (range_with_len a) longer ∙ ap (λ l. a ∷ l) (range_parts (a + 1) n more ∙ ap (λ b. range_with_len (a + 1) n ++ range_with_len b more) there)

heap_of : List (Option Slot) → List ℕ → Heap
heap_of slots free = record { slots = slots; free = free; births = 0 }

empty_padded : (more n : ℕ) → empty_heap (n + more) ≡ padded_heap more n (empty_heap n)
unfolding heap_of
empty_padded more n =
    ap (λ l. heap_of l (range_with_len 0 (n + more))) (sym (replicate-append-replicate n more None))
    ∙ ap (λ l. heap_of (replicate n None ++ replicate more None) l) (range_parts 0 n more ∙ ap (λ a. range_with_len 0 n ++ range_with_len a more) (omega_zero n))
  where
    omega_zero : (n : ℕ) → 0 + n ≡ n
    omega_zero n = omega arith

module _ (more k : ℕ) where
  abbrev slots : ℕ
  slots = suc (suc k)

  free_at_first : HasFree (empty_heap slots)
  free_at_first = (0, range_with_len 1 (suc k), refl, omega arith)

  free_then : HasFree (taken (empty_heap slots) empty_branch)
  unfolding taken
  free_then = (1, range_with_len 2 k, refl, omega arith)

  heap_padded : first_heap (slots + more) ≡ padded_heap more slots (first_heap slots)
  heap_padded =
      ap (λ h. taken (taken h empty_branch) (Indirection 0 (ref_to 1 0))) (empty_padded more slots)
      ∙ ap (λ h. taken h (Indirection 0 (ref_to 1 0))) (taken_wide more slots (empty_heap slots) empty_branch free_at_first)
      ∙ taken_wide more slots (taken (empty_heap slots) empty_branch) (Indirection 0 (ref_to 1 0)) free_then

by_slots : (more n : ℕ) → 2 ≤ n → first_heap (n + more) ≡ padded_heap more n (first_heap n)
by_slots more zero low = absurd (omega (arith, low))
by_slots more (suc zero) low = absurd (omega (arith, low))
by_slots more (suc (suc k)) low = heap_padded more k

first_padded : (more : ℕ) (limits : Bounds) → 2 ≤ limits.slots → first_state (with_slots more limits) ≡ padded more (first_state limits)
unfolding first_state
first_padded more limits low = ap (λ (h : Heap). record (padded more (first_state limits)) { heap = h }) (by_slots more limits.slots low)

-- ---- along a list of steps

-- before each of these steps a slot is free
unfoldable FreeAlong : State → List Step → Type 0
FreeAlong state [] = Unit {0}
FreeAlong state (s ∷ steps) = HasFree state.heap × FreeAlong (next_state state s) steps

run_from_padded : (more : ℕ) (state : State) (steps : List Step) → FreeAlong state steps → run_from (padded more state) steps ≡ padded more (run_from state steps)
unfolding run_from FreeAlong
run_from_padded more state [] free = refl
run_from_padded more state (s ∷ steps) free = ap (λ x. run_from x steps) (next_state_padded more state s free.0) ∙ run_from_padded more (next_state state s) steps free.1

record_from_padded : (more : ℕ) (state : State) (past : Record) (steps : List Step) → FreeAlong state steps → record_from (padded more state) past steps ≡ record_from state past steps
unfolding record_from FreeAlong
record_from_padded more state past [] free = refl
record_from_padded more state past (s ∷ steps) free =
    ap (λ x. record_from x (next_record (padded more state) past s) steps) (next_state_padded more state s free.0)
    ∙ ap (λ r. record_from (padded more (next_state state s)) r steps) (next_record_padded more state past s free.0)
    ∙ record_from_padded more (next_state state s) (next_record state past s) steps free.1

-- what is free is a slot
has_free : (slots : ℕ) (heap : Heap) → AddsUp slots heap → 1 ≤ length heap.free → HasFree heap
has_free slots heap h some = by heap.free refl
  where
    by : (free : List ℕ) → heap.free ≡ free → HasFree heap
    by [] e = absurd (omega (arith, some, ap length e))
    by (slot ∷ free) e =
        let (within, unused) = first_free (map is_some heap.slots) slot free (rw e at (h.rest)) in
        (slot, free, e, rw length-map at within)

module _ (limits : Bounds) (ok : AreBounds limits) where
  free_behind : (done rest : List Step) → ((before more : List Step) (s : Step) → done ++ rest ≡ before ++ s ∷ more → 1 ≤ length (run limits before).heap.free) →
      FreeAlong (run limits done) rest
  unfolding FreeAlong
  free_behind done [] free = tt
  free_behind done (s ∷ rest) free = (
    has_free limits.slots (run limits done).heap (sound_along limits ok done).heap (free done rest s refl),
    subst (λ x. FreeAlong x rest) (run_push (first_state limits) done s)
        (free_behind (done ++ s ∷ []) rest (λ before more t e. free before more t (sym (append_assoc done (s ∷ []) rest) ∙ e))),
  )

  free_along : (steps : List Step) → HasFreeSlots limits steps → FreeAlong (first_state limits) steps
  unfolding run_from
  free_along steps free = free_behind [] steps (λ before more s e. free before more s e)

  run_padded : (more : ℕ) (steps : List Step) → HasFreeSlots limits steps → run (with_slots more limits) steps ≡ padded more (run limits steps)
  run_padded more steps free =
      ap (λ x. run_from x steps) (first_padded more limits ok.0) ∙ run_from_padded more (first_state limits) steps (free_along steps free)

  record_padded : (more : ℕ) (steps : List Step) → HasFreeSlots limits steps → record_of (with_slots more limits) steps ≡ record_of limits steps
  record_padded more steps free =
      ap (λ x. record_from x (first_record limits) steps) (first_padded more limits ok.0) ∙ record_from_padded more (first_state limits) (first_record limits) steps (free_along steps free)

pub more_slots_alike : MoreSlotsAlike
more_slots_alike more limits steps ok free = (run_padded limits ok more steps free, record_padded limits ok more steps free)

pub more_slots_answer : MoreSlotsAnswer
more_slots_answer more limits steps s ok free =
    ap (λ x. next x s) (run_padded limits ok more steps (λ done rest t e. free done (rest ++ s ∷ []) t (ap (λ l. l ++ s ∷ []) e ∙ append_assoc done (t ∷ rest) (s ∷ []))))
    ∙ next_padded more (run limits steps) s (has_free limits.slots (run limits steps).heap (sound_along limits ok steps).heap (free steps [] s refl))

-- ---- as many slots as steps

-- an effect takes one free slot at most
fell : (heap after : Heap) (due : Option Ref) → HeapMoves heap due after → length heap.free ≤ length after.free + 1
unfolding taken with_main with_prev freed
fell heap after due Stays = omega arith
fell heap after due (Takes node) = by heap.free
  where
    by : (free : List ℕ) → length free ≤ length (take_from heap node free).free + 1
    by [] = omega arith
    by (slot ∷ free) = omega arith
fell heap after due (Publishes i replaced fresh e) = omega arith
fell heap after due (Restores i main previous e) = omega arith
fell heap after due (Commit i main previous told e) = omega arith
fell heap after due (Fail i main previous told e) = omega arith
fell heap after due (Frees r e) = omega arith

free_falls : (state : State) (s : Step) → length state.heap.free ≤ length (next_state state s).heap.free + 1
free_falls state s =
    kept_by_moves (λ (after : State). length state.heap.free ≤ length after.heap.free + 1) state s (omega arith)
    (λ o after m. fell state.heap after.heap _ (heap_moves state s o after m))

free_lasts : (steps : List Step) (state : State) → length state.heap.free ≤ length (run_from state steps).heap.free + length steps
unfolding run_from
free_lasts [] state = omega arith
free_lasts (s ∷ steps) state = omega (arith, free_falls state s, free_lasts steps (next_state state s))

free_first : (n : ℕ) → 2 ≤ n → length (first_heap n).free + 2 ≡ n
unfolding taken
free_first zero low = absurd (omega (arith, low))
free_first (suc zero) low = absurd (omega (arith, low))
free_first (suc (suc k)) low = omega (arith, length-range_with_len 2 k)

pub few_steps_have_slots : FewStepsHaveSlots
unfolding first_state
few_steps_have_slots limits steps few done rest s e =
    let at_first = free_first limits.slots (omega (arith, few)) in
    omega (arith, few, at_first, ap length e, length-append done (s ∷ rest), free_lasts done (first_state limits))
