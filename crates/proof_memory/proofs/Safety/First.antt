-- The first state's memory is safe.
use Rattle.std.proofs.Common.{◌≡◌, ℕ, zero, suc, ◌+◌, ◌≤◌, ◌++◌, Contains, get_or, set, replicate, Option, Some, None, refl, sym, ap, ◌∙◌, subst, inl, inr, eq-eqb, arith}
use Rattle.std.specs.Prelude.{count_ones}
use Rattle.std.proofs.lemmas.Bool.{cases_eq, le-leb, false≢true}
use Rattle.std.proofs.lemmas.Nat.{ones_le_self}
use Rattle.std.proofs.lemmas.Option.{none-some, same_Some}
use Rattle.std.proofs.lemmas.List.Elements.{All-nil}
use Rattle.proof_memory.specs.Vocabulary.{ref_to, slot_of, birth_of, Ref, Node, Indirection, Slot, Heap, stored, node_at, taken, empty_branch, next_ref, heap_refs, count_of, outside, refs_of_root}
use Rattle.proof_memory.specs.Vocabulary.{Root, RootWord, Bounds, State, first_state, first_heap, empty_heap, handle_limit, root_at, AreBounds, standing, of_birth}
use Rattle.proof_memory.specs.Beneath.slot_arena.specs.declared.nodes.Prev.TheVariants as prev
use Rattle.machine_model.specs.declared.actions.Action.TheVariants as act
use Rattle.machine_model.proofs.Found.{none_found, found_here, found_elsewhere}
use Rattle.machine_model.proofs.Slots.{AddsUp, empty_adds_up, taken_kept, sound_at_first}
use Rattle.proof_memory.specs.Wants.{AnIndirection, AMain, meets, Is, Holds, is, so, AllHold, action_wants, word_wants}
use Rattle.proof_memory.specs.Laws.{SameNode, IsInUse}
use Rattle.proof_memory.proofs.Claims.Uses.{Carries, all_carried}
use Rattle.proof_memory.proofs.Lines.Shared.{none_each}
use Rattle.proof_memory.proofs.Heap.Under.{taken_all, fresh_slot}
use Rattle.proof_memory.proofs.Heap.Effects.{Effect, takes, stays}
use Rattle.proof_memory.proofs.Safety.Guards.{counted, counted_in_slot, counted_in_root}
use Rattle.proof_memory.proofs.Limbo.Exact.{HasZeros}
use Rattle.proof_memory.proofs.Safety.States.{IsSafe, SlotHolds, slots_after, births_after}
use Rattle.machine_model.proofs.Grown.{node_standing}

-- what is known of a heap
record IsRight (slots : ℕ) (heap : Heap) : Type 0 where
  adds_up : AddsUp slots heap
  births : (r : Ref) (slot : Slot) → standing heap r ≡ Some slot → birth_of r ≤ heap.births
  nodes : (r : Ref) (slot : Slot) → standing heap r ≡ Some slot → SlotHolds (IsInUse heap) heap slot

-- taking a slot keeps that
module _ (slots : ℕ) (heap : Heap) (h : IsRight slots heap) (node : Node) (wants : AllHold (IsInUse heap) heap (action_wants (act.Make node))) where
  effect : Effect (AllHold (IsInUse heap) heap) (standing heap) (standing (taken heap node)) heap.births (taken heap node).births None
  effect = takes (IsInUse heap) heap None (λ r u. u) slots (h.adds_up) node wants

  carry : Carries (IsInUse heap) heap (IsInUse (taken heap node)) (taken heap node)
  carry r u =
      let (was, found) = u in
      let (now, found_now, same) = stays _ _ _ _ _ None effect r was found (none-some r) in (
        (now, found_now),
        subst (λ n. SameNode n (node_at (taken heap node) r)) (sym (node_standing heap r was found))
            (subst (λ n. SameNode was.node n) (sym (node_standing (taken heap node) r now found_now)) same.0),
      )

  right_taken : IsRight slots (taken heap node)
  right_taken = record {
    adds_up = taken_kept slots heap node (h.adds_up);
    births = births_after _ _ _ _ _ _ effect (h.births);
    nodes = λ r slot e. let (claims, formed) = slots_after (IsInUse heap) heap _ _ _ _ _ effect (h.nodes) r slot e in
        (all_carried (IsInUse heap) heap (IsInUse (taken heap node)) (taken heap node) carry _ claims, formed);
  }

-- nothing stands in the empty heap
none_stands : (slots : ℕ) (r : Ref) (slot : Slot) → standing (empty_heap slots) r ≡ Some slot → ⊥
unfolding stored
none_stands slots r slot e = nothing (get_or (replicate slots None) (slot_of r) None) (λ s found. none_found slots (slot_of r) s found) e
  where
    nothing : (o : Option Slot) → ((s : Slot) → o ≡ Some s → ⊥) → of_birth (birth_of r) o ≡ Some slot → ⊥
    nothing None f e = none-some slot e
    nothing (Some s) f e = f s refl

right_empty : (slots : ℕ) → IsRight slots (empty_heap slots)
right_empty slots = record {
  adds_up = empty_adds_up slots;
  births = λ r slot e. absurd (none_stands slots r slot e);
  nodes = λ r slot e. absurd (none_stands slots r slot e);
}

-- the two slots that are taken at first
module _ (n : ℕ) where
  abbrev slots : ℕ
  slots = suc (suc n)

  abbrev one_taken : Heap
  one_taken = taken (empty_heap slots) empty_branch

  branch_wants : AllHold (IsInUse (empty_heap slots)) (empty_heap slots) (action_wants (act.Make empty_branch))
  branch_wants = (so (le-leb (count_ones 0) 0 (ones_le_self 0)), (none_each (IsInUse (empty_heap slots)) (empty_heap slots), tt))

  right_one : IsRight slots one_taken
  right_one = right_taken slots (empty_heap slots) (right_empty slots) empty_branch branch_wants

  branch_stands : standing one_taken (ref_to 1 0) ≡ Some (fresh_slot (empty_heap slots) empty_branch)
  branch_stands = (taken_all slots (empty_heap slots) (empty_adds_up slots) empty_branch (ref_to 1 0) refl).0

  root_wants : AllHold (IsInUse one_taken) one_taken (action_wants (act.Make (Indirection 0 (ref_to 1 0))))
  root_wants = (so refl, (is (fresh_slot (empty_heap slots) empty_branch, branch_stands) (ap (meets AMain) (node_standing one_taken (ref_to 1 0) _ branch_stands)), tt))

  right_two : IsRight slots (first_heap slots)
  right_two = right_taken slots one_taken right_one (Indirection 0 (ref_to 1 0)) root_wants

  second_ref : next_ref one_taken ≡ Some (ref_to 2 1)
  unfolding taken
  second_ref = refl

  root_stands : standing (first_heap slots) (ref_to 2 1) ≡ Some (fresh_slot one_taken (Indirection 0 (ref_to 1 0)))
  root_stands = (taken_all slots one_taken (taken_kept slots (empty_heap slots) empty_branch (empty_adds_up slots)) (Indirection 0 (ref_to 1 0)) (ref_to 2 1) second_ref).0

  root_right : Holds (IsInUse (first_heap slots)) (first_heap slots) (Is (ref_to 2 1) AnIndirection)
  root_right = is (fresh_slot one_taken (Indirection 0 (ref_to 1 0)), root_stands) (ap (meets AnIndirection) (node_standing (first_heap slots) (ref_to 2 1) _ root_stands))

abbrev FirstIsRight : ℕ → Type 0
FirstIsRight slots = IsRight slots (first_heap slots) × Holds (IsInUse (first_heap slots)) (first_heap slots) (Is (ref_to 2 1) AnIndirection)

first_right : (slots : ℕ) → 2 ≤ slots → FirstIsRight slots
first_right zero low = absurd (omega arith)
first_right (suc zero) low = absurd (omega arith)
first_right (suc (suc n)) low = (right_two n, root_right n)

-- the word of handle 0 alone
pub first_words : (P : RootWord → Type 0) (word : Root) → P word.word → (k : ℕ) (root : Root) → get_or (set (replicate handle_limit None) 0 (Some word)) k None ≡ Some root → P root.word
first_words P word h k root e = elim (cases_eq k 0) [
  | inl same ↦ subst (λ (r : Root). P r.word)
      (same_Some _ _ (found_here (replicate handle_limit None) 0 (Some word) root (subst (λ i. get_or (set (replicate handle_limit None) 0 (Some word)) i None ≡ Some root) same e))) h
  | inr other ↦ absurd (none_found handle_limit k root (sym (found_elsewhere (replicate handle_limit None) 0 k (Some word) other) ∙ e))
]

pub safe_at_first : (limits : Bounds) → AreBounds limits → IsSafe (first_state limits)
unfolding first_state
safe_at_first limits ok =
    let (right, root) = first_right limits.slots ok.0 in
    record {
      sound = sound_at_first limits;
      births = right.births;
      zeros = All-nil _;
      recent = λ k operation found. absurd (none_found limits.actors k operation found);
      handles = λ k operation found. absurd (none_found limits.actors k operation found);
      fits = λ k operation found. absurd (none_found limits.actors k operation found);
      known = λ k operation found. absurd (none_found limits.actors k operation found);
      nodes = right.nodes;
      words = first_words (λ word. AllHold _ _ (word_wants word)) _ (root, tt);
      lines = λ k operation found. absurd (none_found limits.actors k operation found);
      privates = λ k operation found. absurd (none_found limits.actors k operation found);
    }

-- what stands under other references stood there before the two nodes were made
one_other : (n : ℕ) (r : Ref) → (r ≡ ref_to 2 1 → ⊥) → standing (first_heap (suc (suc n))) r ≡ standing (one_taken n) r
one_other n = (taken_all (suc (suc n)) (one_taken n) (taken_kept (suc (suc n)) (empty_heap (suc (suc n))) empty_branch (empty_adds_up (suc (suc n))))
    (Indirection 0 (ref_to 1 0)) (ref_to 2 1) (second_ref n)).2

empty_other : (n : ℕ) (r : Ref) → (r ≡ ref_to 1 0 → ⊥) → standing (one_taken n) r ≡ standing (empty_heap (suc (suc n))) r
empty_other n = (taken_all (suc (suc n)) (empty_heap (suc (suc n))) (empty_adds_up (suc (suc n))) empty_branch (ref_to 1 0) refl).2

first_stands_in : (P : Ref → Slot → Type 0) (n : ℕ) →
    ((birth : ℕ) → P (ref_to 2 1) (record { birth = birth; node = Indirection 0 (ref_to 1 0); prev = prev.None })) →
    ((birth : ℕ) → P (ref_to 1 0) (record { birth = birth; node = empty_branch; prev = prev.None })) →
    (r : Ref) (slot : Slot) → standing (first_heap (suc (suc n))) r ≡ Some slot → P r slot
first_stands_in P n at_root at_branch r slot found = elim (cases_eq r (ref_to 2 1)) [
  | inl is_root ↦
      subst (λ q. P q slot) (sym is_root)
      (subst (P (ref_to 2 1)) (same_Some _ _ (sym (root_stands n) ∙ ap (standing (first_heap (suc (suc n)))) (sym is_root) ∙ found)) (at_root ((one_taken n).births + 1)))
  | inr other ↦
      let before = sym (one_other n r other) ∙ found in
      elim (cases_eq r (ref_to 1 0)) [
        | inl is_branch ↦
            subst (λ q. P q slot) (sym is_branch)
            (subst (P (ref_to 1 0)) (same_Some _ _ (sym (branch_stands n) ∙ ap (standing (one_taken n)) (sym is_branch) ∙ before)) (at_branch ((empty_heap (suc (suc n))).births + 1)))
        | inr another ↦ absurd (none_stands (suc (suc n)) r slot (sym (empty_other n r another) ∙ before))
      ]
]

-- ---- what stands at first

-- P holds of the root and of its branch, and so of all
pub first_stands : (P : Ref → Slot → Type 0) (slots : ℕ) → 2 ≤ slots →
    ((birth : ℕ) → P (ref_to 2 1) (record { birth = birth; node = Indirection 0 (ref_to 1 0); prev = prev.None })) →
    ((birth : ℕ) → P (ref_to 1 0) (record { birth = birth; node = empty_branch; prev = prev.None })) →
    (r : Ref) (slot : Slot) → standing (first_heap slots) r ≡ Some slot → P r slot
first_stands P zero low = absurd (omega arith)
first_stands P (suc zero) low = absurd (omega arith)
first_stands P (suc (suc n)) low = first_stands_in P n

-- ---- each of the two slots is referred to

first_counted : (n : ℕ) (state : State) → state.heap ≡ first_heap (suc (suc n)) → (root : Root) → root_at state 0 ≡ Some root →
    Contains (refs_of_root (Some root)) (ref_to 2 1) → (r : Ref) → IsInUse state.heap r → Contains (heap_refs state.heap ++ outside state) r
first_counted n state heap root word holds r (slot, found) = elim (cases_eq r (ref_to 2 1)) [
  | inl is_root ↦ counted_in_root state 0 r root word (subst (Contains (refs_of_root (Some root))) (sym is_root) holds)
  | inr other ↦
      let before = sym (one_other n r other) ∙ ap (λ h. standing h r) (sym heap) ∙ found in
      elim (cases_eq r (ref_to 1 0)) [
        | inl is_branch ↦ counted_in_slot state (ref_to 2 1) r (fresh_slot (one_taken n) (Indirection 0 (ref_to 1 0))) (ap (λ h. standing h (ref_to 2 1)) heap ∙ root_stands n)
            (zero, omega arith, sym is_branch)
        | inr another ↦ absurd (none_stands (suc (suc n)) r slot (sym (empty_other n r another) ∙ before))
      ]
]

first_counted_by : (slots : ℕ) → 2 ≤ slots → (state : State) → state.heap ≡ first_heap slots → (root : Root) → root_at state 0 ≡ Some root →
    Contains (refs_of_root (Some root)) (ref_to 2 1) → (r : Ref) → IsInUse state.heap r → Contains (heap_refs state.heap ++ outside state) r
first_counted_by zero low = absurd (omega arith)
first_counted_by (suc zero) low = absurd (omega arith)
first_counted_by (suc (suc n)) low = first_counted n

-- so limbo has all with none, which it is to have
pub first_zeros : (limits : Bounds) → AreBounds limits → HasZeros (first_state limits)
unfolding first_state
first_zeros limits ok r (used, zeros) =
    let is_counted = first_counted_by limits.slots ok.0 (first_state limits) refl _ refl (zero, omega arith, refl) r used in
    absurd (false≢true (sym (counted (first_state limits).heap (outside (first_state limits)) r is_counted) ∙ eq-eqb (count_of (first_state limits).heap (outside (first_state limits)) r) 0 zeros))
