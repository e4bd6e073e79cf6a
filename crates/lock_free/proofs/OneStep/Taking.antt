-- A step that makes a node takes the slot whose number is that of the nodes made before.
use Rattle.std.proofs.Common.{◌≡◌, ◌≢◌, ◌⊎◌, ◌+◌, ◌≤◌, ◌++◌, ℕ, suc, List, [], ◌∷◌, length, get_or, Some, None, refl, sym, ap, ◌∙◌, inl, inr, arith, length-append}
use Rattle.std.specs.List.{range_with_len}
use Rattle.std.proofs.lemmas.Bool.{cases_eq}
use Rattle.machine_model.specs.Beneath.slot_arena.specs.declared.refs.Ref.{Ref}
use Rattle.machine_model.specs.Beneath.slot_arena.specs.declared.nodes.Node.{Node}
use Rattle.machine_model.specs.Beneath.slot_arena.specs.Heaps.{next_ref, ref_in, taken, take_from}
use Rattle.machine_model.specs.Beneath.slot_arena.specs.Refs.{slot_of, ref_to}
use Rattle.machine_model.specs.Beneath.slot_arena.proofs.Live.{slot_of_ref}
use Rattle.machine_model.specs.declared.steps.Bounds.{Bounds}
use Rattle.machine_model.specs.declared.steps.Step.{Step}
use Rattle.machine_model.specs.Grown.{standing}
use Rattle.machine_model.specs.Machine.{AreBounds, run}
use Rattle.machine_model.specs.States.{State}
use Rattle.machine_model.proofs.Found.{found_elsewhere}
use Rattle.proof_memory.specs.Laws.{IsInUse}
use Rattle.proof_memory.proofs.Heap.Under.{fresh_slot, taken_all, births_taken}
use Rattle.proof_memory.proofs.Safety.AtEachTime.{safe_along}
use Rattle.proof_memory.proofs.Safety.States.{IsSafe}
use Rattle.proof_waiting.specs.Beneath.proof_slots.specs.Unswept.{HasNoSweeps}
use Rattle.proof_waiting.specs.Beneath.proof_slots.proofs.Padded.Runs.{few_steps_have_slots}
use Rattle.proof_waiting.specs.Beneath.proof_slots.proofs.Unswept.Orders.{slots_are_taken_in_order}
use Rattle.lock_free.specs.declared.sizes.Sizes.{Sizes}
use Rattle.lock_free.specs.Accounts.{bounds_for}
use Rattle.lock_free.proofs.OneStep.Found.{slot_at}

module _ (sizes : Sizes) (steps : List Step) (bounds : AreBounds (bounds_for sizes steps)) (quiet : HasNoSweeps steps) where
  abbrev limits : Bounds
  limits = bounds_for sizes steps

  abbrev state : State
  state = run limits steps

  safe : IsSafe state
  safe = safe_along limits bounds steps

  abbrev pub number : ℕ
  number = state.heap.births

  -- a slot is free for one step more
  some_free : (s : Step) → 1 ≤ length state.heap.free
  some_free s = few_steps_have_slots limits (steps ++ s ∷ []) (omega (arith, length-append steps (s ∷ []))) steps [] s refl

  first_free : (s : Step) → (rest : List ℕ) × (state.heap.free ≡ number ∷ rest)
  first_free s = by state.heap.free refl
    where
      by : (free : List ℕ) → state.heap.free ≡ free → (rest : List ℕ) × (state.heap.free ≡ number ∷ rest)
      by [] e = let some = some_free s in absurd (omega (arith, some, ap length e))
      by (slot ∷ free) e =
          let order = (slots_are_taken_in_order limits steps quiet).0 in
          let all : slot ∷ free ≡ range_with_len number (suc (length free)) = sym e ∙ order ∙ ap (λ (l : List ℕ). range_with_len number (length l)) e in
          let first : slot ≡ number = ap (λ (l : List ℕ). get_or l 0 slot) all in
          (free, e ∙ ap (λ n. n ∷ free) first)

  -- the reference that the node gets
  abbrev pub made : Ref
  made = ref_to (number + 1) number

  pub made_slot : slot_of made ≡ number
  made_slot = slot_of_ref (number + 1) number

  module _ (s : Step) where
    pub made_next : next_ref state.heap ≡ Some made
    made_next = ap (ref_in number) (first_free s).1

    module _ (node : Node) where
      pub stands : standing (taken state.heap node) made ≡ Some (fresh_slot state.heap node)
      stands = (taken_all state.limits.slots state.heap safe.sound.heap node made made_next).0

      pub others_stand : (r : Ref) → (r ≡ made → ⊥) → standing (taken state.heap node) r ≡ standing state.heap r
      others_stand = (taken_all state.limits.slots state.heap safe.sound.heap node made made_next).2

      pub slot_then : get_or (taken state.heap node).slots number None ≡ Some (fresh_slot state.heap node)
      slot_then = ap (λ k. get_or (taken state.heap node).slots k None) (sym made_slot) ∙ slot_at (taken state.heap node) made _ stands

      pub elsewhere : (k : ℕ) → k ≢ number → get_or (taken state.heap node).slots k None ≡ get_or state.heap.slots k None
      unfolding taken
      elsewhere k apart =
          ap (λ free. get_or (take_from state.heap node free).slots k None) (first_free s).1 ∙ found_elsewhere state.heap.slots number k (Some (fresh_slot state.heap node)) apart

      pub births_are : (taken state.heap node).births ≡ number + 1
      births_are = births_taken state.heap node made made_next

      pub used_or_made : (r : Ref) → IsInUse (taken state.heap node) r → IsInUse state.heap r ⊎ (r ≡ made)
      used_or_made r (slot, stands) = elim (cases_eq r made) [
        | inl same ↦ inr same
        | inr apart ↦ inl (slot, sym (others_stand r apart) ∙ stands)
      ]
