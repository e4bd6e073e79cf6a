-- What a step of an operation changes in a padded state.
use Rattle.std.proofs.Common.{◌≡◌, ℕ, ◌+◌, ◌==◌, Bool, true, false, map, Option, Some, None, if◌then◌else◌, refl, ap, ◌∙◌}
use Rattle.proof_slots.specs.Vocabulary.{Ref, Indirection, Heap, main_at, main_of, with_main, with_prev, taken, next_ref, Operation, Action, Descriptor, Plain, Offer, handle_of, State}
use Rattle.proof_slots.specs.Vocabulary.{word_at, with_word, with_operation, Verdict, Commits, Fails, Overtaken, verdict, stands_in, is_plain, action_of, acted}
use Rattle.proof_slots.specs.Vocabulary.{carried_out, opened, marked, if_changed, published, restored, decided, new_root_taken, operation_after}
use Rattle.proof_slots.specs.Vocabulary.{gone}
use Rattle.proof_slots.specs.Beneath.slot_arena.specs.declared.nodes.Prev.TheVariants as prev
use Rattle.machine_model.specs.declared.actions.Action.TheVariants as act
use Rattle.proof_slots.specs.Padding.{padded, padded_heap}
use Rattle.proof_slots.proofs.Padded.Heaps.{HasFree, wide, node_wide, with_main_wide, with_prev_wide, next_wide, taken_wide}
use Rattle.proof_slots.proofs.Padded.Reads.{verdict_wide}
use Rattle.proof_slots.proofs.Padded.Lines.{acts_wide, operation_wide}

-- ---- heaps

module _ (more slots : ℕ) (heap : Heap) where
  abbrev over : Heap
  over = wide more slots heap

  main_wide : (r : Ref) → main_at over r ≡ main_at heap r
  main_wide r = ap main_of (node_wide more slots heap r)

  published_by : (i replaced fresh : Ref) (b : Bool) →
      if_changed b (with_prev (with_main over i fresh) fresh (prev.Pending replaced)) over
      ≡ padded_heap more slots (if_changed b (with_prev (with_main heap i fresh) fresh (prev.Pending replaced)) heap)
  published_by i replaced fresh true =
      ap (λ h. with_prev h fresh (prev.Pending replaced)) (with_main_wide more slots heap i fresh) ∙ with_prev_wide more slots (with_main heap i fresh) fresh (prev.Pending replaced)
  published_by i replaced fresh false = refl

  published_wide : (i replaced fresh : Ref) → published over i replaced fresh ≡ padded_heap more slots (published heap i replaced fresh)
  published_wide i replaced fresh =
      ap (λ m. if_changed (m == replaced) (with_prev (with_main over i fresh) fresh (prev.Pending replaced)) over) (main_wide i)
      ∙ published_by i replaced fresh (main_at heap i == replaced)

  restored_by : (i previous : Ref) (b : Bool) → if_changed b (with_main over i previous) over ≡ padded_heap more slots (if_changed b (with_main heap i previous) heap)
  restored_by i previous true = with_main_wide more slots heap i previous
  restored_by i previous false = refl

  restored_wide : (i main previous : Ref) → restored over i main previous ≡ padded_heap more slots (restored heap i main previous)
  restored_wide i main previous =
      ap (λ m. if_changed (m == main) (with_main over i previous) over) (main_wide i) ∙ restored_by i previous (main_at heap i == main)

  decided_by : (main previous : Ref) (v : Verdict) → decided over main previous v ≡ padded_heap more slots (decided heap main previous v)
  decided_by main previous Commits = with_prev_wide more slots heap main prev.None
  decided_by main previous Fails = with_prev_wide more slots heap main (prev.Failed previous)
  decided_by main previous (Overtaken licensed) = refl

  decided_wide : (i main previous : Ref) (told : Option ℕ) →
      decided over main previous (verdict over i main previous told) ≡ padded_heap more slots (decided heap main previous (verdict heap i main previous told))
  decided_wide i main previous told = ap (decided over main previous) (verdict_wide more slots heap i main previous told) ∙ decided_by main previous (verdict heap i main previous told)

-- ---- states

module _ (more : ℕ) where
  if_wide : (b : Bool) (x y : State) → if_changed b (padded more x) (padded more y) ≡ padded more (if_changed b x y)
  if_wide true x y = refl
  if_wide false x y = refl

  marked_wide : (state : State) (offer : Descriptor) (o : Option ℕ) →
      record (opened (padded more state) offer o) { actors = map (marked offer.operation) (opened (padded more state) offer o).actors }
      ≡ padded more (record (opened state offer o) { actors = map (marked offer.operation) (opened state offer o).actors })
  marked_wide state offer None = refl
  marked_wide state offer (Some n) = refl

  carried_wide : (state : State) (handle : ℕ) (offer : Descriptor) → carried_out (padded more state) handle offer ≡ padded more (carried_out state handle offer)
  carried_wide state handle offer = marked_wide (with_word state handle (Plain offer.successor)) offer offer.opens

  completed_by : (state : State) (handle : ℕ) (offer : Descriptor) (b c : Bool) →
      if_changed b (if c then carried_out (padded more state) handle offer else with_word (padded more state) handle (Plain offer.root)) (padded more state)
      ≡ padded more (if_changed b (if c then carried_out state handle offer else with_word state handle (Plain offer.root)) state)
  completed_by state handle offer true true = carried_wide state handle offer
  completed_by state handle offer true false = refl
  completed_by state handle offer false c = refl

  heap_put : (state : State) (h g : Heap) → h ≡ padded_heap more state.limits.slots g → record (padded more state) { heap = h } ≡ padded more (record state { heap = g })
  heap_put state h g e = ap (λ (x : Heap). record (padded more state) { heap = x }) e

  root_made_by : (state : State) (main : Ref) (made : Option Ref) → HasFree state.heap → new_root_taken (padded more state) main made ≡ padded more (new_root_taken state main made)
  root_made_by state main None free = refl
  root_made_by state main (Some made) free =
      ap (λ (x : Heap). record (padded more state) { heap = x; generations = state.generations + 1 })
      (taken_wide more state.limits.slots state.heap (Indirection state.generations main) free)

  pub acted_wide : (state : State) (handle : ℕ) (action : Action) → HasFree state.heap → acted (padded more state) handle action ≡ padded more (acted state handle action)
  acted_wide state handle (act.Abort offer) free = if_wide (stands_in (word_at state handle) offer) (with_word state handle (Plain offer.root)) state
  acted_wide state handle (act.Offer offer) free = if_wide (is_plain (word_at state handle) offer.root) (with_word state handle (Offer offer)) state
  acted_wide state handle (act.Complete offer main) free = completed_by state handle offer (stands_in (word_at state handle) offer) (main == offer.expected)
  acted_wide state handle (act.Publish i replaced fresh) free =
      heap_put state _ (published state.heap i replaced fresh) (published_wide more state.limits.slots state.heap i replaced fresh)
  acted_wide state handle (act.Restore i main previous) free =
      heap_put state _ (restored state.heap i main previous) (restored_wide more state.limits.slots state.heap i main previous)
  acted_wide state handle (act.Decide i main previous told) free =
      heap_put state _ (decided state.heap main previous (verdict state.heap i main previous told)) (decided_wide more state.limits.slots state.heap i main previous told)
  acted_wide state handle (act.Make node) free = heap_put state _ (taken state.heap node) (taken_wide more state.limits.slots state.heap node free)
  acted_wide state handle (act.MakeRoot main) free =
      ap (new_root_taken (padded more state) main) (next_wide more state.limits.slots state.heap free) ∙ root_made_by state main (next_ref state.heap) free
  acted_wide state handle action free = refl

  -- ---- the step

  pub gone_wide : (state : State) (actor : ℕ) (operation : Operation) → HasFree state.heap → gone (padded more state) actor operation ≡ padded more (gone state actor operation)
  gone_wide state actor operation free =
      let wider : State = padded more state in
      ap (λ (o : Operation). acted (with_operation wider actor (Some o)) (handle_of operation.call) (action_of wider operation)) (operation_wide more state operation free)
      ∙ ap (λ a. acted (with_operation wider actor (Some (operation_after state operation))) (handle_of operation.call) a) (acts_wide more state operation)
      ∙ acted_wide (with_operation state actor (Some (operation_after state operation))) (handle_of operation.call) (action_of state operation) free
