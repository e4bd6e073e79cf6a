-- A step of an operation changes the words alone that its action names.
use Rattle.std.proofs.Common.{◌≡◌, ℕ, zero, suc, ◌+◌, ◌-◌, ◌==◌, ◌⊎◌, inl, inr, Bool, true, false, List, ◌∷◌, [], set, get_or, Option, Some, None, option_map, length}
use Rattle.std.proofs.Common.{refl, sym, ap, subst, ◌<◌, if◌then◌else◌, ◌∙◌, arith, length-set, get_or-set_same, get_or-set_other}
use native.Mathlib.Decide.{ℕ_discrete}
use Rattle.std.proofs.lemmas.Bool.{cases_lt}
use Rattle.std.proofs.lemmas.List.{get_or_past}
use Rattle.std.proofs.Math.ListN.{get_or-map}
use Rattle.std.proofs.lemmas.Option.{same_Some}
use Rattle.machine_model.specs.Beneath.slot_arena.specs.declared.refs.Ref.{Ref}
use Rattle.machine_model.specs.Beneath.slot_arena.specs.declared.nodes.Node.{Node}
use Rattle.machine_model.specs.Beneath.slot_arena.specs.declared.nodes.Node.TheVariants.{Indirection, Branch, Single, Tomb, List as Listed}
use Rattle.machine_model.specs.Beneath.slot_arena.specs.declared.nodes.Prev.{Prev}
use Rattle.machine_model.specs.Beneath.slot_arena.specs.declared.nodes.Prev.TheVariants as prev
use Rattle.machine_model.specs.Beneath.slot_arena.specs.declared.nodes.Slot.{Slot}
use Rattle.machine_model.specs.Beneath.slot_arena.specs.Refs.{slot_of}
use Rattle.machine_model.specs.Beneath.slot_arena.specs.Heaps.{Heap, main_at, main_changed, main_of, next_ref, node_of, prev_changed, prev_of, stored, take_from, taken}
use Rattle.machine_model.specs.Beneath.slot_arena.specs.Heaps.{with_main, with_main_word, with_prev, written}
use Rattle.machine_model.specs.declared.actions.Action.{Action}
use Rattle.machine_model.specs.declared.actions.Action.TheVariants as act
use Rattle.machine_model.specs.declared.operations.Operation.{Operation}
use Rattle.machine_model.specs.declared.roots.Descriptor.{Descriptor}
use Rattle.machine_model.specs.declared.steps.Outcome.{Outcome}
use Rattle.machine_model.specs.declared.steps.Step.TheVariants as step
use Rattle.machine_model.specs.Calls.{handle_of}
use Rattle.machine_model.specs.declared.roots.RootWord.{RootWord}
use Rattle.machine_model.specs.declared.roots.RootWord.TheVariants.{Plain, Offer}
use Rattle.machine_model.specs.declared.steps.Step.{Step}
use Rattle.machine_model.specs.States.{State, operation_of, rewritten, root_at, with_operation, with_word, word_at}
use Rattle.machine_model.specs.Swapping.{is_plain, stands_in}
use Rattle.machine_model.specs.Counting.{settled}
use Rattle.machine_model.specs.Reading.{Verdict, Commits, Fails, Overtaken, verdict}
use Rattle.machine_model.specs.Operations.{action_of}
use Rattle.machine_model.specs.Acting.{acted, carried_out, decided, ended, gone, if_changed, marked, new_root_taken, opened, opened_root, operation_after}
use Rattle.machine_model.specs.Moves.{Moves, Begins, Ends, GivesUp, Goes, Sweeps}
use Rattle.machine_model.specs.Words.{ChangesNoOther, IsNextFree, NamesMain, NamesPrev, NamesRoot, NamesSlot, StepsChangeOneWord, content_in, content_of, in_slot, main_in, prev_in, with_mark}
use Rattle.machine_model.proofs.Actors.{after_marks, go_counts, gone_actors, marks_by}
use Rattle.machine_model.proofs.HeapMoves.{aborted_heap, offered_heap, completed_heap}
use Rattle.machine_model.proofs.Moves.{moved}

-- ---- a slot that is written

-- what a change of a slot leaves is the same in every slot after a write
left_by : {B : Type 0} (f : Option Slot → B) (change : Slot → Slot) → ((o : Option Slot) → f (option_map change o) ≡ f o) → (heap : Heap) (r : Ref) (k : ℕ) →
    f (in_slot (written change heap r) k) ≡ f (in_slot heap k)
unfolding stored
left_by f change same heap r k = elim (ℕ_discrete k (slot_of r)) [
  | yes here ↦ elim (cases_lt k (length heap.slots)) [
    | inl within ↦
        ap (λ i. f (get_or (set heap.slots i (option_map change (get_or heap.slots i None))) k None)) (sym here)
        ∙ ap f (get_or-set_same heap.slots k (option_map change (get_or heap.slots k None)) None within) ∙ same (get_or heap.slots k None)
    | inr past ↦
        ap f (get_or_past (set heap.slots (slot_of r) (option_map change (stored heap r))) k None (rw length-set past) ∙ sym (get_or_past heap.slots k None past))
  ]
  | no apart ↦ ap f (get_or-set_other heap.slots (slot_of r) k (option_map change (stored heap r)) None apart)
]

-- other slots stay
elsewhere : (change : Slot → Slot) (heap : Heap) (r : Ref) (k : ℕ) → (k ≡ slot_of r → ⊥) → in_slot (written change heap r) k ≡ in_slot heap k
unfolding stored
elsewhere change heap r k apart = get_or-set_other heap.slots (slot_of r) k (option_map change (get_or heap.slots (slot_of r) None)) None apart

-- the slot that is taken alone is another
taken_elsewhere : (heap : Heap) (node : Node) (k : ℕ) (free : List ℕ) → heap.free ≡ free → (IsNextFree heap k → ⊥) → in_slot (take_from heap node free) k ≡ in_slot heap k
taken_elsewhere heap node k [] is other = refl
taken_elsewhere heap node k (slot ∷ free) is other =
    get_or-set_other heap.slots slot k (Some (record { birth = heap.births + 1; node = node; prev = prev.None })) None (λ same. other (free, is ∙ ap (λ j. j ∷ free) (sym same)))

-- ---- the heap

-- what is seen of a slot stays where neither a main word nor a prev word that is written shows in it, nor the slot is taken
module _ {B : Type 0} (f : Option Slot → B) (k : ℕ) (Main Prev : Ref → Type 0)
    (over_main : (heap : Heap) (r m : Ref) → Main r → f (in_slot (with_main heap r m) k) ≡ f (in_slot heap k))
    (over_prev : (heap : Heap) (r : Ref) (p : prev.the_data) → Prev r → f (in_slot (with_prev heap r p) k) ≡ f (in_slot heap k)) where
  Spares : Heap → Action → Type 0
  Spares heap (act.Publish i replaced fresh) = Main i × Prev fresh
  Spares heap (act.Restore i main previous) = Main i
  Spares heap (act.Decide i main previous told) = Prev main
  Spares heap action = NamesSlot heap action k → ⊥

  published_sees : (heap : Heap) (i replaced fresh : Ref) (b : Bool) → Main i → Prev fresh →
      f (in_slot (if_changed b (with_prev (with_main heap i fresh) fresh (prev.Pending replaced)) heap) k) ≡ f (in_slot heap k)
  published_sees heap i replaced fresh true m p = over_prev (with_main heap i fresh) fresh (prev.Pending replaced) p ∙ over_main heap i fresh m
  published_sees heap i replaced fresh false m p = refl

  restored_sees : (heap : Heap) (i previous : Ref) (b : Bool) → Main i → f (in_slot (if_changed b (with_main heap i previous) heap) k) ≡ f (in_slot heap k)
  restored_sees heap i previous true m = over_main heap i previous m
  restored_sees heap i previous false m = refl

  decided_sees : (heap : Heap) (main previous : Ref) (v : Verdict) → Prev main → f (in_slot (decided heap main previous v) k) ≡ f (in_slot heap k)
  decided_sees heap main previous Commits p = over_prev heap main prev.None p
  decided_sees heap main previous Fails p = over_prev heap main (prev.Failed previous) p
  decided_sees heap main previous (Overtaken licensed) p = refl

  taken_sees : (heap : Heap) (node : Node) → (IsNextFree heap k → ⊥) → f (in_slot (taken heap node) k) ≡ f (in_slot heap k)
  unfolding taken
  taken_sees heap node other = ap f (taken_elsewhere heap node k heap.free refl other)

  root_taken_sees : (state : State) (main : Ref) (made : Option Ref) → (IsNextFree state.heap k → ⊥) → f (in_slot (new_root_taken state main made).heap k) ≡ f (in_slot state.heap k)
  root_taken_sees state main None other = refl
  root_taken_sees state main (Some made) other = taken_sees state.heap (Indirection state.generations main) other

  acted_sees : (state : State) (handle : ℕ) (action : Action) → Spares state.heap action → f (in_slot (acted state handle action).heap k) ≡ f (in_slot state.heap k)
  unfolding Spares
  acted_sees state handle (act.Abort offer) spares = ap (λ h. f (in_slot h k)) (aborted_heap state handle offer)
  acted_sees state handle (act.Offer offer) spares = ap (λ h. f (in_slot h k)) (offered_heap state handle offer)
  acted_sees state handle (act.Complete offer main) spares = ap (λ h. f (in_slot h k)) (completed_heap state handle offer main)
  acted_sees state handle (act.Publish i replaced fresh) spares = published_sees state.heap i replaced fresh (main_at state.heap i == replaced) spares.0 spares.1
  acted_sees state handle (act.Restore i main previous) spares = restored_sees state.heap i previous (main_at state.heap i == main) spares
  acted_sees state handle (act.Decide i main previous told) spares = decided_sees state.heap main previous (verdict state.heap i main previous told) spares
  acted_sees state handle (act.Make node) spares = taken_sees state.heap node spares
  acted_sees state handle (act.MakeRoot main) spares = root_taken_sees state main (next_ref state.heap) spares
  acted_sees state handle act.ReadRoot spares = refl
  acted_sees state handle (act.ReadMain i) spares = refl
  acted_sees state handle (act.ReadPrev main) spares = refl
  acted_sees state handle (act.Look at) spares = refl
  acted_sees state handle (act.End answer) spares = refl

main_kept : (p : prev.the_data) (o : Option Slot) → main_of (node_of (option_map (prev_changed p) o)) ≡ main_of (node_of o)
main_kept p None = refl
main_kept p (Some slot) = refl

prev_kept : (m : Ref) (o : Option Slot) → prev_of (option_map (main_changed m) o) ≡ prev_of o
prev_kept m None = refl
prev_kept m (Some slot) = refl

content_again : (m : Ref) (node : Node) → content_of (with_main_word m node) ≡ content_of node
content_again m (Indirection generation main) = refl
content_again m (Branch bitmap entries) = refl
content_again m (Single key value) = refl
content_again m (Tomb single) = refl
content_again m (Listed singles) = refl

content_kept : (m : Ref) (o : Option Slot) → content_of (node_of (option_map (main_changed m) o)) ≡ content_of (node_of o)
content_kept m None = refl
content_kept m (Some slot) = content_again m slot.node

content_beside : (p : prev.the_data) (o : Option Slot) → content_of (node_of (option_map (prev_changed p) o)) ≡ content_of (node_of o)
content_beside p None = refl
content_beside p (Some slot) = refl

module _ (state : State) (handle : ℕ) (action : Action) (k : ℕ) where
  -- a main word shows no write of a prev word, a prev word none of a main word, and what else a node has neither
  mains_stay : (NamesMain state.heap action k → ⊥) → main_in (acted state handle action).heap k ≡ main_in state.heap k
  unfolding with_main with_prev Spares
  mains_stay other =
      acted_sees (λ o. main_of (node_of o)) k (λ r. k ≡ slot_of r → ⊥) (λ r. Unit {0})
      (λ heap r m apart. ap (λ o. main_of (node_of o)) (elsewhere (main_changed m) heap r k apart))
      (λ heap r p all. left_by (λ o. main_of (node_of o)) (prev_changed p) (main_kept p) heap r k) state handle action (by action other)
    where
      by : (a : Action) → (NamesMain state.heap a k → ⊥) → Spares (λ o. main_of (node_of o)) k (λ r. k ≡ slot_of r → ⊥) (λ r. Unit {0})
          (λ heap r m apart. ap (λ o. main_of (node_of o)) (elsewhere (main_changed m) heap r k apart))
          (λ heap r p all. left_by (λ o. main_of (node_of o)) (prev_changed p) (main_kept p) heap r k) state.heap a
      by (act.Publish i replaced fresh) n = (n, tt)
      by (act.Restore i main previous) n = n
      by (act.Decide i main previous told) n = tt
      by a n = n

  prevs_stay : (NamesPrev state.heap action k → ⊥) → prev_in (acted state handle action).heap k ≡ prev_in state.heap k
  unfolding with_main with_prev Spares
  prevs_stay other =
      acted_sees prev_of k (λ r. Unit {0}) (λ r. k ≡ slot_of r → ⊥) (λ heap r m all. left_by prev_of (main_changed m) (prev_kept m) heap r k)
      (λ heap r p apart. ap prev_of (elsewhere (prev_changed p) heap r k apart)) state handle action (by action other)
    where
      by : (a : Action) → (NamesPrev state.heap a k → ⊥) → Spares prev_of k (λ r. Unit {0}) (λ r. k ≡ slot_of r → ⊥)
          (λ heap r m all. left_by prev_of (main_changed m) (prev_kept m) heap r k)
          (λ heap r p apart. ap prev_of (elsewhere (prev_changed p) heap r k apart)) state.heap a
      by (act.Publish i replaced fresh) n = (tt, n)
      by (act.Restore i main previous) n = tt
      by (act.Decide i main previous told) n = n
      by a n = n

  contents_stay : (NamesSlot state.heap action k → ⊥) → content_in (acted state handle action).heap k ≡ content_in state.heap k
  unfolding with_main with_prev Spares
  contents_stay other =
      acted_sees (λ o. content_of (node_of o)) k (λ r. Unit {0}) (λ r. Unit {0}) (λ heap r m all. left_by (λ o. content_of (node_of o)) (main_changed m) (content_kept m) heap r k)
      (λ heap r p all. left_by (λ o. content_of (node_of o)) (prev_changed p) (content_beside p) heap r k) state handle action (by action other)
    where
      by : (a : Action) → (NamesSlot state.heap a k → ⊥) → Spares (λ o. content_of (node_of o)) k (λ r. Unit {0}) (λ r. Unit {0})
          (λ heap r m all. left_by (λ o. content_of (node_of o)) (main_changed m) (content_kept m) heap r k)
          (λ heap r p all. left_by (λ o. content_of (node_of o)) (prev_changed p) (content_beside p) heap r k) state.heap a
      by (act.Publish i replaced fresh) n = (tt, tt)
      by (act.Restore i main previous) n = tt
      by (act.Decide i main previous told) n = tt
      by a n = n

-- ---- root words

module _ (h : ℕ) where
  word_beside : (state : State) (handle : ℕ) (word : RootWord) → (h ≡ handle → ⊥) → root_at (with_word state handle word) h ≡ root_at state h
  word_beside state handle word apart = get_or-set_other state.roots handle h (rewritten word (root_at state handle)) None apart

  if_beside : (state changed : State) (b : Bool) → root_at changed h ≡ root_at state h → root_at (if_changed b changed state) h ≡ root_at state h
  if_beside state changed true same = same
  if_beside state changed false same = refl

  opened_beside : (state : State) (offer : Descriptor) (opens : Option ℕ) → (opens ≡ Some h → ⊥) → root_at (opened state offer opens) h ≡ root_at state h
  opened_beside state offer None apart = refl
  opened_beside state offer (Some n) apart = get_or-set_other state.roots n h (Some (opened_root offer offer.second)) None (λ same. apart (ap Some (sym same)))

  completed_beside : (state : State) (handle : ℕ) (offer : Descriptor) (b : Bool) → (h ≡ handle → ⊥) → (offer.opens ≡ Some h → ⊥) →
      root_at (if b then carried_out state handle offer else with_word state handle (Plain offer.root)) h ≡ root_at state h
  completed_beside state handle offer true apart unopened =
      opened_beside (with_word state handle (Plain offer.successor)) offer offer.opens unopened ∙ word_beside state handle (Plain offer.successor) apart
  completed_beside state handle offer false apart unopened = word_beside state handle (Plain offer.root) apart

  root_taken_beside : (state : State) (main : Ref) (made : Option Ref) → root_at (new_root_taken state main made) h ≡ root_at state h
  root_taken_beside state main None = refl
  root_taken_beside state main (Some made) = refl

  roots_stay : (state : State) (handle : ℕ) (action : Action) → (NamesRoot handle action h → ⊥) → root_at (acted state handle action) h ≡ root_at state h
  roots_stay state handle (act.Abort offer) other =
      if_beside state (with_word state handle (Plain offer.root)) (stands_in (word_at state handle) offer) (word_beside state handle (Plain offer.root) other)
  roots_stay state handle (act.Offer offer) other =
      if_beside state (with_word state handle (Offer offer)) (is_plain (word_at state handle) offer.root) (word_beside state handle (Offer offer) other)
  roots_stay state handle (act.Complete offer main) other =
      if_beside state (if main == offer.expected then carried_out state handle offer else with_word state handle (Plain offer.root)) (stands_in (word_at state handle) offer)
      (completed_beside state handle offer (main == offer.expected) (λ e. other (inl e)) (λ e. other (inr e)))
  roots_stay state handle (act.MakeRoot main) other = root_taken_beside state main (next_ref state.heap)
  roots_stay state handle act.ReadRoot other = refl
  roots_stay state handle (act.ReadMain i) other = refl
  roots_stay state handle (act.Publish i replaced fresh) other = refl
  roots_stay state handle (act.Restore i main previous) other = refl
  roots_stay state handle (act.ReadPrev main) other = refl
  roots_stay state handle (act.Decide i main previous told) other = refl
  roots_stay state handle (act.Look at) other = refl
  roots_stay state handle (act.Make node) other = refl
  roots_stay state handle (act.End answer) other = refl

-- ---- other actors

marked_so : (id : ℕ) (o : Option Operation) → (marked id o ≡ o) ⊎ (marked id o ≡ option_map with_mark o)
marked_so id None = inl refl
marked_so id (Some operation) = by (operation.id == id)
  where
    by : (b : Bool) → (Some (if b then with_mark operation else operation) ≡ Some operation) ⊎ (Some (if b then with_mark operation else operation) ≡ Some (with_mark operation))
    by true = inr refl
    by false = inl refl

marks_so : (m : Option ℕ) (xs : List (Option Operation)) (j : ℕ) →
    (get_or (after_marks m xs) j None ≡ get_or xs j None) ⊎ (get_or (after_marks m xs) j None ≡ option_map with_mark (get_or xs j None))
marks_so None xs j = inl refl
marks_so (Some id) xs j = elim (marked_so id (get_or xs j None)) [
  | inl same ↦ inl (get_or-map (marked id) xs j None ∙ same)
  | inr so ↦ inr (get_or-map (marked id) xs j None ∙ so)
]

others_stay : (state : State) (actor : ℕ) (operation : Operation) → 0 < actor → (other : ℕ) → (other ≡ actor → ⊥) →
    (operation_of (gone state actor operation) other ≡ operation_of state other) ⊎ (operation_of (gone state actor operation) other ≡ option_map with_mark (operation_of state other))
others_stay state actor operation counts zero apart = inl refl
others_stay state actor operation counts (suc j) apart =
    let put = set state.actors (actor - 1) (Some (operation_after state operation)) in
    let beside = get_or-set_other state.actors (actor - 1) j (Some (operation_after state operation)) None (λ e. apart (omega (arith, e, counts))) in
    let list = ap (λ xs. get_or xs j None) (gone_actors state actor operation) in
    elim (marks_so (marks_by state (Some operation)) put j) [
      | inl same ↦ inl (list ∙ same ∙ beside)
      | inr so ↦ inr (list ∙ so ∙ ap (option_map with_mark) beside)
    ]

-- ---- a step

goes : (before : State) (actor : ℕ) (operation : Operation) → 0 < actor → ChangesNoOther before actor operation (settled before (gone before actor operation))
goes before actor operation counts =
    let st : State = with_operation before actor (Some (operation_after before operation)) in
    record {
      roots = λ h. roots_stay h st (handle_of operation.call) (action_of before operation);
      mains = mains_stay st (handle_of operation.call) (action_of before operation);
      prevs = prevs_stay st (handle_of operation.call) (action_of before operation);
      contents = contents_stay st (handle_of operation.call) (action_of before operation);
      operations = others_stay before actor operation counts;
    }

ends : (before : State) (actor : ℕ) (operation : Operation) → 0 < actor → ChangesNoOther before actor operation (settled before (ended before actor))
ends before actor operation counts = record {
  roots = λ h other. refl;
  mains = λ k other. refl;
  prevs = λ k other. refl;
  contents = λ k other. refl;
  operations = by;
}
  where
    by : (other : ℕ) → (other ≡ actor → ⊥) →
        (operation_of (ended before actor) other ≡ operation_of before other) ⊎ (operation_of (ended before actor) other ≡ option_map with_mark (operation_of before other))
    by zero apart = inl refl
    by (suc j) apart = inl (get_or-set_other before.actors (actor - 1) j None None (λ e. apart (omega (arith, e, counts))))

by_move : (before : State) (s : Step) (o : Outcome) (after : State) → Moves before s o after → (actor : ℕ) (operation : Operation) → s ≡ step.Go actor →
    operation_of before actor ≡ Some operation → ChangesNoOther before actor operation after
by_move before s o after (Begins d) actor operation e is = let wrong : ⊥ = cc e in absurd wrong
by_move before s o after (Goes {actor = who} {operation = own} d runs a g) actor operation e is =
    let same : who ≡ actor = cc e in
    let one : own ≡ operation = same_Some own operation (sym runs ∙ ap (operation_of before) same ∙ is) in
    subst (λ x. ChangesNoOther before actor x (settled before (gone before who own))) one
    (subst (λ k. ChangesNoOther before k own (settled before (gone before who own))) same (goes before who own (go_counts before who d)))
by_move before s o after (Ends {actor = who} {operation = own} d runs a) actor operation e is =
    let same : who ≡ actor = cc e in
    subst (λ k. ChangesNoOther before k operation (settled before (ended before who))) same (ends before who operation (go_counts before who d))
by_move before s o after (Sweeps spent) actor operation e is = let wrong : ⊥ = cc e in absurd wrong
by_move before s o after (GivesUp d runs a) actor operation e is = let wrong : ⊥ = cc e in absurd wrong

pub steps_change_one_word : StepsChangeOneWord
steps_change_one_word before actor operation o after is taken = by_move before (step.Go actor) o after (moved before (step.Go actor) o after taken) actor operation refl is
