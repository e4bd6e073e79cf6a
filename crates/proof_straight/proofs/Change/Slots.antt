-- What stands in the slots of a heap in which a node is made, swapped in and committed.
use Rattle.std.proofs.Common.{◌≡◌, ℕ, suc, ◌+◌, ◌≤◌, ◌==◌, cond, List, [], ◌∷◌, length, get_or, set, Option, Some, None, option_map, refl, sym, ap, ◌∙◌, subst, ◌⊎◌, inl, inr, eq-eqb, ne_eqb, arith}
use Rattle.std.proofs.lemmas.Bool.{cases_eq, cases_lt}
use Rattle.std.proofs.lemmas.List.{get_or-set_same, get_or-set_other, get_or_past, length-set}
use Rattle.std.proofs.lemmas.Option.{none-some}
use Rattle.proof_straight.specs.Vocabulary.{Node, Indirection, Branch, Single, Tomb, List as Listed, Prev, Slot, Ref, Heap, stored, node_of, node_at, main_at, generation_of, generation_at, written}
use Rattle.proof_straight.specs.Vocabulary.{main_changed, prev_changed, prev_at, prev_of, with_main_word, with_main, with_prev, taken, next_ref, ref_to, slot_of, times, if_changed, published}
use Rattle.proof_straight.specs.Beneath.slot_arena.specs.declared.nodes.Prev.TheVariants as prev
use Rattle.machine_model.proofs.Found.{found_within}
use Rattle.proof_straight.specs.Beneath.slot_arena.proofs.Live.{slot_of_ref}
use Rattle.proof_straight.specs.Beneath.ctrie_base.proofs.Sorting.{count_more}
use Rattle.proof_straight.specs.Drafts.{next_made}
use Rattle.proof_straight.specs.Running.{AreEmpty, HasEmptySlots}

-- ---- a write in a slot

-- of what stands anywhere it changes what it changes, or nothing
written_by : (change : Slot → Slot) (heap : Heap) (q r : Ref) → (stored (written change heap q) r ≡ stored heap r) ⊎ (stored (written change heap q) r ≡ option_map change (stored heap r))
unfolding stored
written_by change heap q r = elim (cases_eq (slot_of r) (slot_of q)) [
  | inr other ↦ inl (get_or-set_other heap.slots (slot_of q) (slot_of r) _ None other)
  | inl same ↦ elim (cases_lt (slot_of q) (length heap.slots)) [
    | inl within ↦ inr (
        ap (λ n. get_or (set heap.slots (slot_of q) (option_map change (get_or heap.slots (slot_of q) None))) n None) same ∙ get_or-set_same heap.slots (slot_of q) _ None within
        ∙ ap (λ n. option_map change (get_or heap.slots n None)) (sym same))
    | inr past ↦ inl (
        ap (λ n. get_or (set heap.slots (slot_of q) (option_map change (get_or heap.slots (slot_of q) None))) n None) same ∙ get_or_past _ (slot_of q) None
        (omega (arith, past, length-set heap.slots (slot_of q) (option_map change (get_or heap.slots (slot_of q) None))))
        ∙ sym (get_or_past heap.slots (slot_of q) None past) ∙ ap (λ n. get_or heap.slots n None) (sym same))
  ]
]

-- in another slot nothing
written_other : (change : Slot → Slot) (heap : Heap) (q r : Ref) → (slot_of r ≡ slot_of q → ⊥) → stored (written change heap q) r ≡ stored heap r
unfolding stored
written_other change heap q r other = get_or-set_other heap.slots (slot_of q) (slot_of r) _ None other

-- in its own what it changes
written_here : (change : Slot → Slot) (heap : Heap) (q : Ref) (slot : Slot) → stored heap q ≡ Some slot → stored (written change heap q) q ≡ Some (change slot)
unfolding stored
written_here change heap q slot is =
    get_or-set_same heap.slots (slot_of q) _ None (found_within heap.slots (slot_of q) slot is) ∙ ap (option_map change) is

-- so a prev word leaves the nodes
prev_nodes : (p : Prev) (o : Option Slot) → node_of (option_map (prev_changed p) o) ≡ node_of o
prev_nodes p None = refl
prev_nodes p (Some slot) = refl

node_prev : (heap : Heap) (q r : Ref) (p : Prev) → node_at (with_prev heap q p) r ≡ node_at heap r
unfolding node_at with_prev
node_prev heap q r p = elim (written_by (prev_changed p) heap q r) [
  | inl same ↦ ap node_of same
  | inr changed ↦ ap node_of changed ∙ prev_nodes p (stored heap r)
]

-- and a main word the generations
main_word_generation : (m : Ref) (node : Node) → generation_of (with_main_word m node) ≡ generation_of node
main_word_generation m (Indirection generation main) = refl
main_word_generation m (Branch bitmap entries) = refl
main_word_generation m (Single key value) = refl
main_word_generation m (Tomb single) = refl
main_word_generation m (Listed singles) = refl

main_generations : (m : Ref) (o : Option Slot) → generation_of (node_of (option_map (main_changed m) o)) ≡ generation_of (node_of o)
main_generations m None = refl
main_generations m (Some slot) = main_word_generation m slot.node

generation_main : (heap : Heap) (q r m : Ref) → generation_at (with_main heap q m) r ≡ generation_at heap r
unfolding node_at with_main
generation_main heap q r m = elim (written_by (main_changed m) heap q r) [
  | inl same ↦ ap (λ o. generation_of (node_of o)) same
  | inr changed ↦ ap (λ o. generation_of (node_of o)) changed ∙ main_generations m (stored heap r)
]

-- ---- taking a slot

abbrev pub made_slot : Heap → Node → Slot
made_slot heap node = record { birth = heap.births + 1; node = node; prev = prev.None }

-- a number that stands nowhere in a longer list isn't its first, and stands nowhere behind
apart_from : (n m : ℕ) (ms : List ℕ) → times n (m ∷ ms) ≡ 0 → (m ≡ n → ⊥) × (times n ms ≡ 0)
apart_from n m ms none =
    let both = sym (count_more (λ x. x == n) m ms) ∙ none in
    (λ same. first (ap {B = ℕ} (λ b. cond b 1 0) (eq-eqb m n same)) both, omega (arith, both))
  where
    first : ◌≡◌ {A = ℕ} (cond (m == n) 1 0) 1 → cond (m == n) 1 0 + times n ms ≡ 0 → ⊥
    first one both = omega (arith, one, both)

still_empty : (slots : List (Option Slot)) (n : ℕ) (put : Option Slot) (free : List ℕ) → times n free ≡ 0 → AreEmpty slots free → AreEmpty (set slots n put) free
still_empty slots n put [] none empty = tt
still_empty slots n put (slot ∷ free) none (within, is, once, rest) =
    let apart = apart_from n slot free none in
    (omega (arith, within, length-set slots n put), get_or-set_other slots n slot put None apart.0 ∙ is, once, still_empty slots n put free apart.1 rest)

-- what is used isn't free
used_not_free : (slots : List (Option Slot)) (n : ℕ) (slot : Slot) (free : List ℕ) → get_or slots n None ≡ Some slot → AreEmpty slots free → times n free ≡ 0
used_not_free slots n slot [] is empty = refl
used_not_free slots n slot (m ∷ free) is (within, none, once, rest) =
    let other : ◌≡◌ {A = ℕ} (cond (m == n) 1 0) 0 = ap (λ b. cond b 1 0) (ne_eqb m n (λ same. none-some slot (sym none ∙ ap (λ i. get_or slots i None) same ∙ is))) in
    omega (arith, count_more (λ x. x == n) m free, other, used_not_free slots n slot free is rest)

-- so a write in a slot in use leaves the empty ones
written_empty : (change : Slot → Slot) (heap : Heap) (r : Ref) (slot : Slot) → stored heap r ≡ Some slot → HasEmptySlots heap → HasEmptySlots (written change heap r)
unfolding stored
written_empty change heap r slot is h = record {
  empty = still_empty heap.slots (slot_of r) _ heap.free (used_not_free heap.slots (slot_of r) slot heap.free is h.empty) h.empty;
}

-- a node is made where nothing stood
pub record Takes (heap : Heap) (node : Node) : Type 0 where
  pub drawn : next_ref heap ≡ Some (next_made heap)
  pub here : stored (taken heap node) (next_made heap) ≡ Some (made_slot heap node)
  pub others : (r : Ref) (slot : Slot) → stored heap r ≡ Some slot → stored (taken heap node) r ≡ Some slot
  pub apart : (r : Ref) (slot : Slot) → stored heap r ≡ Some slot → slot_of r ≡ slot_of (next_made heap) → ⊥
  pub empty : HasEmptySlots (taken heap node)
  pub fewer : length heap.free ≡ suc (length (taken heap node).free)

takes_by : (slots : List (Option Slot)) (free : List ℕ) (births : ℕ) (node : Node) → HasEmptySlots (record { slots = slots; free = free; births = births }) → 1 ≤ length free →
    Takes (record { slots = slots; free = free; births = births }) node
unfolding stored taken
takes_by slots [] births node h enough = absurd (omega (arith, enough))
takes_by slots (slot ∷ free) births node h enough = record {
  drawn = refl;
  here = ap (λ n. get_or (set slots slot put) n None) its ∙ get_or-set_same slots slot put None h.empty.0;
  others = λ r was is. get_or-set_other slots slot (slot_of r) put None (λ same. elsewhere r was is same) ∙ is;
  apart = λ r was is same. elsewhere r was is (same ∙ its);
  empty = record { empty = still_empty slots slot put free h.empty.2 h.empty.3 };
  fewer = refl;
}
  where
    put : Option Slot
    put = Some (record { birth = births + 1; node = node; prev = prev.None })

    its : slot_of (ref_to (births + 1) slot) ≡ slot
    its = slot_of_ref (births + 1) slot

    elsewhere : (r : Ref) (was : Slot) → get_or slots (slot_of r) None ≡ Some was → slot_of r ≡ slot → ⊥
    elsewhere r was is same = none-some was (sym h.empty.1 ∙ ap (λ n. get_or slots n None) (sym same) ∙ is)

pub takes : (heap : Heap) (node : Node) → HasEmptySlots heap → 1 ≤ length heap.free → Takes heap node
takes heap node h enough = takes_by heap.slots heap.free heap.births node h enough

-- ---- swapping a main node in, and its commit

-- what stands is a node
pub stored_node : (heap : Heap) (r : Ref) (slot : Slot) → stored heap r ≡ Some slot → node_at heap r ≡ slot.node
unfolding node_at
stored_node heap r slot is = ap node_of is

-- what isn't the default stands
pub standing_indirection : (heap : Heap) (r : Ref) (generation main : ℕ) → node_at heap r ≡ Indirection generation main → (slot : Slot) × (stored heap r ≡ Some slot)
unfolding node_at
standing_indirection heap r generation main is = by (stored heap r) refl is
  where
    by : (o : Option Slot) → stored heap r ≡ o → node_of o ≡ Indirection generation main → (slot : Slot) × (stored heap r ≡ Some slot)
    by None e wrong = absurd (cc wrong)
    by (Some slot) e same = (slot, e)

-- the newest node, swapped into an indirection over the main node there
module _ (heap : Heap) (indirection main fresh : Ref) (over new : Slot)
    (at_indirection : stored heap indirection ≡ Some over) (at_fresh : stored heap fresh ≡ Some new) (apart : slot_of indirection ≡ slot_of fresh → ⊥)
    (there : main_at heap indirection ≡ main) where
  between : Heap
  between = with_main heap indirection fresh

  published_is : published heap indirection main fresh ≡ with_prev (with_main heap indirection fresh) fresh (prev.Pending main)
  published_is = ap (λ b. if_changed b (with_prev (with_main heap indirection fresh) fresh (prev.Pending main)) heap) (eq-eqb (main_at heap indirection) main there)

  pub fresh_published : stored (published heap indirection main fresh) fresh ≡ Some (prev_changed (prev.Pending main) new)
  unfolding with_prev with_main
  fresh_published =
      ap (λ h. stored h fresh) published_is
      ∙ written_here (prev_changed (prev.Pending main)) (with_main heap indirection fresh) fresh new
      (written_other (main_changed fresh) heap indirection fresh (λ same. apart (sym same)) ∙ at_fresh)

  pub generation_published : (r : Ref) → generation_at (published heap indirection main fresh) r ≡ generation_at heap r
  generation_published r =
      ap (λ h. generation_at h r) published_is ∙ ap generation_of (node_prev (with_main heap indirection fresh) fresh r (prev.Pending main)) ∙ generation_main heap indirection r fresh

  pub fresh_committed : stored (with_prev (published heap indirection main fresh) fresh prev.None) fresh ≡ Some (prev_changed prev.None (prev_changed (prev.Pending main) new))
  unfolding with_prev
  fresh_committed = written_here (prev_changed prev.None) (published heap indirection main fresh) fresh (prev_changed (prev.Pending main) new) fresh_published

  -- all but these two slots is as before
  pub others_stay : (r : Ref) → (slot_of r ≡ slot_of indirection → ⊥) → (slot_of r ≡ slot_of fresh → ⊥) →
      stored (with_prev (published heap indirection main fresh) fresh prev.None) r ≡ stored heap r
  unfolding with_prev with_main
  others_stay r over_it over_fresh =
      written_other (prev_changed prev.None) (published heap indirection main fresh) fresh r over_fresh ∙ ap (λ h. stored h r) published_is
      ∙ written_other (prev_changed (prev.Pending main)) (with_main heap indirection fresh) fresh r over_fresh ∙ written_other (main_changed fresh) heap indirection r over_it

  pub generation_stays : (r : Ref) → generation_at (with_prev (published heap indirection main fresh) fresh prev.None) r ≡ generation_at heap r
  generation_stays r = ap generation_of (node_prev (published heap indirection main fresh) fresh r prev.None) ∙ generation_published r

  pub same_free : (with_prev (published heap indirection main fresh) fresh prev.None).free ≡ heap.free
  unfolding with_prev with_main
  same_free = ap (λ (h : Heap). h.free) published_is

  pub slots_stay_empty : HasEmptySlots heap → HasEmptySlots (with_prev (published heap indirection main fresh) fresh prev.None)
  unfolding with_prev with_main
  slots_stay_empty h =
      let pending = subst HasEmptySlots (sym published_is)
      (written_empty (prev_changed (prev.Pending main)) (with_main heap indirection fresh) fresh new
      (written_other (main_changed fresh) heap indirection fresh (λ same. apart (sym same)) ∙ at_fresh) (written_empty (main_changed fresh) heap indirection over at_indirection h)) in
      written_empty (prev_changed prev.None) (published heap indirection main fresh) fresh (prev_changed (prev.Pending main) new) fresh_published pending

  -- the indirection itself has the fresh node now
  pub indirection_stands : stored (with_prev (published heap indirection main fresh) fresh prev.None) indirection ≡ Some (main_changed fresh over)
  unfolding with_prev with_main
  indirection_stands =
      written_other (prev_changed prev.None) (published heap indirection main fresh) fresh indirection apart ∙ ap (λ h. stored h indirection) published_is
      ∙ written_other (prev_changed (prev.Pending main)) (with_main heap indirection fresh) fresh indirection apart ∙ written_here (main_changed fresh) heap indirection over at_indirection

-- references to one slot find the same
pub same_stored : (heap : Heap) (r q : Ref) → slot_of r ≡ slot_of q → stored heap r ≡ stored heap q
unfolding stored
same_stored heap r q same = ap (λ n. get_or heap.slots n None) same

-- the prev word of what stands is found again
pub prev_stays : (before after : Heap) (r : Ref) (slot : Slot) → stored before r ≡ Some slot → stored after r ≡ Some slot → prev_at after r ≡ prev_at before r
unfolding prev_at
prev_stays before after r slot a b = ap prev_of b ∙ sym (ap prev_of a)

-- and the node
pub node_again : (before after : Heap) (r : Ref) (slot : Slot) → stored before r ≡ Some slot → stored after r ≡ Some slot → node_at after r ≡ node_at before r
node_again before after r slot a b = stored_node after r slot b ∙ sym (stored_node before r slot a)
