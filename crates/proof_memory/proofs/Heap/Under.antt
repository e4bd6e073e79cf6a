-- What stands under each reference after a write, a taking and a freeing: only what is written, taken or freed changes.
use Rattle.std.proofs.Common.{◌≡◌, ℕ, ◌+◌, ◌<◌, false, is_some, List, [], ◌∷◌, length, map, get_or, set, Option, Some, None, option_map, refl, sym, ap, ◌∙◌, subst}
use Rattle.std.proofs.Common.{◌⊎◌, inl, inr, eq-eqb, ne_eqb}
use Rattle.std.proofs.lemmas.Bool.{cases_eq, false≢true}
use Rattle.std.proofs.lemmas.List.{get_or-set_same, get_or-set_other, get_or-map, length-map}
use Rattle.std.proofs.lemmas.Option.{none-some, same_Some}
use Rattle.proof_memory.specs.Vocabulary.{ref_to, slot_of, birth_of, Ref, Node, Prev, Slot, Heap, stored, written, with_main, with_prev, main_changed, prev_changed, taken, take_from, freed}
use Rattle.proof_memory.specs.Vocabulary.{next_ref, ref_in, of_birth, standing}
use Rattle.proof_memory.specs.Beneath.slot_arena.specs.declared.nodes.Prev.TheVariants as prev
use Rattle.machine_model.proofs.Found.{found_within, found_here}
use Rattle.machine_model.proofs.Rest.{first_free}
use Rattle.machine_model.proofs.Slots.{AddsUp}
use Rattle.machine_model.proofs.Grown.{standing_parts}
use Rattle.proof_memory.specs.Beneath.slot_arena.proofs.Live.{same_ref, slot_of_ref, birth_of_ref}

birth_met : (birth : ℕ) (slot : Slot) → slot.birth ≡ birth → of_birth birth (Some slot) ≡ Some slot
birth_met birth slot e = rw (eq-eqb slot.birth birth e) refl

birth_missed : (birth : ℕ) (slot : Slot) → (slot.birth ≡ birth → ⊥) → of_birth birth (Some slot) ≡ None
birth_missed birth slot e = rw (ne_eqb slot.birth birth e) refl

pub standing_from : (heap : Heap) (r : Ref) (slot : Slot) → stored heap r ≡ Some slot → slot.birth ≡ birth_of r → standing heap r ≡ Some slot
standing_from heap r slot e b = ap (of_birth (birth_of r)) e ∙ birth_met (birth_of r) slot b

-- ---- one slot is written

-- what stands in the slot of another reference is as it was, where that is no reference to what stood or stands there
module _ (slots : List (Option Slot)) (q : Ref) (was : Slot) (found : get_or slots (slot_of q) None ≡ Some was) (its : was.birth ≡ birth_of q) where
  here_within : slot_of q < length slots
  here_within = found_within slots (slot_of q) was found

  -- there
  under_here : (o : Option Slot) → get_or (set slots (slot_of q) o) (slot_of q) None ≡ o
  under_here o = get_or-set_same slots (slot_of q) o None here_within

  -- the slot is another one
  under_elsewhere : (o : Option Slot) (r : Ref) → (slot_of r ≡ slot_of q → ⊥) → get_or (set slots (slot_of q) o) (slot_of r) None ≡ get_or slots (slot_of r) None
  under_elsewhere o r other = get_or-set_other slots (slot_of q) (slot_of r) o None other

  -- the slot is the same one, the birth another
  other_birth : (r : Ref) → (r ≡ q → ⊥) → slot_of r ≡ slot_of q → birth_of q ≡ birth_of r → ⊥
  other_birth r other s b = other (same_ref r q s (sym b))

  was_missed : (r : Ref) → (r ≡ q → ⊥) → slot_of r ≡ slot_of q → of_birth (birth_of r) (get_or slots (slot_of r) None) ≡ None
  was_missed r other s =
      ap (λ k. of_birth (birth_of r) (get_or slots k None)) s ∙ ap (of_birth (birth_of r)) found ∙ birth_missed (birth_of r) was (λ b. other_birth r other s (sym its ∙ b))

  -- what is put there has the same birth, or is nothing
  abbrev IsSuccessor : Option Slot → Type 0
  IsSuccessor o = (r : Ref) → (birth_of q ≡ birth_of r → ⊥) → of_birth (birth_of r) o ≡ None

  is_missed : (o : Option Slot) → IsSuccessor o → (r : Ref) → (r ≡ q → ⊥) → slot_of r ≡ slot_of q →
      of_birth (birth_of r) (get_or (set slots (slot_of q) o) (slot_of r) None) ≡ None
  is_missed o h r other s =
      ap (λ k. of_birth (birth_of r) (get_or (set slots (slot_of q) o) k None)) s ∙ ap (of_birth (birth_of r)) (under_here o) ∙ h r (other_birth r other s)

  -- so nothing changes under other references
  under_other : (o : Option Slot) → IsSuccessor o → (r : Ref) → (r ≡ q → ⊥) →
      of_birth (birth_of r) (get_or (set slots (slot_of q) o) (slot_of r) None) ≡ of_birth (birth_of r) (get_or slots (slot_of r) None)
  under_other o h r other = elim (cases_eq (slot_of r) (slot_of q)) [
    | inl s ↦ is_missed o h r other s ∙ sym (was_missed r other s)
    | inr s ↦ ap (of_birth (birth_of r)) (under_elsewhere o r s)
  ]

-- what keeps its birth stands under no other reference
kept_birth : (q : Ref) (slot : Slot) → slot.birth ≡ birth_of q → (r : Ref) → (birth_of q ≡ birth_of r → ⊥) → of_birth (birth_of r) (Some slot) ≡ None
kept_birth q slot its r other = birth_missed (birth_of r) slot (λ b. other (sym its ∙ b))

-- ---- the writes of a word

module _ (change : Slot → Slot) (keeps : (slot : Slot) → (change slot).birth ≡ slot.birth) (heap : Heap) (q : Ref) (was : Slot) (found : standing heap q ≡ Some was) where
  written_is : option_map change (stored heap q) ≡ Some (change was)
  written_is = ap (option_map change) ((standing_parts heap q was found).0)

  written_birth : (change was).birth ≡ birth_of q
  written_birth = keeps was ∙ (standing_parts heap q was found).1

  written_here : standing (written change heap q) q ≡ Some (change was)
  unfolding stored
  written_here =
      standing_from (written change heap q) q (change was)
      (under_here heap.slots q was ((standing_parts heap q was found).0) ((standing_parts heap q was found).1) _ ∙ written_is) written_birth

  written_other : (r : Ref) → (r ≡ q → ⊥) → standing (written change heap q) r ≡ standing heap r
  unfolding stored
  written_other r other =
      under_other heap.slots q was ((standing_parts heap q was found).0) ((standing_parts heap q was found).1) (option_map change (stored heap q))
      (λ x apart. ap (of_birth (birth_of x)) written_is ∙ kept_birth q (change was) written_birth x apart) r other

-- a main word is written
pub main_here : (heap : Heap) (q m : Ref) (was : Slot) → standing heap q ≡ Some was → standing (with_main heap q m) q ≡ Some (main_changed m was)
unfolding with_main
main_here heap q m was found = written_here (main_changed m) (λ slot. refl) heap q was found

pub main_other : (heap : Heap) (q m : Ref) (was : Slot) → standing heap q ≡ Some was → (r : Ref) → (r ≡ q → ⊥) → standing (with_main heap q m) r ≡ standing heap r
unfolding with_main
main_other heap q m was found r other = written_other (main_changed m) (λ slot. refl) heap q was found r other

-- a prev word is written
pub prev_here : (heap : Heap) (q : Ref) (p : Prev) (was : Slot) → standing heap q ≡ Some was → standing (with_prev heap q p) q ≡ Some (prev_changed p was)
unfolding with_prev
prev_here heap q p was found = written_here (prev_changed p) (λ slot. refl) heap q was found

pub prev_other : (heap : Heap) (q : Ref) (p : Prev) (was : Slot) → standing heap q ≡ Some was → (r : Ref) → (r ≡ q → ⊥) → standing (with_prev heap q p) r ≡ standing heap r
unfolding with_prev
prev_other heap q p was found r other = written_other (prev_changed p) (λ slot. refl) heap q was found r other

-- ---- a slot is freed

pub freed_here : (heap : Heap) (q : Ref) (was : Slot) → standing heap q ≡ Some was → standing (freed heap q) q ≡ None
unfolding freed stored
freed_here heap q was found =
    ap (of_birth (birth_of q)) (under_here heap.slots q was ((standing_parts heap q was found).0) ((standing_parts heap q was found).1) None)

pub freed_other : (heap : Heap) (q : Ref) (was : Slot) → standing heap q ≡ Some was → (r : Ref) → (r ≡ q → ⊥) → standing (freed heap q) r ≡ standing heap r
unfolding freed stored
freed_other heap q was found r other =
    under_other heap.slots q was ((standing_parts heap q was found).0) ((standing_parts heap q was found).1) None (λ x apart. refl) r other

-- what stands after a slot was freed stood before
nothing_there : (xs : List (Option Slot)) (k : ℕ) (x : Option Slot) → get_or (set xs k None) k None ≡ x → x ≡ None
nothing_there xs k None e = refl
nothing_there xs k (Some y) e = absurd (none-some y (found_here xs k None y e))

freed_by : (heap : Heap) (r q : Ref) (slot : Slot) → (slot_of q ≡ slot_of r) ⊎ (slot_of q ≡ slot_of r → ⊥) → standing (freed heap r) q ≡ Some slot → standing heap q ≡ Some slot
unfolding freed stored
freed_by heap r q slot (inl same) e =
    let empty = ap (λ k. get_or (set heap.slots (slot_of r) None) k None) same ∙ nothing_there heap.slots (slot_of r) _ refl in
    absurd (none-some slot (sym (ap (of_birth (birth_of q)) empty) ∙ e))
freed_by heap r q slot (inr differ) e = sym (ap (of_birth (birth_of q)) (get_or-set_other heap.slots (slot_of r) (slot_of q) None None differ)) ∙ e

pub freed_before : (heap : Heap) (r q : Ref) (slot : Slot) → standing (freed heap r) q ≡ Some slot → standing heap q ≡ Some slot
freed_before heap r q slot e = freed_by heap r q slot (cases_eq (slot_of q) (slot_of r)) e

-- ---- a slot is taken

-- what is put into a slot that was free
abbrev pub fresh_slot : Heap → Node → Slot
fresh_slot heap node = record { birth = heap.births + 1; node = node; prev = prev.None }

-- the first free slot is free, and a slot
abbrev pub IsFree : Heap → ℕ → Type 0
IsFree heap slot = (slot < length heap.slots) × (get_or heap.slots slot None ≡ None)

module _ (heap : Heap) (node : Node) (slot : ℕ) (free : List ℕ) (first : IsFree heap slot) where
  abbrev fresh : Ref
  fresh = ref_to (heap.births + 1) slot

  its_slot : slot_of fresh ≡ slot
  its_slot = slot_of_ref (heap.births + 1) slot

  its_birth : heap.births + 1 ≡ birth_of fresh
  its_birth = sym (birth_of_ref (heap.births + 1) slot)

  from_here : standing (take_from heap node (slot ∷ free)) fresh ≡ Some (fresh_slot heap node)
  unfolding stored
  from_here =
      standing_from (take_from heap node (slot ∷ free)) fresh (fresh_slot heap node)
      (ap (λ k. get_or (set heap.slots slot (Some (fresh_slot heap node))) k None) its_slot ∙ get_or-set_same heap.slots slot _ None first.0) its_birth

  -- nothing stood there
  none_before : standing heap fresh ≡ None
  unfolding stored
  none_before = ap (λ k. of_birth (birth_of fresh) (get_or heap.slots k None)) its_slot ∙ ap (of_birth (birth_of fresh)) first.1

  same_slot_other_birth : (r : Ref) → (r ≡ fresh → ⊥) → slot_of r ≡ slot → standing (take_from heap node (slot ∷ free)) r ≡ standing heap r
  unfolding stored
  same_slot_other_birth r other s =
      ap (λ k. of_birth (birth_of r) (get_or (set heap.slots slot (Some (fresh_slot heap node))) k None)) s
      ∙ ap (of_birth (birth_of r)) (get_or-set_same heap.slots slot (Some (fresh_slot heap node)) None first.0)
      ∙ birth_missed (birth_of r) (fresh_slot heap node) (λ b. other (same_ref r fresh (s ∙ sym its_slot) (sym b ∙ its_birth)))
      ∙ sym (ap (λ k. of_birth (birth_of r) (get_or heap.slots k None)) s ∙ ap (of_birth (birth_of r)) first.1)

  from_other : (r : Ref) → (r ≡ fresh → ⊥) → standing (take_from heap node (slot ∷ free)) r ≡ standing heap r
  unfolding stored
  from_other r other = elim (cases_eq (slot_of r) slot) [
    | inl s ↦ same_slot_other_birth r other s
    | inr s ↦ ap (of_birth (birth_of r)) (get_or-set_other heap.slots slot (slot_of r) _ None s)
  ]

-- ---- by the reference that is drawn

-- a slot that isn't flagged is empty
empty_slot : (o : Option Slot) → is_some o ≡ false → o ≡ None
empty_slot None e = refl
empty_slot (Some slot) e = absurd (false≢true (sym e))

first_is_free : (slots : ℕ) (heap : Heap) → AddsUp slots heap → (slot : ℕ) (free : List ℕ) → heap.free ≡ slot ∷ free → IsFree heap slot
first_is_free slots heap h slot free e =
    let (flagged, unused) = first_free (map is_some heap.slots) slot free (rw e at (h.rest)) in
    let within : slot < length heap.slots = rw length-map at flagged in
    (within, empty_slot _ (sym (get_or-map is_some heap.slots slot None false within) ∙ unused))

module _ (slots : ℕ) (heap : Heap) (sound : AddsUp slots heap) (node : Node) (made : Ref) where
  -- by what is free
  taken_by : (free : List ℕ) → heap.free ≡ free → ref_in heap.births free ≡ Some made →
      (standing (take_from heap node free) made ≡ Some (fresh_slot heap node)) × (standing heap made ≡ None) × ((r : Ref) → (r ≡ made → ⊥) → standing (take_from heap node free) r ≡ standing heap r)
      × (birth_of made ≡ heap.births + 1)
  taken_by [] e is = absurd (none-some made is)
  taken_by (slot ∷ free) e is =
      let first = first_is_free slots heap sound slot free e in
      subst (λ q. (standing (take_from heap node (slot ∷ free)) q ≡ Some (fresh_slot heap node)) × (standing heap q ≡ None)
      × ((r : Ref) → (r ≡ q → ⊥) → standing (take_from heap node (slot ∷ free)) r ≡ standing heap r)
      × (birth_of q ≡ heap.births + 1)) (same_Some _ _ is)
      (from_here heap node slot free first, none_before heap node slot free first, from_other heap node slot free first, sym (its_birth heap node slot free first))

  pub taken_all : next_ref heap ≡ Some made →
      (standing (taken heap node) made ≡ Some (fresh_slot heap node)) × (standing heap made ≡ None) × ((r : Ref) → (r ≡ made → ⊥) → standing (taken heap node) r ≡ standing heap r)
      × (birth_of made ≡ heap.births + 1)
  unfolding taken
  taken_all is = taken_by heap.free refl is

-- where no slot is free nothing is taken
pub none_taken : (heap : Heap) (node : Node) → next_ref heap ≡ None → taken heap node ≡ heap
unfolding taken
none_taken heap node e = by_free heap.free e
  where
    by_free : (free : List ℕ) → ref_in heap.births free ≡ None → take_from heap node free ≡ heap
    by_free [] e = refl
    by_free (slot ∷ free) e = absurd (none-some _ (sym e))

-- a birth is drawn
pub births_taken : (heap : Heap) (node : Node) (made : Ref) → next_ref heap ≡ Some made → (taken heap node).births ≡ heap.births + 1
unfolding taken
births_taken heap node made e = by_free heap.free e
  where
    by_free : (free : List ℕ) → ref_in heap.births free ≡ Some made → (take_from heap node free).births ≡ heap.births + 1
    by_free [] e = absurd (none-some made e)
    by_free (slot ∷ free) e = refl

-- a write of a main word draws nothing
pub main_births : (heap : Heap) (r m : Ref) → (with_main heap r m).births ≡ heap.births
unfolding with_main
main_births heap r m = refl
