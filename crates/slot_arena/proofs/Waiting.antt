-- Which slots wait for nothing to refer to them, by counts.
use Rattle.std.proofs.Common.{◌≡◌, ℕ, ◌==◌, Bool, true, false, cond, List, get_or, slice_index, Option, Some, None}
use Rattle.std.proofs.Common.{refl, sym, ap, subst, ◌∙◌, ◌⊎◌, inl, inr, eq-eqb, eqb-true}
use Rattle.std.proofs.lemmas.Bool.{cases_Bool}
use Rattle.slot_arena.specs.Cells.{birth_of_slot}
use Rattle.slot_arena.specs.declared.refs.Ref.{Ref}
use Rattle.slot_arena.specs.declared.nodes.Slot.{Slot}
use Rattle.slot_arena.specs.Refs.{ref_to, slot_of, birth_of}
use Rattle.std.proofs.lemmas.Bool.{false≢true}
use Rattle.std.proofs.lemmas.Option.{none-some, same_Some}
use Rattle.slot_arena.specs.Heaps.{Heap}
use Rattle.slot_arena.specs.Counts.{count_of}
use Rattle.slot_arena.specs.Times.{times}
use Rattle.slot_arena.specs.Tallies.{NotesZeros}
use Rattle.slot_arena.specs.Chains.{Chain}
use Rattle.slot_arena.specs.Arenas.{Contents, IsLive, has_birth, waiting, waiting_in, NotesWaiting, NotesWaitingBut}
use Rattle.slot_arena.specs.Kept.{live, IsKept}
use Rattle.slot_arena.proofs.Live.{live_ref, slot_of_ref, birth_of_ref, ref_again}
use Rattle.slot_arena.proofs.Reading.{live_seen, live_shown}
use Rattle.slot_arena.proofs.Exact.{count_found, exact_live}

-- the birth under which a slot is in use, if it is
abbrev pub born : Option Slot → Option ℕ
born None = None
born (Some slot) = Some slot.birth

abbrev pub waits_by : ℕ → Option ℕ → Bool → Option Ref
waits_by k None test = None
waits_by k (Some birth) test = cond test (Some (ref_to birth k)) None

module _ (heap : Heap) (counts : List ℕ) (free : Chain) (used : ℕ) (outside : List Ref) (kept : IsKept heap.slots counts free used outside) (k : ℕ) where
  -- the count of a slot in use
  pub count_at : (slot : Slot) → get_or heap.slots k None ≡ Some slot → count_of heap outside (ref_to slot.birth k) ≡ slice_index counts k
  count_at slot some =
      count_found heap outside (ref_to slot.birth k) ∙ exact_live heap.slots counts outside kept.exact (ref_to slot.birth k) (live_ref heap.slots k slot some)
      ∙ ap (slice_index counts) (slot_of_ref slot.birth k)

  waiting_is : (o : Option Slot) → get_or heap.slots k None ≡ o → waiting_in heap outside k o ≡ waits_by k (born o) (slice_index counts k == 0)
  waiting_is None none = refl
  waiting_is (Some slot) some = ap (λ n. cond (n == 0) (Some (ref_to slot.birth k)) None) (count_at slot some)

  -- what waits in a slot, by its birth and its count
  pub waits_read : (birth count : ℕ) → birth ≡ birth_of_slot (get_or heap.slots k None) → (birth ≡ 0 → get_or heap.slots k None ≡ None) → count ≡ slice_index counts k →
      ((birth ≡ 0 → ⊥) → count ≡ 0 → waiting_in heap outside k (get_or heap.slots k None) ≡ Some (ref_to birth k))
      × ((birth ≡ 0) ⊎ (count ≡ 0 → ⊥) → waiting_in heap outside k (get_or heap.slots k None) ≡ None)
  waits_read birth count is none at = (there, elsewhere)
    where
      go : (o : Option Slot) → get_or heap.slots k None ≡ o → (birth ≡ 0 → ⊥) → count ≡ 0 → waiting_in heap outside k (get_or heap.slots k None) ≡ Some (ref_to birth k)
      go None e born_there unreferred = absurd (born_there (is ∙ ap birth_of_slot e))
      go (Some slot) e born_there unreferred =
          let same : birth ≡ slot.birth = is ∙ ap birth_of_slot e in
          waiting_is (get_or heap.slots k None) refl ∙ ap (λ o. waits_by k (born o) (slice_index counts k == 0)) e
          ∙ ap (λ b. cond b (Some (ref_to slot.birth k)) None) (eq-eqb (slice_index counts k) 0 (sym at ∙ unreferred)) ∙ ap (λ b. Some (ref_to b k)) (sym same)

      there : (birth ≡ 0 → ⊥) → count ≡ 0 → waiting_in heap outside k (get_or heap.slots k None) ≡ Some (ref_to birth k)
      there = go (get_or heap.slots k None) refl

      by_count : (o : Option Slot) → (count ≡ 0 → ⊥) → waits_by k (born o) (slice_index counts k == 0) ≡ None
      by_count None referred = refl
      by_count (Some slot) referred = elim (cases_Bool (slice_index counts k == 0)) [
        | inl yes_zero ↦ absurd (referred (at ∙ eqb-true (slice_index counts k) 0 yes_zero))
        | inr some ↦ ap (λ b. cond b (Some (ref_to slot.birth k)) None) some
      ]

      elsewhere : (birth ≡ 0) ⊎ (count ≡ 0 → ⊥) → waiting_in heap outside k (get_or heap.slots k None) ≡ None
      elsewhere (inl unborn) = ap (waiting_in heap outside k) (none unborn)
      elsewhere (inr referred) = waiting_is (get_or heap.slots k None) refl ∙ by_count (get_or heap.slots k None) referred

-- what waits by its birth and its count waits where these are the same
module _
    (a b : Contents) (counts counts' : List ℕ) (free free' : Chain) (used used' : ℕ) (kept : IsKept a.heap.slots counts free used a.outside) (kept' : IsKept b.heap.slots counts' free' used' b.outside)
  where
    by_parts : (k : ℕ) → waits_by k (born (get_or a.heap.slots k None)) (slice_index counts k == 0) ≡ waits_by k (born (get_or b.heap.slots k None)) (slice_index counts' k == 0) →
        waiting a k ≡ waiting b k
    by_parts k same =
        waiting_is a.heap counts free used a.outside kept k (get_or a.heap.slots k None) refl ∙ same
        ∙ sym (waiting_is b.heap counts' free' used' b.outside kept' k (get_or b.heap.slots k None) refl)

    by_birth : (k : ℕ) → born (get_or a.heap.slots k None) ≡ born (get_or b.heap.slots k None) → (slice_index counts k == 0) ≡ (slice_index counts' k == 0) → waiting a k ≡ waiting b k
    by_birth k same zero = by_parts k (ap (λ o. waits_by k o (slice_index counts k == 0)) same ∙ ap (waits_by k (born (get_or b.heap.slots k None))) zero)

    pub notes_by : ((k : ℕ) → times k b.noted ≡ 0 → (times k a.noted ≡ 0) ×
        (waits_by k (born (get_or a.heap.slots k None)) (slice_index counts k == 0) ≡ waits_by k (born (get_or b.heap.slots k None)) (slice_index counts' k == 0))) → NotesWaiting a b
    notes_by each k none = let step = each k none in (step.0, by_parts k step.1)

    module _ (zeros : NotesZeros (record { counts = counts; noted = a.noted; ticks = 0 }) (record { counts = counts'; noted = b.noted; ticks = 0 })) where
      -- zeros that are noted are noted as waiting
      pub notes_waiting : ((k : ℕ) → times k b.noted ≡ 0 → born (get_or a.heap.slots k None) ≡ born (get_or b.heap.slots k None)) → NotesWaiting a b
      notes_waiting same k none = let step = zeros k none in (step.0, by_birth k (same k none) step.1)

      -- but for a slot that comes into use or goes out of it
      pub notes_but : (one : ℕ) → ((k : ℕ) → (k ≡ one → ⊥) → born (get_or a.heap.slots k None) ≡ born (get_or b.heap.slots k None)) → NotesWaitingBut one a b
      notes_but one same k none = let step = zeros k none in (step.0, λ other. by_birth k (same k other) step.1)

-- what is live and unreferred waits
pub zero_waits : (arena : Contents) (r : Ref) → IsLive arena.heap r → (count_of arena.heap arena.outside r == 0) ≡ true → waiting arena (slot_of r) ≡ Some r
zero_waits arena r has unreferred = by_slot (get_or arena.heap.slots (slot_of r) None) refl
  where
    by_slot : (o : Option Slot) → get_or arena.heap.slots (slot_of r) None ≡ o → waiting_in arena.heap arena.outside (slot_of r) (get_or arena.heap.slots (slot_of r) None) ≡ Some r
    by_slot None none = absurd (false≢true (sym (ap (has_birth (birth_of r)) none) ∙ live_seen arena.heap r has))
    by_slot (Some slot) some =
        let birth : (slot.birth == birth_of r) ≡ true = sym (ap (has_birth (birth_of r)) some) ∙ live_seen arena.heap r has in
        let same : ref_to slot.birth (slot_of r) ≡ r = ap (λ b. ref_to b (slot_of r)) (eqb-true slot.birth (birth_of r) birth) ∙ ref_again r in
        ap (waiting_in arena.heap arena.outside (slot_of r)) some ∙ ap (λ q. cond (count_of arena.heap arena.outside q == 0) (Some q) None) same
        ∙ ap (λ b. cond b (Some r) None) unreferred

-- what waits is unreferred
pub waits_zero : (arena : Contents) (k : ℕ) (r : Ref) → waiting arena k ≡ Some r → (count_of arena.heap arena.outside r == 0) ≡ true
waits_zero arena k r is = by_slot (get_or arena.heap.slots k None) refl
  where
    by_test : (q : Ref) (b : Bool) → (count_of arena.heap arena.outside q == 0) ≡ b → cond b (Some q) None ≡ Some r → (count_of arena.heap arena.outside r == 0) ≡ true
    by_test q true e at = subst (λ p. (count_of arena.heap arena.outside p == 0) ≡ true) (same_Some q r at) e
    by_test q false e at = absurd (none-some r at)

    by_slot : (o : Option Slot) → get_or arena.heap.slots k None ≡ o → (count_of arena.heap arena.outside r == 0) ≡ true
    by_slot None none = absurd (none-some r (sym (ap (waiting_in arena.heap arena.outside k) none) ∙ is))
    by_slot (Some slot) some =
        by_test (ref_to slot.birth k) (count_of arena.heap arena.outside (ref_to slot.birth k) == 0) refl (sym (ap (waiting_in arena.heap arena.outside k) some) ∙ is)

-- what waits is live
pub waits_live : (arena : Contents) (r : Ref) → waiting arena (slot_of r) ≡ Some r → IsLive arena.heap r
waits_live arena r is = live_shown arena.heap r (by_slot (get_or arena.heap.slots (slot_of r) None) refl)
  where
    by_test : (slot : Slot) (b : Bool) → get_or arena.heap.slots (slot_of r) None ≡ Some slot → cond b (Some (ref_to slot.birth (slot_of r))) None ≡ Some r → live arena.heap.slots r ≡ true
    by_test slot true some at =
        ap (has_birth (birth_of r)) some ∙ eq-eqb slot.birth (birth_of r) (sym (birth_of_ref slot.birth (slot_of r)) ∙ ap birth_of (same_Some (ref_to slot.birth (slot_of r)) r at))
    by_test slot false some at = absurd (none-some r at)

    by_slot : (o : Option Slot) → get_or arena.heap.slots (slot_of r) None ≡ o → live arena.heap.slots r ≡ true
    by_slot None none = absurd (none-some r (sym (ap (waiting_in arena.heap arena.outside (slot_of r)) none) ∙ is))
    by_slot (Some slot) some =
        by_test slot (count_of arena.heap arena.outside (ref_to slot.birth (slot_of r)) == 0) some (sym (ap (waiting_in arena.heap arena.outside (slot_of r)) some) ∙ is)
