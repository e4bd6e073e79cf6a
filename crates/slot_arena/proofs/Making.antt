-- What holds of an arena in which a slot was made: what waits, and what is live.
use Rattle.std.proofs.Common.{◌≡◌, ℕ, ◌<◌, ◌==◌, ◌∷◌, false, length, get_or, set, slice_index, Option, Some, None, refl, sym, ap, ◌∙◌, inl, inr, arith, eq-eqb}
use Rattle.std.proofs.lemmas.Bool.{cases_eq}
use Rattle.std.proofs.lemmas.List.{get_or-set_same, get_or-set_other}
use Rattle.slot_arena.specs.declared.refs.Ref.{Ref}
use Rattle.slot_arena.specs.declared.nodes.Slot.{Slot}
use Rattle.slot_arena.specs.Refs.{ref_to, birth_of}
use Rattle.slot_arena.specs.Times.{times}
use Rattle.slot_arena.specs.Tallies.{Tally, NotesZeros}
use Rattle.slot_arena.specs.Chains.{Chain}
use Rattle.slot_arena.specs.Arenas.{Contents, IsLive, NotesWaiting, has_birth, is_live}
use Rattle.slot_arena.specs.Kept.{live, IsKept}
use Rattle.slot_arena.proofs.Waiting.{born, waits_by, notes_by}
use Rattle.slot_arena.proofs.Makes.{first_unused}
use Rattle.slot_arena.proofs.Written.{born_set, live_stays}
use Rattle.slot_arena.proofs.Reading.{live_is, live_seen, live_shown}
use Rattle.slot_arena.proofs.Changed.{live_here}
use Rattle.slot_arena.proofs.Live.{slot_of_ref, birth_of_ref}

waits_not : (k : ℕ) (o : Option ℕ) (n : ℕ) → n ≡ 1 → waits_by k o (n == 0) ≡ None
waits_not k None n e = refl
waits_not k (Some birth) n e = ap (λ m. waits_by k (Some birth) (m == 0)) e

module _
    (was now : Contents) (tally raised begun : Tally) (free free' : Chain) (used used' at : ℕ) (slot : Slot)
    (kept : IsKept was.heap.slots tally.counts free used was.outside) (first : free.slots ≡ at ∷ free'.slots)
    (filled : now.heap.slots ≡ set was.heap.slots at (Some slot))
  where
    empty : get_or was.heap.slots at None ≡ None
    empty = first_unused was.heap.slots tally.counts free used was.outside kept at free'.slots first

    -- what waits is noted
    pub made_notes : IsKept now.heap.slots begun.counts free' used' now.outside → NotesZeros tally raised → was.noted ≡ tally.noted → now.noted ≡ raised.noted →
        begun.counts ≡ set raised.counts at 1 → at < length raised.counts → NotesWaiting was now
    made_notes kept' zeros noted noted' counts below =
        notes_by was now tally.counts begun.counts free free' used used' kept kept' (λ k none.
        let step = zeros k (sym (ap (times k) noted') ∙ none) in (
          ap (times k) noted ∙ step.0,
          elim (cases_eq k at) [
            | inl same ↦
                ap (λ o. waits_by k (born o) (slice_index tally.counts k == 0)) (ap (λ i. get_or was.heap.slots i None) same ∙ empty)
                ∙ sym (waits_not k (born (get_or now.heap.slots k None)) (slice_index begun.counts k)
                (ap (λ cs. slice_index cs k) counts ∙ ap (slice_index (set raised.counts at 1)) same ∙ get_or-set_same raised.counts at 1 0 below))
            | inr other ↦
                ap (λ o. waits_by k o (slice_index tally.counts k == 0)) (born_set was.heap.slots at k (Some slot) other ∙ sym (ap (λ s. born (get_or s k None)) filled))
                ∙ ap (waits_by k (born (get_or now.heap.slots k None)))
                (step.1 ∙ sym (ap (λ n. n == 0) (ap (λ cs. slice_index cs k) counts ∙ get_or-set_other raised.counts at k 1 0 other)))
          ],
        ))

    -- what was live is live
    pub made_stays : (q : Ref) → IsLive was.heap q → IsLive now.heap q
    made_stays q has = live_shown now.heap q (ap (λ s. live s q) filled ∙ live_stays was.heap.slots at (Some slot) q (live_seen was.heap q has) empty)

    -- and so is what was made
    pub made_lives : at < free.size → IsLive now.heap (ref_to slot.birth at)
    made_lives below =
        let within : at < length was.heap.slots = let is = kept.chained in omega arith in
        live_shown now.heap (ref_to slot.birth at)
        (ap (λ s. live s (ref_to slot.birth at)) filled ∙ live_here was.heap.slots at (Some slot) (ref_to slot.birth at) within (slot_of_ref slot.birth at)
        ∙ eq-eqb slot.birth (birth_of (ref_to slot.birth at)) (sym (birth_of_ref slot.birth at)))

    -- which wasn't before
    pub made_fresh : at < free.size → is_live was.heap (ref_to slot.birth at) ≡ false
    made_fresh below =
        let its_birth : ℕ = birth_of (ref_to slot.birth at) in
        live_is was.heap (ref_to slot.birth at) ∙ ap (λ i. has_birth its_birth (get_or was.heap.slots i None)) (slot_of_ref slot.birth at) ∙ ap (has_birth its_birth) empty
