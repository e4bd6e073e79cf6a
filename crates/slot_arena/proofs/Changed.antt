-- What is found after a change, and that its counts are exact.
use Rattle.std.proofs.Common.{◌≡◌, ℕ, ◌+◌, ◌*◌, ◌<◌, ◌≤◌, ◌^◌, ◌==◌, Bool, true, false, cond, List, length, get_or, set}
use Rattle.std.proofs.Common.{slice_index, All, Option, Some, None, is_some, refl, ap, ◌∙◌, subst, inl, inr, arith}
use Rattle.std.proofs.lemmas.Bool.{cases_Bool}
use Rattle.std.proofs.lemmas.List.{get_or-set_same, get_or-set_other, get_or_default}
use Rattle.std.proofs.lemmas.List.Sums.{sum_by-set, sum_by-le, count_by-le-length}
use Rattle.slot_arena.specs.declared.refs.Ref.{Ref}
use Rattle.slot_arena.specs.declared.nodes.Slot.{Slot}
use Rattle.slot_arena.specs.Refs.{ref_to, slot_of, birth_of, most_slots}
use Rattle.slot_arena.specs.declared.nodes.Prev.{Prev}
use Rattle.slot_arena.specs.declared.nodes.Prev.TheVariants as prev
use Rattle.slot_arena.specs.Heaps.{node_of, refs_of_node, refs_of_prev, refs_of_slot}
use Rattle.slot_arena.proofs.Times.{times-append}
use Rattle.slot_arena.specs.Times.{times}
use Rattle.slot_arena.specs.Tallies.{naming}
use Rattle.slot_arena.specs.Chains.{Chain}
use Rattle.slot_arena.specs.Arenas.{has_birth}
use Rattle.slot_arena.specs.Kept.{live, found, counted, IsKept}
use Rattle.slot_arena.proofs.Parts.{used_within}
use Rattle.slot_arena.proofs.Live.{live_times, dead_times, live_ref, slot_of_ref}
use Rattle.slot_arena.proofs.Exact.{exact_live, exact_dead}

-- what is found after one slot and what is held were changed
pub found_set : (slots : List (Option Slot)) (k : ℕ) (o : Option Slot) (outside outside' : List Ref) (r : Ref) → k < length slots →
    found (set slots k o) outside' r + (times r (refs_of_slot (get_or slots k None)) + times r outside) ≡ found slots outside r + (times r (refs_of_slot o) + times r outside')
found_set slots k o outside outside' r within =
    let moved = sum_by-set (λ (s : Option Slot). times r (refs_of_slot s)) slots k o None within in omega arith

-- which references are live after a slot was changed
pub live_here : (slots : List (Option Slot)) (k : ℕ) (o : Option Slot) (r : Ref) → k < length slots → slot_of r ≡ k → live (set slots k o) r ≡ has_birth (birth_of r) o
live_here slots k o r within same =
    ap (λ i. has_birth (birth_of r) (get_or (set slots k o) i None)) same ∙ ap (has_birth (birth_of r)) (get_or-set_same slots k o None within)

pub live_there : (slots : List (Option Slot)) (k : ℕ) (o : Option Slot) (r : Ref) → (slot_of r ≡ k → ⊥) → live (set slots k o) r ≡ live slots r
live_there slots k o r apart = ap (has_birth (birth_of r)) (get_or-set_other slots k (slot_of r) o None apart)

module _
    (slots slots' : List (Option Slot)) (counts counts' : List ℕ) (outside outside' plus minus : List Ref)
    (exact : (r : ℕ) → found slots outside r ≡ counted slots counts r)
    (moved : (r : ℕ) → found slots' outside' r + times r minus ≡ found slots outside r + times r plus)
    (counted_so : (k : ℕ) → slice_index counts' k + naming k minus ≡ slice_index counts k + naming k plus)
    (gained : All (λ q. live slots q ≡ true) plus)
    (lost : All (λ q. live slots q ≡ true) minus)
  where
    -- a reference that isn't live is found nowhere
    pub dead_stays : (r : Ref) → live slots r ≡ false → found slots' outside' r ≡ 0
    dead_stays r dead = omega (arith, moved r, dead_times slots r plus dead gained, exact_dead slots counts outside exact r dead)

    -- where a reference is live as before, its count is exact
    pub exact_same : (r : Ref) → live slots' r ≡ live slots r → found slots' outside' r ≡ counted slots' counts' r
    exact_same r same = elim (cases_Bool (live slots r)) [
      | inl has ↦ let now : counted slots' counts' r ≡ slice_index counts' (slot_of r) = ap (λ b. cond b (slice_index counts' (slot_of r)) 0) (same ∙ has) in
          omega (arith, moved r, counted_so (slot_of r), live_times slots r plus has gained, live_times slots r minus has lost, exact_live slots counts outside exact r has)
      | inr dead ↦ let now : counted slots' counts' r ≡ 0 = ap (λ b. cond b (slice_index counts' (slot_of r)) 0) (same ∙ dead) in omega (arith, dead_stays r dead)
    ]

-- a count that is zero counts nothing, live or not
pub counted_none : (slots : List (Option Slot)) (counts : List ℕ) (r : Ref) → slice_index counts (slot_of r) ≡ 0 → counted slots counts r ≡ 0
counted_none slots counts r none = ap (λ n. cond (live slots r) n 0) none ∙ either (live slots r)
  where
    either : (b : Bool) → cond {A = ℕ} b 0 0 ≡ 0
    either true = refl
    either false = refl

pub one_prev : (p : Prev) → length (refs_of_prev p) ≤ 1
one_prev prev.None = omega arith
one_prev (prev.Pending q) = omega arith
one_prev (prev.Failed q) = omega arith

narrow_times : (r : Ref) (o : Option Slot) → length (refs_of_node (node_of o)) ≤ 32 → times r (refs_of_slot o) ≤ 33
narrow_times r None few = omega arith
narrow_times r (Some slot) few =
    omega (
      arith,
      times-append r (refs_of_node slot.node) (refs_of_prev slot.prev),
      one_prev slot.prev,
      count_by-le-length (λ q. q == r) (refs_of_node slot.node),
      count_by-le-length (λ q. q == r) (refs_of_prev slot.prev),
    )

-- no count comes near 2^32
pub counts_small : (slots : List (Option Slot)) (counts : List ℕ) (free : Chain) (used : ℕ) (outside : List Ref) → IsKept slots counts free used outside → (k : ℕ) →
    slice_index counts k ≤ 33 * most_slots + 2 ^ 31
counts_small slots counts free used outside kept k = by_slot (get_or slots k None) refl
  where
    each : (r : Ref) → All (λ o. times r (refs_of_slot o) ≤ 33) slots
    each r i d within = subst (λ o. times r (refs_of_slot o) ≤ 33) (get_or_default slots i None d within) (narrow_times r (get_or slots i None) (kept.narrow i))

    by_slot : (o : Option Slot) → get_or slots k None ≡ o → slice_index counts k ≤ 33 * most_slots + 2 ^ 31
    by_slot None none = let zero_count = kept.unused k none in omega arith
    by_slot (Some slot) some =
        let within = used_within slots k (ap is_some some) in
        let r : Ref = ref_to slot.birth k in
        let is = exact_live slots counts outside kept.exact r (live_ref slots k slot some) in
        let at = ap (slice_index counts) (slot_of_ref slot.birth k) in
        omega (arith, sum_by-le (λ (o : Option Slot). times r (refs_of_slot o)) 33 slots (each r), kept.held r)
