-- Exact counts: what the change of one slot, and of what is held from outside, leaves of them.
use Rattle.std.proofs.Common.{◌≡◌, ℕ, ◌<◌, ◌≤◌, true, false, cond, List, [], ◌∷◌, get_or, slice_index, All, Option, Some, None, refl, ap, ◌∙◌, inl, inr, arith}
use Rattle.std.specs.List.{sum_by, flat_map}
use Rattle.std.proofs.lemmas.Bool.{cases_Bool}
use Rattle.std.proofs.lemmas.List.Elements.{All-nil, All-cons}
use Rattle.std.proofs.lemmas.List.Sums.{sum_by-cons}
use Rattle.slot_arena.specs.declared.refs.Ref.{Ref}
use Rattle.slot_arena.specs.declared.nodes.Slot.{Slot}
use Rattle.slot_arena.specs.Refs.{ref_to, slot_of}
use Rattle.slot_arena.specs.Heaps.{Heap, refs_of_slot}
use Rattle.slot_arena.specs.Counts.{count_of}
use Rattle.slot_arena.specs.Times.{times}
use Rattle.slot_arena.specs.Tallies.{naming}
use Rattle.slot_arena.specs.Kept.{live, found, counted}
use Rattle.slot_arena.proofs.Times.{once_same, times-cons, times-append}
use Rattle.slot_arena.proofs.Live.{live_times, live_ref, unnamed, slot_of_ref}

-- how often a reference stands in what a slot holds
abbrev in_slot : Ref → Option Slot → ℕ
in_slot r o = times r (refs_of_slot o)

found_in : (r : Ref) (slots : List (Option Slot)) → times r (flat_map refs_of_slot slots) ≡ sum_by (in_slot r) slots
found_in r [] = refl
found_in r (o ∷ slots) = omega (arith, times-append r (refs_of_slot o) (flat_map refs_of_slot slots), sum_by-cons (in_slot r) o slots, found_in r slots)

-- the count of the definition is how often the reference is found
pub count_found : (heap : Heap) (outside : List Ref) (r : Ref) → count_of heap outside r ≡ found heap.slots outside r
unfolding count_of
count_found heap outside r = omega (arith, times-append r (flat_map refs_of_slot heap.slots) outside, found_in r heap.slots)

module _ (slots : List (Option Slot)) (counts : List ℕ) (outside : List Ref) (exact : (r : ℕ) → found slots outside r ≡ counted slots counts r) where
  -- what is found is in use
  pub live_found : (r : Ref) → 0 < found slots outside r → live slots r ≡ true
  live_found r some = elim (cases_Bool (live slots r)) [
    | inl has ↦ has
    | inr dead ↦ let none : counted slots counts r ≡ 0 = ap (λ b. cond b (slice_index counts (slot_of r)) 0) dead in absurd (omega (arith, exact r))
  ]

  -- its count is how often it is found
  pub exact_live : (r : Ref) → live slots r ≡ true → found slots outside r ≡ slice_index counts (slot_of r)
  exact_live r has = exact r ∙ ap (λ b. cond b (slice_index counts (slot_of r)) 0) has

  pub exact_dead : (r : Ref) → live slots r ≡ false → found slots outside r ≡ 0
  exact_dead r dead = exact r ∙ ap (λ b. cond b (slice_index counts (slot_of r)) 0) dead

  -- so what stands there is in use
  pub part_live : (rs : List Ref) → ((q : Ref) → times q rs ≤ found slots outside q) → All (λ q. live slots q ≡ true) rs
  part_live [] part = All-nil (λ (q : Ref). live slots q ≡ true)
  part_live (r ∷ rs) part =
      All-cons (λ (q : Ref). live slots q ≡ true) r rs (live_found r (omega (arith, part r, times-cons r r rs, once_same r)))
      (part_live rs (λ q. omega (arith, part q, times-cons q r rs)))

  -- and its slot is counted often enough
  pub part_counted : (rs : List Ref) → ((q : Ref) → times q rs ≤ found slots outside q) → (k : ℕ) → naming k rs ≤ slice_index counts k
  part_counted rs part k = by_slot (get_or slots k None) refl
    where
      all : All (λ q. live slots q ≡ true) rs
      all = part_live rs part

      by_slot : (o : Option Slot) → get_or slots k None ≡ o → naming k rs ≤ slice_index counts k
      by_slot None none = omega (arith, unnamed slots k rs none all)
      by_slot (Some slot) some =
          let at = live_ref slots k slot some in
          let same = slot_of_ref slot.birth k in
          omega (
            arith,
            live_times slots (ref_to slot.birth k) rs at all,
            part (ref_to slot.birth k),
            exact_live (ref_to slot.birth k) at,
            ap (λ i. naming i rs) same,
            ap (slice_index counts) same,
          )
