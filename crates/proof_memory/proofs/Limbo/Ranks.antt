-- At rest, with limbo empty, each slot in use is reached, where some measure falls on the way up.
use Rattle.std.proofs.Common.{◌≡◌, ℕ, zero, suc, ◌+◌, ◌<◌, ◌==◌, Bool, true, false, cond, is_some, List, [], ◌∷◌, ◌++◌, map, flat_map, count_by, get_or, Contains, Option}
use Rattle.std.proofs.Common.{Some, None, refl, sym, ap, ◌∙◌, subst, ◌⊎◌, inl, inr, ne_eqb, arith}
use Rattle.std.specs.List.{list_any}
use Rattle.std.proofs.lemmas.Bool.{cases_eq, true≢false, or_parts}
use Rattle.std.proofs.lemmas.List.Elements.{Contains-append_right, Contains-append_cases}
use Rattle.std.proofs.lemmas.List.Sums.{sum_by-cons}
use Rattle.proof_memory.specs.Vocabulary.{ref_to, Ref, Slot, stored, heap_refs, refs_of_slot, count_of, Operation, State, outside, refs_of_root, refs_of_operation, IsReached, from_slot, is_busy}
use Rattle.proof_memory.specs.Vocabulary.{standing}
use Rattle.machine_model.specs.Contents.{from_root}
use Rattle.machine_model.proofs.Rest.{one_if}
use Rattle.proof_memory.specs.Laws.{IsInUse}
use Rattle.proof_memory.proofs.Heap.Under.{standing_from}
use Rattle.proof_memory.proofs.Safety.States.{IsSafe}
use Rattle.proof_memory.proofs.Limbo.Exact.{HasZeros}
use Rattle.proof_memory.proofs.Safety.Standing.{none_contained, in_root, in_any_slot}
use Rattle.machine_model.proofs.Grown.{standing_parts}
use Rattle.proof_memory.specs.Beneath.slot_arena.proofs.Live.{slot_of_ref, birth_of_ref}

-- ---- what is counted stands somewhere

count_cons : (q r : Ref) (rs : List Ref) → count_by (λ x. x == r) (q ∷ rs) ≡ one_if (q == r) + count_by (λ x. x == r) rs
count_cons q r rs = sum_by-cons (λ x. cond (x == r) 1 0) q rs

stands_if_counted : (rs : List Ref) (r : Ref) → (count_by (λ q. q == r) rs ≡ 0 → ⊥) → Contains rs r
stands_if_counted [] r h = absurd (h refl)
stands_if_counted (q ∷ rs) r h = elim (cases_eq q r) [
  | inl here ↦ (zero, omega arith, here)
  | inr other ↦ Contains-append_right (q ∷ []) rs r (stands_if_counted rs r (λ e. h (none_more (count_cons q r rs) (ap one_if (ne_eqb q r other)) e)))
]
  where
    none_more : count_by (λ x. x == r) (q ∷ rs) ≡ one_if (q == r) + count_by (λ x. x == r) rs → one_if (q == r) ≡ 0 → count_by (λ x. x == r) rs ≡ 0 → count_by (λ x. x == r) (q ∷ rs) ≡ 0
    none_more a b c = omega arith

-- in a list that is put together from parts
part_of : {X : Type 0} (f : Option X → List Ref) (xs : List (Option X)) (r : Ref) → Contains (flat_map f xs) r → (k : ℕ) × Contains (f (get_or xs k None)) r
part_of f [] r c = none_contained r c
part_of f (x ∷ xs) r c = elim (Contains-append_cases (f x) (flat_map f xs) r c) [
  | inl here ↦ (zero, here)
  | inr later ↦ let found = part_of f xs r later in (suc found.0, found.1)
]

-- where no actor runs an operation nothing is private
idle_lists : (actors : List (Option Operation)) → list_any is_some actors ≡ false → (k : ℕ) (r : Ref) → Contains (refs_of_operation (get_or actors k None)) r → ⊥
idle_lists [] e k r c = none_contained r c
idle_lists (None ∷ actors) e zero r c = none_contained r c
idle_lists (Some operation ∷ actors) e k r c = true≢false (or_parts true (list_any is_some actors) e).0
idle_lists (None ∷ actors) e (suc k) r c = idle_lists actors (or_parts false (list_any is_some actors) e).1 k r c

-- ---- the way up

-- A measure falls from what is referred to, up to what refers to it; leaves, which refer to nothing, need none.
pub record IsMeasured (state : State) (leaf : Ref → Bool) (measure : Ref → ℕ) : Type 0 where
  pub inner : (q r : Ref) (slot : Slot) → standing state.heap q ≡ Some slot → Contains (refs_of_slot (Some slot)) r → leaf q ≡ false
  pub falls : (q r : Ref) (slot : Slot) → standing state.heap q ≡ Some slot → Contains (refs_of_slot (Some slot)) r → leaf r ≡ false → measure q < measure r

-- what is reached is in use
pub reached_in_use : (state : State) → IsSafe state → (r : Ref) → IsReached state r → IsInUse state.heap r
reached_in_use state I r (from_root handle q c) = in_root state I handle r c
reached_in_use state I r (from_slot q x h c) = in_any_slot state I q r c

module _ (state : State) (I : IsSafe state) (zeros : HasZeros state) (empty : state.limbo ≡ []) (rest : is_busy state ≡ false) where
  -- something refers to each slot in use
  referred : (r : Ref) → IsInUse state.heap r → Contains (heap_refs state.heap ++ outside state) r
  unfolding count_of
  referred r used =
      stands_if_counted (heap_refs state.heap ++ outside state) r (λ none. none_contained r (subst (λ l. Contains (map (λ z. z.at) l) r) empty (zeros r (used, none))))

  -- a slot that refers to it
  Referrer : Ref → Type 0
  Referrer r = (q : Ref) × (slot : Slot) × (standing state.heap q ≡ Some slot) × Contains (refs_of_slot (Some slot)) r

  referrer_at : (k : ℕ) (o : Option Slot) → get_or state.heap.slots k None ≡ o → (r : Ref) → Contains (refs_of_slot o) r → Referrer r
  unfolding Referrer stored
  referrer_at k None e r c = none_contained r c
  referrer_at k (Some slot) e r c = (
    ref_to slot.birth k,
    slot,
    standing_from state.heap (ref_to slot.birth k) slot (ap (λ i. get_or state.heap.slots i None) (slot_of_ref slot.birth k) ∙ e) (sym (birth_of_ref slot.birth k)),
    c,
  )

  -- it stands in a root word or in a slot
  referred_from : (r : Ref) → IsInUse state.heap r → IsReached state r ⊎ Referrer r
  referred_from r used = elim (Contains-append_cases (heap_refs state.heap) (outside state) r (referred r used)) [
    | inl inside ↦ let found = part_of refs_of_slot state.heap.slots r inside in inr (referrer_at found.0 (get_or state.heap.slots found.0 None) refl r found.1)
    | inr out ↦ elim (Contains-append_cases (flat_map refs_of_root state.roots) (flat_map refs_of_operation state.actors) r out) [
      | inl root ↦ let found = part_of refs_of_root state.roots r root in inl (from_root found.0 r found.1)
      | inr list ↦ let found = part_of refs_of_operation state.actors r list in absurd (idle_lists state.actors rest found.0 r found.1)
    ]
  ]

  reached_below : (q r : Ref) (slot : Slot) → standing state.heap q ≡ Some slot → Contains (refs_of_slot (Some slot)) r → IsReached state q → IsReached state r
  reached_below q r slot e c h = from_slot q r h (subst (λ o. Contains (refs_of_slot o) r) (sym ((standing_parts state.heap q slot e).0)) c)

  module _ (leaf : Ref → Bool) (measure : Ref → ℕ) (measured : IsMeasured state leaf measure) where
    up : (n : ℕ) (r : Ref) → measure r < n → leaf r ≡ false → IsInUse state.heap r → IsReached state r
    unfolding Referrer
    up zero r low inner used = absurd (omega arith)
    up (suc n) r low inner used = elim (referred_from r used) [
      | inl root ↦ root
      | inr found ↦
          let (q, slot, e, c) = found in
          let less : measure q < measure r = measured.falls q r slot e c inner in
          reached_below q r slot e c (up n q (omega arith) (measured.inner q r slot e c) (slot, e))
    ]

    -- each slot in use is reached
    pub in_use_reached : (r : Ref) → IsInUse state.heap r → IsReached state r
    unfolding Referrer
    in_use_reached r used = elim (referred_from r used) [
      | inl root ↦ root
      | inr found ↦
          let (q, slot, e, c) = found in
          reached_below q r slot e c (up (suc (measure q)) q (omega arith) (measured.inner q r slot e c) (slot, e))
    ]
