-- Which references name a slot in use, and that those in limbo do.
use Rattle.std.proofs.Common.{◌≡◌, ℕ, zero, suc, ◌+◌, ◌==◌, ◌&&◌, true, false, cond, nat_lt, not, is_some, List, [], ◌∷◌, length, map, get_or, All, Option}
use Rattle.std.proofs.Common.{Some, None, refl, ap, ◌∙◌, subst, inl, inr, eqb-true, arith}
use Rattle.std.specs.List.{list_any}
use Rattle.std.proofs.Math.ListN.{get_or-map}
use Rattle.std.proofs.lemmas.Bool.{or_cases, and_parts, false≢true}
use Rattle.std.proofs.lemmas.List.Elements.{All-nil, All-cons, All-head, All-tail, All-weaker, All-append, All-map, All-filter, filter_passes}
use Rattle.std.proofs.lemmas.List.Sums.{sum_by-cons}
use Rattle.machine_model.specs.Beneath.slot_arena.specs.Refs.{ref_to, slot_of}
use Rattle.machine_model.specs.Beneath.slot_arena.specs.declared.refs.Ref.{Ref}
use Rattle.machine_model.specs.Beneath.slot_arena.specs.declared.nodes.Slot.{Slot}
use Rattle.epochs.specs.declared.limbo.Zeroed.{Zeroed}
use Rattle.machine_model.specs.Beneath.slot_arena.specs.Heaps.{Heap, named_from, in_use}
use Rattle.machine_model.specs.Beneath.slot_arena.proofs.Live.{slot_of_ref}
use Rattle.machine_model.specs.Beneath.ctrie_base.proofs.Sorting.{sorted_all}
use Rattle.epochs.specs.Limbo.{is_zero, is_in, newly_zero, is_in_use, limbo_after}
use Rattle.machine_model.proofs.Rest.{used}

-- the reference names a slot of the list in use, where the first of them has the number n
abbrev NamesFrom : ℕ → List (Option Slot) → Ref → Type 0
NamesFrom n slots r = (k : ℕ) × (slot : Slot) × (get_or slots k None ≡ Some slot) × (r ≡ ref_to slot.birth (n + k))

-- the reference names a slot in use
abbrev pub InUse : Heap → Ref → Type 0
InUse heap r = NamesFrom 0 heap.slots r

-- the same with one more slot in front
names_later : (n : ℕ) (o : Option Slot) (slots : List (Option Slot)) (r : Ref) → NamesFrom (n + 1) slots r → NamesFrom n (o ∷ slots) r
names_later n o slots r (k, slot, at_k, is) = (suc k, slot, at_k, is ∙ ap (λ m. ref_to slot.birth m) (omega arith))

-- the references made from a list of slots name slots in use
named_in_use : (n : ℕ) (slots : List (Option Slot)) → All (NamesFrom n slots) (named_from n slots)
named_in_use n [] = All-nil (NamesFrom n [])
named_in_use n (None ∷ slots) =
    All-weaker (NamesFrom (n + 1) slots) (NamesFrom n (None ∷ slots)) (names_later n None slots) (named_from (n + 1) slots) (named_in_use (n + 1) slots)
named_in_use n (Some slot ∷ slots) =
    All-cons (NamesFrom n (Some slot ∷ slots)) (ref_to slot.birth n) (named_from (n + 1) slots)
    (zero, slot, refl, ap (λ m. ref_to slot.birth m) (omega arith))
    (All-weaker (NamesFrom (n + 1) slots) (NamesFrom n (Some slot ∷ slots)) (names_later n (Some slot) slots) (named_from (n + 1) slots) (named_in_use (n + 1) slots))

-- each of the references to slots in use names one
pub all_in_use : (heap : Heap) → All (InUse heap) (in_use heap)
all_in_use heap = named_in_use 0 heap.slots

-- there are as many of them as slots in use
pub length-named_from : (n : ℕ) (slots : List (Option Slot)) → length (named_from n slots) ≡ used (map is_some slots)
length-named_from n [] = refl
length-named_from n (None ∷ slots) = omega (arith, sum_by-cons (λ b. cond b 1 0) false (map is_some slots), length-named_from (n + 1) slots)
length-named_from n (Some slot ∷ slots) = omega (arith, sum_by-cons (λ b. cond b 1 0) true (map is_some slots), length-named_from (n + 1) slots)

-- what holds of each holds of one that is found
pub of_found : (P : Ref → Type 0) (r : Ref) (qs : List Ref) → All P qs → list_any (λ q. q == r) qs ≡ true → P r
of_found P r [] all found = absurd (false≢true found)
of_found P r (q ∷ qs) all found = elim (or_cases (q == r) (list_any (λ x. x == r) qs) found) [
  | inl here ↦ subst P (eqb-true q r here) (All-head P q qs all)
  | inr later ↦ of_found P r qs (All-tail P q qs all) later
]

-- the flag of its slot is set
pub flag_of_used : (heap : Heap) (r : Ref) → InUse heap r → get_or (map is_some heap.slots) (slot_of r) false ≡ true
flag_of_used heap r (k, slot, at_k, is) =
    let same : 0 + k ≡ k = omega arith in
    let its = ap (λ q. slot_of q) is ∙ slot_of_ref slot.birth (0 + k) ∙ same in
    ap (λ i. get_or (map is_some heap.slots) i false) its ∙ get_or-map is_some heap.slots k None ∙ ap is_some at_k

-- ---- limbo

-- those that became zero are in use
newly_zero_in_use : (heap : Heap) (outside : List Ref) (limbo : List Zeroed) → All (InUse heap) (newly_zero heap outside limbo)
newly_zero_in_use heap outside limbo =
    sorted_all (InUse heap) nat_lt _ (All-filter (λ r. is_zero heap outside r && not (is_in limbo r)) (InUse heap) (in_use heap) (all_in_use heap))

-- what stays in limbo is in use
kept_in_use : (heap : Heap) (outside : List Ref) (z : Zeroed) → (is_in_use heap z.at && is_zero heap outside z.at) ≡ true → InUse heap z.at
kept_in_use heap outside z e = of_found (InUse heap) z.at (in_use heap) (all_in_use heap) ((and_parts _ _ e).0)

-- each slot of limbo is in use after a step
pub limbo_in_use : (heap : Heap) (outside : List Ref) (epoch : ℕ) (limbo : List Zeroed) → All (λ z. InUse heap z.at) (limbo_after heap outside epoch limbo)
limbo_in_use heap outside epoch limbo =
    All-append (λ z. InUse heap z.at) _ _
    (All-weaker (λ z. (is_in_use heap z.at && is_zero heap outside z.at) ≡ true) (λ z. InUse heap z.at) (kept_in_use heap outside) _
    (filter_passes (λ z. is_in_use heap z.at && is_zero heap outside z.at) limbo))
    (All-map (λ z. InUse heap z.at) _ (newly_zero heap outside limbo) (newly_zero_in_use heap outside limbo))
