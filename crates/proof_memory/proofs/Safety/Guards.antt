-- What is safe for an operation: in use, and guarded, which is: wherever it stands in limbo, its count became zero in the operation's epoch or later.
use Rattle.std.proofs.Common.{◌≡◌, ℕ, zero, suc, ◌<◌, ◌≤◌, ◌==◌, ◌&&◌, Bool, true, false, cond, nat_lt, not, List, [], ◌∷◌, ◌++◌, filter, flat_map, count_by, All, Contains, get_or, Option}
use Rattle.std.proofs.Common.{Some, None, sym, ap, ◌∙◌, subst, eq-eqb, ne_eqb, arith}
use Rattle.std.proofs.lemmas.Bool.{and_parts, false≢true}
use Rattle.std.proofs.lemmas.Option.{none-some}
use Rattle.std.proofs.lemmas.List.Elements.{All-append, All-filter, All-map, All-weaker, filter_passes, Contains-append_left, Contains-append_right}
use Rattle.std.proofs.lemmas.List.Sums.{get_or-le-sum_by}
use Rattle.proof_memory.specs.Vocabulary.{Ref, Slot, Zeroed, Heap, heap_refs, refs_of_slot, stored, in_use, count_of, is_zero, is_in, is_in_use, newly_zero, limbo_after, Operation, Root, State}
use Rattle.proof_memory.specs.Vocabulary.{root_at, outside, refs_of_root, refs_of_operation, standing}
use Rattle.machine_model.proofs.Rest.{one_if}
use Rattle.proof_memory.specs.Beneath.ctrie_base.proofs.Sorting.{sorted_all}
use Rattle.proof_memory.specs.Laws.{IsInUse}
use Rattle.machine_model.proofs.Grown.{standing_parts}

abbrev pub Guarded : List Zeroed → ℕ → Ref → Type 0
Guarded limbo epoch r = All (λ z. z.at ≡ r → epoch ≤ z.epoch) limbo

pub record Safe (state : State) (epoch : ℕ) (r : Ref) : Type 0 where
  pub used : IsInUse state.heap r
  pub guarded : Guarded state.limbo epoch r

-- each slot of limbo has count zero
abbrev pub AllZero : State → Type 0
AllZero state = All (λ z. is_zero state.heap (outside state) z.at ≡ true) state.limbo

-- ---- limbo after a step

-- what is guarded stays so
pub guarded_after : (heap : Heap) (outside : List Ref) (now epoch : ℕ) (limbo : List Zeroed) (r : Ref) → epoch ≤ now → Guarded limbo epoch r →
    Guarded (limbo_after heap outside now limbo) epoch r
guarded_after heap outside now epoch limbo r le g =
    All-append (λ z. z.at ≡ r → epoch ≤ z.epoch) _ _ (All-filter (λ z. is_in_use heap z.at && is_zero heap outside z.at) (λ z. z.at ≡ r → epoch ≤ z.epoch) limbo g)
    (All-map (λ z. z.at ≡ r → epoch ≤ z.epoch) (λ r. record { at = r; epoch = now }) (newly_zero heap outside limbo) (λ k d within same. le))

zero_of_both : (heap : Heap) (outside : List Ref) (z : Zeroed) → (is_in_use heap z.at && is_zero heap outside z.at) ≡ true → is_zero heap outside z.at ≡ true
zero_of_both heap outside z e = (and_parts _ _ e).1

zero_of_new : (heap : Heap) (outside : List Ref) (limbo : List Zeroed) (r : Ref) → (is_zero heap outside r && not (is_in limbo r)) ≡ true → is_zero heap outside r ≡ true
zero_of_new heap outside limbo r e = (and_parts _ _ e).0

-- those whose count has become zero
new_zeros : (heap : Heap) (outside : List Ref) (limbo : List Zeroed) → All (λ r. is_zero heap outside r ≡ true) (newly_zero heap outside limbo)
new_zeros heap outside limbo =
    let found = filter (λ r. is_zero heap outside r && not (is_in limbo r)) (in_use heap) in
    sorted_all (λ r. is_zero heap outside r ≡ true) nat_lt found
    (All-weaker (λ r. (is_zero heap outside r && not (is_in limbo r)) ≡ true) (λ r. is_zero heap outside r ≡ true) (zero_of_new heap outside limbo) found
    (filter_passes (λ r. is_zero heap outside r && not (is_in limbo r)) (in_use heap)))

-- all of it has count zero
pub zero_after : (heap : Heap) (outside : List Ref) (now : ℕ) (limbo : List Zeroed) → All (λ z. is_zero heap outside z.at ≡ true) (limbo_after heap outside now limbo)
zero_after heap outside now limbo =
    All-append (λ z. is_zero heap outside z.at ≡ true) _ _
    (All-weaker (λ z. (is_in_use heap z.at && is_zero heap outside z.at) ≡ true) (λ z. is_zero heap outside z.at ≡ true) (zero_of_both heap outside) _ (filter_passes _ limbo))
    (All-map (λ z. is_zero heap outside z.at ≡ true) _ (newly_zero heap outside limbo) (new_zeros heap outside limbo))

-- ---- what is counted

one_where : (b : Bool) → b ≡ true → one_if b ≡ 1
one_where b e = ap one_if e

-- what stands in a list is counted
counted_in : (xs : List Ref) (r : Ref) → Contains xs r → 0 < count_by (λ q. q == r) xs
counted_in xs r (k, within, at_k) =
    omega (arith, get_or-le-sum_by (λ q. cond (q == r) 1 0) xs k r within, one_where (get_or xs k r == r) (eq-eqb (get_or xs k r) r at_k))

not_nothing : (n : ℕ) → 0 < n → (n == 0) ≡ false
not_nothing n h = ne_eqb n 0 (λ e. omega arith)

pub counted : (heap : Heap) (outside : List Ref) (r : Ref) → Contains (heap_refs heap ++ outside) r → is_zero heap outside r ≡ false
unfolding count_of
counted heap outside r c = not_nothing _ (counted_in (heap_refs heap ++ outside) r c)

-- what is counted isn't in limbo, so it is guarded for all
pub guarded_if_counted : (state : State) → AllZero state → (epoch : ℕ) (r : Ref) → Contains (heap_refs state.heap ++ outside state) r → Guarded state.limbo epoch r
guarded_if_counted state all_zero epoch r c k d within same =
    absurd (false≢true (sym (counted state.heap (outside state) r c) ∙ sym (ap (λ q. is_zero state.heap (outside state) q) same) ∙ all_zero k d within))

-- what stands in what is found in a list stands in all
pub in_flat_map : {X : Type 0} (f : Option X → List Ref) (xs : List (Option X)) (k : ℕ) (x : X) (r : Ref) → get_or xs k None ≡ Some x → Contains (f (Some x)) r → Contains (flat_map f xs) r
in_flat_map f [] k x r e c = absurd (none-some x e)
in_flat_map f (o ∷ xs) zero x r e c = Contains-append_left (f o) (flat_map f xs) r (subst (λ y. Contains (f y) r) (sym e) c)
in_flat_map f (o ∷ xs) (suc k) x r e c = Contains-append_right (f o) (flat_map f xs) r (in_flat_map f xs k x r e c)

module _ (state : State) where
  -- in a slot in use
  pub counted_in_slot : (q r : Ref) (slot : Slot) → standing state.heap q ≡ Some slot → Contains (refs_of_slot (Some slot)) r → Contains (heap_refs state.heap ++ outside state) r
  unfolding stored
  counted_in_slot q r slot e c =
      Contains-append_left (heap_refs state.heap) (outside state) r (in_flat_map refs_of_slot state.heap.slots _ slot r ((standing_parts state.heap q slot e).0) c)

  -- in a root word
  pub counted_in_root : (handle : ℕ) (r : Ref) (root : Root) → root_at state handle ≡ Some root → Contains (refs_of_root (Some root)) r → Contains (heap_refs state.heap ++ outside state) r
  counted_in_root handle r root e c =
      Contains-append_right (heap_refs state.heap) (outside state) r
      (Contains-append_left (flat_map refs_of_root state.roots) (flat_map refs_of_operation state.actors) r (in_flat_map refs_of_root state.roots handle root r e c))

  -- in a private list
  pub counted_in_private : (k : ℕ) (r : Ref) (operation : Operation) → get_or state.actors k None ≡ Some operation → Contains operation.private r → Contains (heap_refs state.heap ++ outside state) r
  counted_in_private k r operation e c =
      Contains-append_right (heap_refs state.heap) (outside state) r
      (Contains-append_right (flat_map refs_of_root state.roots) (flat_map refs_of_operation state.actors) r (in_flat_map refs_of_operation state.actors k operation r e c))
