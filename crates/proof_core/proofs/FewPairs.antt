-- A map has no more pairs than there are slots.
use Rattle.std.proofs.Common.{◌≡◌, ℕ, zero, suc, ◌^◌, ◌<◌, ◌≤◌, ◌||◌, Bool, true, false, T, List, [], ◌∷◌, map, length, get_or, Option, None, is_some}
use Rattle.std.proofs.Common.{refl, sym, ap, subst, ◌∙◌, eq-eqb, eqb-true, arith}
use Rattle.std.specs.Cmp.{nat_cmp_total, eq_by_cmp_equiv, unsigned_tied}
use Rattle.std.specs.FinMap.Entries.{is_sorted}
use Rattle.std.specs.List.{All, flat_map}
use Rattle.std.specs.Ordering.{eq_by_cmp, nat_cmp}
use Rattle.std.proofs.lemmas.List.Elements.{All-nil, All-cons, All-head, All-tail, All-append}
use Rattle.std.proofs.lemmas.Map.Made.{length-le_from_is_member}
use Rattle.proof_core.specs.Vocabulary.{most_slots, slot_of, Node, Indirection, Branch, Single, Tomb, List as Listed, Slot, Ref, Heap, entries_of, logical_main, node_at, node_of, stored, content_at}
use Rattle.proof_core.specs.Vocabulary.{most_levels, pairs_at, pairs_below, comes_before, State, root_at, root_of, word_at, IsOfRun}
use Rattle.proof_core.specs.Beneath.ctrie_base.proofs.Sorting.{sorted_all}
use Rattle.proof_core.specs.Beneath.proof_contents.proofs.Values.Crowds.{is_among, sorted_distinct}
use Rattle.proof_core.proofs.Bounded.{bounded}
use Rattle.proof_core.proofs.Found.{content_rises}
use Rattle.proof_core.proofs.Firsts.{length_sorted}

-- ---- each key stands in a slot

abbrev key_of : Node → ℕ
key_of (Single key value) = key
key_of node = 0

abbrev keys_in : List (Option Slot) → List ℕ
keys_in slots = map (λ slot. key_of (node_of slot)) slots

single_among : (slots : List (Option Slot)) (i key value : ℕ) → node_of (get_or slots i None) ≡ Single key value → is_among (keys_in slots) key ≡ true
single_among [] i key value e = cc e
single_among (slot ∷ slots) zero key value e =
    ap (λ own. eq_by_cmp nat_cmp key own || is_among (keys_in slots) key) (ap key_of e) ∙ ap (λ b. b || is_among (keys_in slots) key) (unsigned_tied key key ∙ eq-eqb key key refl)
single_among (slot ∷ slots) (suc i) key value e = by_first (eq_by_cmp nat_cmp key (key_of (node_of slot))) (single_among slots i key value e)
  where
    by_first : (b : Bool) {c : Bool} → c ≡ true → (b || c) ≡ true
    by_first true h = refl
    by_first false h = h

module _ (heap : Heap) where
  abbrev InSlot : ℕ × ℕ → Type 0
  InSlot pair = is_among (keys_in heap.slots) pair.0 ≡ true

  each_among : (f : Ref → List (ℕ × ℕ)) → ((r : Ref) → All InSlot (f r)) → (es : List Ref) → All InSlot (flat_map f es)
  each_among f each [] = All-nil InSlot
  each_among f each (e ∷ es) = All-append InSlot (f e) (flat_map f es) (each e) (each_among f each es)

  at_among : (below : Ref → List (ℕ × ℕ)) (r : Ref) → ((q : Ref) → All InSlot (below q)) → (n : Node) → node_at heap r ≡ n → All InSlot (pairs_at below heap r n)
  unfolding node_at stored
  at_among below r each (Single key value) e = All-cons InSlot (key, value) [] (single_among heap.slots (slot_of r) key value e) (All-nil InSlot)
  at_among below r each (Indirection generation main) e = each_among below each (entries_of (node_at heap (logical_main heap r)))
  at_among below r each (Branch bitmap entries) e = All-nil InSlot
  at_among below r each (Tomb single) e = All-nil InSlot
  at_among below r each (Listed singles) e = All-nil InSlot

  below_among : (levels : ℕ) (r : Ref) → All InSlot (pairs_below levels heap r)
  unfolding pairs_below
  below_among zero r = All-nil InSlot
  below_among (suc levels) r = at_among (pairs_below levels heap) r (below_among levels) (node_at heap r) refl

  listed_among : (pairs : List (ℕ × ℕ)) → All InSlot pairs → (q : ℕ) → is_among (map (λ (p : ℕ × ℕ). p.0) pairs) q ≡ true → is_among (keys_in heap.slots) q ≡ true
  listed_among [] all q e = cc e
  listed_among (pair ∷ pairs) all q e =
      by_test (listed_among pairs (All-tail InSlot pair pairs all) q) (eq_by_cmp nat_cmp q pair.0) refl e
    where
      by_test : (is_among (map (λ (p : ℕ × ℕ). p.0) pairs) q ≡ true → is_among (keys_in heap.slots) q ≡ true) → (b : Bool) → eq_by_cmp nat_cmp q pair.0 ≡ b →
          (b || is_among (map (λ (p : ℕ × ℕ). p.0) pairs) q) ≡ true → is_among (keys_in heap.slots) q ≡ true
      by_test later true same h = subst (λ k. is_among (keys_in heap.slots) k ≡ true) (sym (eqb-true q pair.0 (sym (unsigned_tied q pair.0) ∙ same))) (All-head InSlot pair pairs all)
      by_test later false same h = later h

-- ---- no key stands twice

length_keys : (pairs : List (ℕ × ℕ)) → length (map (λ (p : ℕ × ℕ). p.0) pairs) ≡ length pairs
length_keys [] = refl
length_keys (pair ∷ pairs) = ap suc (length_keys pairs)

length_slots : (slots : List (Option Slot)) → length (keys_in slots) ≡ length slots
length_slots [] = refl
length_slots (slot ∷ slots) = ap suc (length_slots slots)

few_sorted : (heap : Heap) (pairs : List (ℕ × ℕ)) → T (is_sorted nat_cmp pairs) → All (InSlot heap) pairs → length pairs ≤ length heap.slots
few_sorted heap pairs sorted all =
    let few =
    length-le_from_is_member (eq_by_cmp_equiv nat_cmp_total) (map (λ (p : ℕ × ℕ). p.0) pairs) (keys_in heap.slots) (sorted_distinct pairs sorted) (listed_among heap pairs all) in
    omega (arith, few, length_keys pairs, length_slots heap.slots)

-- as many at most as there may be slots
pub few_in_content : (state : State) → IsOfRun state → (handle : ℕ) → is_some (root_at state handle) ≡ true → length (content_at state handle) ≤ most_slots
few_in_content state run handle some =
    let stand = sorted_all (InSlot state.heap) comes_before (pairs_below most_levels state.heap (root_of (word_at state handle)))
    (below_among state.heap most_levels (root_of (word_at state handle))) in
    let few = few_sorted state.heap (content_at state handle) (content_rises state run handle some) stand in
    let slots = (bounded state run).slots in
    omega (arith, few, slots)

pub few_pairs : (state : State) → IsOfRun state → (handle : ℕ) → is_some (root_at state handle) ≡ true →
    length (pairs_below most_levels state.heap (root_of (word_at state handle))) < 2 ^ 64
few_pairs state run handle some =
    let few = few_in_content state run handle some in
    let same = length_sorted comes_before (pairs_below most_levels state.heap (root_of (word_at state handle))) in
    omega (arith, few, same)
