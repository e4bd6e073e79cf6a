-- A slot is freed.
use Rattle.std.proofs.Common.{◌≡◌, ℕ, ◌+◌, ◌<◌, ◌≤◌, true, cond, List, [], ◌∷◌, length, get_or, set, slice_index, All, Option, Some, None, is_some, sym, ap, ◌∙◌, inl, inr, arith}
use Rattle.std.proofs.lemmas.Bool.{cases_eq, cases_Bool, false≢true}
use Rattle.std.proofs.lemmas.List.{length-set}
use Rattle.std.proofs.lemmas.List.Elements.{All-nil}
use Rattle.std.proofs.lemmas.List.Sums.{get_or-le-sum_by}
use Rattle.slot_arena.specs.Cells.{birth_of_slot}
use Rattle.slot_arena.specs.declared.refs.Ref.{Ref}
use Rattle.slot_arena.specs.declared.nodes.Slot.{Slot}
use Rattle.slot_arena.specs.Refs.{slot_of, birth_limit}
use Rattle.slot_arena.specs.Heaps.{node_of, refs_of_node, refs_of_slot}
use Rattle.slot_arena.specs.Times.{times}
use Rattle.slot_arena.specs.Tallies.{naming}
use Rattle.slot_arena.specs.Chains.{Chain}
use Rattle.slot_arena.specs.Kept.{live, found, counted, IsKept}
use Rattle.slot_arena.proofs.Times.{once_other, times-cons}
use Rattle.slot_arena.proofs.Live.{one_live, live_within}
use Rattle.slot_arena.proofs.Exact.{exact_live, exact_dead, part_live}
use Rattle.slot_arena.proofs.Changed.{found_set, live_there, exact_same, counted_none}
use Rattle.slot_arena.proofs.Written.{used_set, each_set}

-- some slot is counted as used where one is in use
pub some_used : (slots : List (Option Slot)) (counts : List ℕ) (free : Chain) (used : ℕ) (outside : List Ref) → IsKept slots counts free used outside → (k : ℕ) → k < length slots →
    is_some (get_or slots k None) ≡ true → 1 ≤ used
some_used slots counts free used outside kept k within some =
    let one = get_or-le-sum_by (λ (o : Option Slot). cond {A = ℕ} (is_some o) 1 0) slots k None within in
    let at = ap (λ b. cond {A = ℕ} b 1 0) some in
    let is = kept.in_use in
    omega arith

module _
    (slots : List (Option Slot)) (counts counts' : List ℕ) (free free' : Chain) (used used' : ℕ) (outside : List Ref) (kept : IsKept slots counts free used outside)
    (r : Ref) (slot : Slot) (at : get_or slots (slot_of r) None ≡ Some slot) (has : live slots r ≡ true) (unreferred : found slots outside r ≡ 0)
    (put : free'.slots ≡ slot_of r ∷ free.slots) (size : free'.size ≡ free.size) (one_less : used' + 1 ≡ used)
    (sizes : length counts' ≡ length counts) (lowered : (i : ℕ) → slice_index counts' i + naming i (refs_of_slot (Some slot)) ≡ slice_index counts i)
  where
    within : slot_of r < length slots
    within = live_within slots r has

    part : (q : Ref) → times q (refs_of_slot (Some slot)) ≤ found slots outside q
    part q = let one = get_or-le-sum_by (λ (o : Option Slot). times q (refs_of_slot o)) slots (slot_of r) None within in omega (arith, ap (λ o. times q (refs_of_slot o)) at)

    lost : All (λ q. live slots q ≡ true) (refs_of_slot (Some slot))
    lost = part_live slots counts outside kept.exact (refs_of_slot (Some slot)) part

    moved : (q : ℕ) → found (set slots (slot_of r) None) outside q + times q (refs_of_slot (Some slot)) ≡ found slots outside q + times q []
    moved q = omega (arith, found_set slots (slot_of r) None outside outside q within, ap (λ o. times q (refs_of_slot o)) at)

    zero_there : slice_index counts' (slot_of r) ≡ 0
    zero_there = omega (arith, lowered (slot_of r), exact_live slots counts outside kept.exact r has)

    -- a reference to the slot is found nowhere
    gone : (q : Ref) → slot_of q ≡ slot_of r → found (set slots (slot_of r) None) outside q ≡ 0
    gone q same = elim (cases_Bool (live slots q)) [
      | inl live_q ↦ omega (arith, moved q, ap (found slots outside) (one_live slots q r live_q has same))
      | inr dead ↦ omega (arith, moved q, exact_dead slots counts outside kept.exact q dead)
    ]

    exact : (q : ℕ) → found (set slots (slot_of r) None) outside q ≡ counted (set slots (slot_of r) None) counts' q
    exact q = elim (cases_eq (slot_of q) (slot_of r)) [
      | inl same ↦ gone q same ∙ sym (counted_none (set slots (slot_of r) None) counts' q (ap (slice_index counts') same ∙ zero_there))
      | inr other ↦
          exact_same slots (set slots (slot_of r) None) counts counts' outside outside [] (refs_of_slot (Some slot)) kept.exact moved (λ i. omega (arith, lowered i))
          (All-nil (λ (p : Ref). live slots p ≡ true)) lost q (live_there slots (slot_of r) None q other)
    ]

    pub free_kept : IsKept (set slots (slot_of r) None) counts' free' used' outside
    free_kept = record {
      few = let is = kept.few in omega (arith, length-set slots (slot_of r) None);
      sizes = let is = kept.sizes in omega (arith, length-set slots (slot_of r) None);
      chained = let is = kept.chained in omega (arith, length-set slots (slot_of r) None);
      exact = exact;
      unused = each_set (λ i o. o ≡ None → slice_index counts' i ≡ 0) slots (slot_of r) None within (λ none. zero_there)
          (λ i other none. omega (arith, lowered i, kept.unused i none));
      apart = each_set (λ i o. is_some o ≡ true → times i free'.slots ≡ 0) slots (slot_of r) None within (λ some. absurd (false≢true some))
          (λ i other some. omega (arith, kept.apart i some, ap (times i) put, times-cons i (slot_of r) free.slots, once_other i (slot_of r) other));
      in_use = let was = ap (λ (o : Option Slot). cond {A = ℕ} (is_some o) 1 0) at in let is = kept.in_use in omega (arith, used_set slots (slot_of r) None within);
      all = let is = kept.all in omega (arith, length-set slots (slot_of r) None, ap length put);
      narrow = each_set (λ i o. length (refs_of_node (node_of o)) ≤ 32) slots (slot_of r) None within (omega arith) (λ i other. kept.narrow i);
      born = each_set (λ i o. birth_of_slot o < birth_limit) slots (slot_of r) None within (omega arith) (λ i other. kept.born i);
      held = kept.held;
    }
