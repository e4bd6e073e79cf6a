-- What a word of a slot in use refers to is changed.
use Rattle.std.proofs.Common.{◌≡◌, ℕ, ◌+◌, ◌<◌, ◌≤◌, ◌==◌, true, cond, List, length, get_or, set, slice_index, All, Option, Some, None, is_some, sym, ap, ◌∙◌, inl, inr, arith}
use Rattle.std.proofs.lemmas.Bool.{cases_eq}
use Rattle.std.proofs.lemmas.List.{length-set}
use Rattle.slot_arena.specs.Cells.{birth_of_slot}
use Rattle.slot_arena.specs.declared.refs.Ref.{Ref}
use Rattle.slot_arena.specs.declared.nodes.Slot.{Slot}
use Rattle.slot_arena.specs.Refs.{slot_of, birth_of, birth_limit}
use Rattle.slot_arena.specs.Heaps.{node_of, refs_of_node, refs_of_slot}
use Rattle.slot_arena.specs.Times.{times}
use Rattle.slot_arena.specs.Tallies.{naming}
use Rattle.slot_arena.specs.Chains.{Chain}
use Rattle.slot_arena.specs.Arenas.{has_birth}
use Rattle.slot_arena.specs.Kept.{live, found, IsKept}
use Rattle.slot_arena.proofs.Live.{unnamed}
use Rattle.slot_arena.proofs.Exact.{part_live}
use Rattle.slot_arena.proofs.Changed.{found_set, live_here, live_there, exact_same}
use Rattle.slot_arena.proofs.Written.{used_set, each_set, not_used}

module _
    (slots : List (Option Slot)) (counts counts' : List ℕ) (free : Chain) (used : ℕ) (outside plus minus : List Ref) (kept : IsKept slots counts free used outside)
    (k : ℕ) (slot slot' : Slot) (at : get_or slots k None ≡ Some slot) (birth : slot'.birth ≡ slot.birth) (within : k < length slots)
    (change : (r : ℕ) → times r (refs_of_slot (Some slot')) + times r minus ≡ times r (refs_of_slot (Some slot)) + times r plus)
    (sizes : length counts' ≡ length counts) (counted_so : (i : ℕ) → slice_index counts' i + naming i minus ≡ slice_index counts i + naming i plus)
    (gained : All (λ q. live slots q ≡ true) plus) (few : length (refs_of_node slot'.node) ≤ 32) (part : (q : Ref) → times q minus ≤ found slots outside q)
  where
    lost : All (λ q. live slots q ≡ true) minus
    lost = part_live slots counts outside kept.exact minus part

    moved : (r : ℕ) → found (set slots k (Some slot')) outside r + times r minus ≡ found slots outside r + times r plus
    moved r = omega (arith, found_set slots k (Some slot') outside outside r within, change r, ap (λ o. times r (refs_of_slot o)) at)

    live_same : (r : Ref) → live (set slots k (Some slot')) r ≡ live slots r
    live_same r = elim (cases_eq (slot_of r) k) [
      | inl same ↦ live_here slots k (Some slot') r within same ∙ ap (λ b. b == birth_of r) birth ∙ sym (ap (λ i. has_birth (birth_of r) (get_or slots i None)) same ∙ ap (has_birth (birth_of r)) at)
      | inr other ↦ live_there slots k (Some slot') r other
    ]

    pub swap_kept : IsKept (set slots k (Some slot')) counts' free used outside
    swap_kept = record {
      few = let is = kept.few in omega (arith, length-set slots k (Some slot'));
      sizes = let is = kept.sizes in omega (arith, length-set slots k (Some slot'));
      chained = let is = kept.chained in omega (arith, length-set slots k (Some slot'));
      exact = λ r. exact_same slots (set slots k (Some slot')) counts counts' outside outside plus minus kept.exact moved counted_so gained lost r (live_same r);
      unused = each_set (λ i o. o ≡ None → slice_index counts' i ≡ 0) slots k (Some slot') within (λ none. absurd (not_used slot' none))
          (λ i other none. omega (arith, counted_so i, kept.unused i none, unnamed slots i plus none gained));
      apart = each_set (λ i o. is_some o ≡ true → times i free.slots ≡ 0) slots k (Some slot') within (λ some. kept.apart k (ap is_some at)) (λ i other some. kept.apart i some);
      in_use = let was = ap (λ (o : Option Slot). cond {A = ℕ} (is_some o) 1 0) at in let is = kept.in_use in omega (arith, used_set slots k (Some slot') within);
      all = let is = kept.all in omega (arith, length-set slots k (Some slot'));
      narrow = each_set (λ i o. length (refs_of_node (node_of o)) ≤ 32) slots k (Some slot') within few (λ i other. kept.narrow i);
      born = each_set (λ i o. birth_of_slot o < birth_limit) slots k (Some slot') within (omega (arith, kept.born k, ap birth_of_slot at)) (λ i other. kept.born i);
      held = kept.held;
    }
