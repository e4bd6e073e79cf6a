-- A slot is made.
use Rattle.std.proofs.Common.{◌≡◌, ℕ, ◌+◌, ◌<◌, ◌≤◌, true, cond, List, [], ◌∷◌, length, get_or, set, slice_index, All, Option, Some, None, is_some, refl, sym, ap, ◌∙◌, inl, inr, arith}
use Rattle.std.proofs.lemmas.Bool.{cases_eq}
use Rattle.std.proofs.lemmas.List.{length-set}
use Rattle.std.proofs.lemmas.List.Elements.{All-nil}
use Rattle.slot_arena.specs.Cells.{birth_of_slot}
use Rattle.slot_arena.specs.declared.refs.Ref.{Ref}
use Rattle.slot_arena.specs.declared.nodes.Node.{Node}
use Rattle.slot_arena.specs.declared.nodes.Prev.TheVariants as prev
use Rattle.slot_arena.specs.declared.nodes.Slot.{Slot}
use Rattle.slot_arena.specs.Refs.{slot_of, birth_of, birth_limit}
use Rattle.slot_arena.specs.Heaps.{node_of, refs_of_node, refs_of_slot}
use Rattle.slot_arena.specs.Times.{times}
use Rattle.slot_arena.specs.Tallies.{naming}
use Rattle.slot_arena.specs.Chains.{Chain}
use Rattle.slot_arena.specs.Arenas.{has_birth}
use Rattle.slot_arena.specs.Kept.{live, found, counted, IsKept}
use Rattle.slot_arena.proofs.Times.{once_same, times-cons, times-append}
use Rattle.slot_arena.proofs.Live.{unnamed, live_ref, slot_of_ref}
use Rattle.slot_arena.proofs.Exact.{exact_live}
use Rattle.slot_arena.proofs.Namings.{naming-cons, raised_at}
use Rattle.slot_arena.proofs.Holds.{hold_kept, held_more}
use Rattle.slot_arena.proofs.Times.{once}
use Rattle.std.proofs.lemmas.List.{get_or-set_same}
use Rattle.slot_arena.specs.Refs.{ref_to}
use Rattle.std.proofs.lemmas.List.Elements.{All-cons}
use Rattle.slot_arena.proofs.Changed.{found_set, live_there, dead_stays, exact_same, counted_none}
use Rattle.slot_arena.proofs.Written.{used_set, each_set, not_used}

-- the first free slot isn't in use
pub first_unused : (slots : List (Option Slot)) (counts : List ℕ) (free : Chain) (used : ℕ) (outside : List Ref) → IsKept slots counts free used outside → (k : ℕ) (rest : List ℕ) →
    free.slots ≡ k ∷ rest → get_or slots k None ≡ None
first_unused slots counts free used outside kept k rest first = by_slot (get_or slots k None) refl
  where
    by_slot : (o : Option Slot) → get_or slots k None ≡ o → o ≡ None
    by_slot None none = refl
    by_slot (Some slot) some = absurd (omega (arith, kept.apart k (ap is_some some), ap (times k) first, times-cons k k rest, once_same k))

module _
    (slots : List (Option Slot)) (counts counts' : List ℕ) (free free' : Chain) (used : ℕ) (outside : List Ref) (kept : IsKept slots counts free used outside)
    (k birth : ℕ) (node : Node) (first : free.slots ≡ k ∷ free'.slots) (size : free'.size ≡ free.size) (below : k < free.size) (once_only : times k free'.slots ≡ 0)
    (sizes : length counts' ≡ length counts) (raised : (i : ℕ) → slice_index counts' i ≡ slice_index counts i + naming i (refs_of_node node))
    (all : All (λ q. live slots q ≡ true) (refs_of_node node)) (few : length (refs_of_node node) ≤ 32) (fits : birth < birth_limit)
  where
    abbrev made : Option Slot
    made = Some (record { birth = birth; node = node; prev = prev.None })

    within : k < length slots
    within = let is = kept.chained in omega arith

    empty : get_or slots k None ≡ None
    empty = first_unused slots counts free used outside kept k free'.slots first

    zero_there : slice_index counts' k ≡ 0
    zero_there = omega (arith, raised k, kept.unused k empty, unnamed slots k (refs_of_node node) empty all)

    refs_made : (r : Ref) → times r (refs_of_slot made) ≡ times r (refs_of_node node)
    refs_made r = omega (arith, times-append r (refs_of_node node) [])

    moved : (r : ℕ) → found (set slots k made) outside r + times r [] ≡ found slots outside r + times r (refs_of_node node)
    moved r = omega (arith, found_set slots k made outside outside r within, refs_made r, ap (λ o. times r (refs_of_slot o)) empty)

    exact : (r : ℕ) → found (set slots k made) outside r ≡ counted (set slots k made) counts' r
    exact r = elim (cases_eq (slot_of r) k) [
      | inl same ↦
          dead_stays slots (set slots k made) counts counts' outside outside (refs_of_node node) [] kept.exact moved (λ i. omega (arith, raised i)) all (All-nil (λ (q : Ref). live slots q ≡ true)) r
          (ap (λ i. has_birth (birth_of r) (get_or slots i None)) same ∙ ap (has_birth (birth_of r)) empty)
          ∙ sym (counted_none (set slots k made) counts' r (ap (slice_index counts') same ∙ zero_there))
      | inr other ↦
          exact_same slots (set slots k made) counts counts' outside outside (refs_of_node node) [] kept.exact moved (λ i. omega (arith, raised i)) all (All-nil (λ (q : Ref). live slots q ≡ true)) r
          (live_there slots k made r other)
    ]

    pub make_kept : IsKept (set slots k made) counts' free' (used + 1) outside
    make_kept = record {
      few = let is = kept.few in omega (arith, length-set slots k made);
      sizes = let is = kept.sizes in omega (arith, length-set slots k made);
      chained = let is = kept.chained in omega (arith, length-set slots k made);
      exact = exact;
      unused = each_set (λ i o. o ≡ None → slice_index counts' i ≡ 0) slots k made within (λ none. absurd (not_used _ none))
          (λ i other none. omega (arith, raised i, kept.unused i none, unnamed slots i (refs_of_node node) none all));
      apart = each_set (λ i o. is_some o ≡ true → times i free'.slots ≡ 0) slots k made within (λ some. once_only)
          (λ i other some. omega (arith, kept.apart i some, ap (times i) first, times-cons i k free'.slots));
      in_use = let was = ap (λ (o : Option Slot). cond {A = ℕ} (is_some o) 1 0) empty in let is = kept.in_use in omega (arith, used_set slots k made within);
      all = let is = kept.all in omega (arith, length-set slots k made, ap length first);
      narrow = each_set (λ i o. length (refs_of_node (node_of o)) ≤ 32) slots k made within few (λ i other. kept.narrow i);
      born = each_set (λ i o. birth_of_slot o < birth_limit) slots k made within fits (λ i other. kept.born i);
      held = kept.held;
    }

    -- and held, its count is one
    abbrev held : Ref
    held = ref_to birth k

    held_live : live (set slots k made) held ≡ true
    held_live = live_ref (set slots k made) k (record { birth = birth; node = node; prev = prev.None }) (get_or-set_same slots k made None within)

    unheld : times held outside ≡ 0
    unheld = omega (arith, exact_live (set slots k made) counts' outside make_kept.exact held held_live, ap (slice_index counts') (slot_of_ref birth k), zero_there)

    one_more : (i : ℕ) → slice_index (set counts' k 1) i + naming i [] ≡ slice_index counts' i + naming i (held ∷ [])
    one_more i =
        let is = kept.sizes in
        let below : k < length counts' = omega (arith, sizes, within) in
        omega (
          arith,
          raised_at counts' k i below,
          ap (λ n. slice_index (set counts' k (n + 1)) i) zero_there,
          naming-cons i held [],
          ap (once i) (slot_of_ref birth k),
        )

    pub make_held_kept : IsKept (set slots k made) (set counts' k 1) free' (used + 1) (held ∷ outside)
    make_held_kept =
        hold_kept (set slots k made) counts' (set counts' k 1) free' (used + 1) outside (held ∷ outside) (held ∷ []) [] make_kept
        (λ r. omega (arith, times-cons r held outside, times-cons r held [])) (length-set counts' k 1) one_more
        (All-cons (λ (q : Ref). live (set slots k made) q ≡ true) held [] held_live (All-nil (λ (q : Ref). live (set slots k made) q ≡ true)))
        (λ q. omega arith) (λ r. held_more outside held r make_kept.held (omega (arith, unheld)))
