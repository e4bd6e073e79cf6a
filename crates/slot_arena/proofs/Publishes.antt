-- The main word of an indirection is changed to a main node, which becomes pending over the one before.
use Rattle.std.proofs.Common.{◌≡◌, ℕ, ◌+◌, ◌-◌, ◌<◌, true, List, [], ◌∷◌, length, get_or, set, slice_index, Option, Some, None, refl, sym, ap, ◌∙◌, inl, inr, arith}
use Rattle.std.specs.Prelude.{option_map}
use Rattle.std.proofs.lemmas.Bool.{cases_eq}
use Rattle.std.proofs.lemmas.List.{get_or-set_same, get_or-set_other, length-set}
use Rattle.std.proofs.lemmas.List.Elements.{All-nil, All-cons, All-head}
use Rattle.slot_arena.specs.declared.refs.Ref.{Ref}
use Rattle.slot_arena.specs.declared.nodes.Prev.TheVariants as prev
use Rattle.slot_arena.specs.declared.nodes.Slot.{Slot}
use Rattle.slot_arena.specs.Refs.{slot_of}
use Rattle.slot_arena.specs.Heaps.{node_of, prev_of, main_of, main_changed, prev_changed, refs_of_prev}
use Rattle.slot_arena.specs.Tallies.{naming}
use Rattle.slot_arena.specs.Chains.{Chain}
use Rattle.slot_arena.specs.Arenas.{is_indirection}
use Rattle.slot_arena.specs.Kept.{live, IsKept}
use Rattle.slot_arena.proofs.Times.{once, once_same}
use Rattle.slot_arena.proofs.Namings.{naming-cons, raised_at, lowered_at}
use Rattle.slot_arena.proofs.Live.{live_within}
use Rattle.slot_arena.proofs.Exact.{part_live, part_counted}
use Rattle.slot_arena.proofs.Words.{IsChange, changed_by, main_is_change, prev_is_change, word_part, word_kept, live_word}

-- the counts with one slot counted once more, and another once less
abbrev up : List ℕ → ℕ → List ℕ
up counts s = set counts s (slice_index counts s + 1)

abbrev moved : List ℕ → ℕ → ℕ → List ℕ
moved counts s t = set (up counts s) t (slice_index (up counts s) t - 1)

moved_at : (counts : List ℕ) (s t i : ℕ) → s < length counts → t < length counts → 0 < slice_index counts t →
    slice_index (moved counts s t) i + once i t ≡ slice_index counts i + once i s
moved_at counts s t i within below some =
    let there : 0 < slice_index (up counts s) t = omega (arith, raised_at counts s t within) in
    let size : t < length (up counts s) = omega (arith, length-set counts s (slice_index counts s + 1)) in
    omega (arith, raised_at counts s i within, lowered_at (up counts s) t i size there)

-- what stands in a slot keeps its prev word where a main word is changed
pub prev_stays : (slots : List (Option Slot)) (k i : ℕ) (m : Ref) → k < length slots →
    prev_of (get_or (set slots k (option_map (main_changed m) (get_or slots k None))) i None) ≡ prev_of (get_or slots i None)
prev_stays slots k i m within = elim (cases_eq i k) [
  | inl same ↦
      ap (λ j. prev_of (get_or (set slots k (option_map (main_changed m) (get_or slots k None))) j None)) same
      ∙ ap prev_of (get_or-set_same slots k (option_map (main_changed m) (get_or slots k None)) None within) ∙ kept_prev (get_or slots k None)
      ∙ sym (ap (λ j. prev_of (get_or slots j None)) same)
  | inr other ↦ ap prev_of (get_or-set_other slots k i (option_map (main_changed m) (get_or slots k None)) None other)
]
  where
    kept_prev : (o : Option Slot) → prev_of (option_map (main_changed m) o) ≡ prev_of o
    kept_prev None = refl
    kept_prev (Some slot) = refl

module _
    (slots : List (Option Slot)) (counts counts' : List ℕ) (free : Chain) (used : ℕ) (outside : List Ref) (kept : IsKept slots counts free used outside)
    (r to from : Ref) (has : live slots r ≡ true) (kind : is_indirection (node_of (get_or slots (slot_of r) None)) ≡ true)
    (is : main_of (node_of (get_or slots (slot_of r) None)) ≡ from) (to_live : live slots to ≡ true) (sizes : length counts' ≡ length counts)
    (counted_so : (i : ℕ) → slice_index counts' i + naming i (refs_of_prev (prev_of (get_or slots (slot_of to) None))) ≡ slice_index counts i + naming i (to ∷ []))
  where
    change : IsChange slots r (main_changed to) (from ∷ []) (to ∷ [])
    change = main_is_change slots r to from kind is

    abbrev first : List (Option Slot)
    first = changed_by (main_changed to) slots r

    abbrev between : List ℕ
    between = moved counts (slot_of to) (slot_of from)

    from_live : live slots from ≡ true
    from_live =
        All-head (λ (q : Ref). live slots q ≡ true) from []
        (part_live slots counts outside kept.exact (from ∷ []) (word_part _ _ _ _ _ kept r has _ _ _ change))

    some : 0 < slice_index counts (slot_of from)
    some =
        omega (
          arith,
          part_counted slots counts outside kept.exact (from ∷ []) (word_part _ _ _ _ _ kept r has _ _ _ change) (slot_of from),
          naming-cons (slot_of from) from [],
          once_here,
        )
      where
        once_here : once (slot_of from) (slot_of from) ≡ 1
        once_here = once_same (slot_of from)

    at_between : (i : ℕ) → slice_index between i + naming i (from ∷ []) ≡ slice_index counts i + naming i (to ∷ [])
    at_between i =
        let size = kept.sizes in
        omega (
          arith,
          moved_at counts (slot_of to) (slot_of from) i (omega (arith, live_within slots to to_live)) (omega (arith, live_within slots from from_live)) some,
          naming-cons i from [],
          naming-cons i to [],
        )

    sizes_between : length between ≡ length counts
    sizes_between =
        length-set (up counts (slot_of to)) (slot_of from) (slice_index (up counts (slot_of to)) (slot_of from) - 1)
        ∙ length-set counts (slot_of to) (slice_index counts (slot_of to) + 1)

    kept_between : IsKept first between free used outside
    kept_between = word_kept _ _ _ _ _ kept r has _ _ _ change between sizes_between at_between (All-cons (λ (q : Ref). live slots q ≡ true) to [] to_live (All-nil (λ (q : Ref). live slots q ≡ true)))

    stays : (q : Ref) → live slots q ≡ true → live first q ≡ true
    stays q there = live_word slots r _ _ _ change (live_within slots r has) q ∙ there

    pub publish_kept : IsKept (changed_by (prev_changed (prev.Pending from)) first to) counts' free used outside
    publish_kept =
        word_kept first between free used outside kept_between to (stays to to_live) _ _ _
        (prev_is_change first to (prev.Pending from) (prev_of (get_or slots (slot_of to) None)) (prev_stays slots (slot_of r) (slot_of to) to (live_within slots r has)))
        counts' (sizes ∙ sym sizes_between) (λ i. omega (arith, counted_so i, at_between i))
        (All-cons (λ (q : Ref). live first q ≡ true) from [] (stays from from_live) (All-nil (λ (q : Ref). live first q ≡ true)))
