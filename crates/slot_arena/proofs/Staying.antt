-- What stays of a branch's entries where one of them changes.
use Rattle.std.proofs.Common.{◌≡◌, ℕ, suc, ◌+◌, ◌≤◌, true, List, [], ◌∷◌, ◌++◌, length, length-append, take, drop, get_or, slice_index, All, Option, None, sym, ap, ◌∙◌, subst, arith}
use Rattle.std.proofs.lemmas.List.{length-set}
use Rattle.std.proofs.lemmas.List.Edits.{length-insert, length-remove}
use Rattle.std.proofs.lemmas.List.Elements.{All-append, All-drop, All-head, All-set, All-take}
use Rattle.slot_arena.specs.declared.refs.Ref.{Ref}
use Rattle.slot_arena.specs.declared.entries.EntryChange.{EntryChange}
use Rattle.slot_arena.specs.declared.entries.EntryChange.TheVariants.{Set, Insert, Remove}
use Rattle.slot_arena.specs.declared.nodes.Slot.{Slot}
use Rattle.slot_arena.specs.Refs.{slot_of}
use Rattle.slot_arena.specs.Arenas.{AreLive, Contents}
use Rattle.slot_arena.specs.Heaps.{node_at, node_of, refs_of_node, refs_of_prev}
use Rattle.slot_arena.specs.Times.{times}
use Rattle.slot_arena.specs.Tallies.{naming}
use Rattle.slot_arena.specs.Chains.{Chain}
use Rattle.slot_arena.specs.Kept.{live, found, IsKept}
use Rattle.slot_arena.specs.Entries.{Fits, coming, entries_after}
use Rattle.slot_arena.proofs.Times.{times-append}
use Rattle.slot_arena.proofs.Exact.{part_live, part_counted}
use Rattle.slot_arena.proofs.Reading.{all_seen, node_seen, slot_seen}
use Rattle.slot_arena.proofs.Words.{slot_part}

module _ (P : Ref → Type 0) where
  -- what stands there after it, stood there or comes
  all_after : (change : EntryChange) (es : List Ref) → All P es → All P (coming change) → All P (entries_after change es)
  all_after (Set position entry) es all come = All-set P es position entry (All-head P entry [] come) all
  all_after (Insert position entry) es all come =
      All-append P (take position es) (entry ∷ drop position es) (All-take P position es all) (All-append P (entry ∷ []) (drop position es) come (All-drop P position es all))
  all_after (Remove position) es all come = All-append P (take position es) (drop (suc position) es) (All-take P position es all) (All-drop P (suc position) es all)

-- there is room for what stands there after it
pub few_after : (change : EntryChange) (es : List Ref) → Fits change es → length es ≤ 32 → length (entries_after change es) ≤ 32
few_after (Set position entry) es within few = omega (arith, length-set es position entry)
few_after (Insert position entry) es (within, room) few = omega (arith, length-insert es position entry within)
few_after (Remove position) es within few = omega (arith, length-remove es position within)

pub few_parts : (change : EntryChange) (es front back : List Ref) → Fits change es → front ++ coming change ++ back ≡ entries_after change es → length es ≤ 32 →
    length front + length (coming change) + length back ≤ 32
few_parts change es front back fits all few =
    omega (arith, few_after change es fits few, ap length all, length-append (front ++ coming change) back, length-append front (coming change))

-- the change fits the references that are lent
pub fits_lent : (was now : Contents) → was ≡ now → (r : Ref) (change : EntryChange) (es : List Ref) → es ≡ refs_of_node (node_of (get_or was.heap.slots (slot_of r) None)) →
    Fits change (refs_of_node (node_at now.heap r)) → Fits change es
fits_lent was now same r change es is fits =
    subst (Fits change) (sym (is ∙ ap (λ (a : Contents). refs_of_node (node_of (get_or a.heap.slots (slot_of r) None))) same ∙ ap refs_of_node (node_seen now.heap r))) fits

module _
    (slots : List (Option Slot)) (counts : List ℕ) (free : Chain) (used : ℕ) (outside : List Ref) (kept : IsKept slots counts free used outside) (r : Ref) (has : live slots r ≡ true)
    (es : List Ref) (stand : es ≡ refs_of_node (slot_seen slots r has).0.node)
  where
    abbrev slot : Slot
    slot = (slot_seen slots r has).0

    part : (q : Ref) → times q es ≤ found slots outside q
    part q = omega (arith, slot_part slots counts free used outside kept r has q, times-append q (refs_of_node slot.node) (refs_of_prev slot.prev), ap (times q) stand)

    -- what the node refers to is in use
    pub refs_live : All (λ q. live slots q ≡ true) es
    refs_live = part_live slots counts outside kept.exact es part

    -- and counted
    pub refs_counted : (k : ℕ) → naming k es ≤ slice_index counts k
    refs_counted k = part_counted slots counts outside kept.exact es part k

    -- and what the changed branch refers to, where what comes is
    after_live : (change : EntryChange) → All (λ q. live slots q ≡ true) (coming change) → All (λ q. live slots q ≡ true) (entries_after change es)
    after_live change come = all_after (λ q. live slots q ≡ true) change es refs_live come

-- and so is what the changed copy of a node refers to
pub changed_live : (was now : Contents) → was ≡ now → (counts : List ℕ) (free : Chain) (used : ℕ) → IsKept was.heap.slots counts free used was.outside → (r : Ref) → live was.heap.slots r ≡ true →
    (es : List Ref) → es ≡ refs_of_node (node_of (get_or was.heap.slots (slot_of r) None)) → (change : EntryChange) → AreLive now.heap (coming change) →
    All (λ q. live was.heap.slots q ≡ true) (entries_after change es)
changed_live was now same counts free used kept r has es stand change come =
    after_live was.heap.slots counts free used was.outside kept r has es (stand ∙ ap (λ o. refs_of_node (node_of o)) (slot_seen was.heap.slots r has).1) change
    (subst (λ s. All (λ q. live s q ≡ true) (coming change)) (sym (ap (λ (a : Contents). a.heap.slots) same)) (all_seen now.heap (coming change) come))
