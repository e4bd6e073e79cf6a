-- A word of a slot in use is changed: its main word, or its prev word.
use Rattle.std.proofs.Common.{◌≡◌, ℕ, ◌+◌, ◌<◌, ◌≤◌, ◌==◌, true, List, [], ◌∷◌, ◌++◌, length, get_or, set, slice_index, All, Option, Some, None, refl, sym, ap, ◌∙◌, subst, inl, inr, arith}
use Rattle.std.proofs.lemmas.Bool.{cases_eq, false≢true}
use Rattle.std.proofs.lemmas.List.{get_or-set_same}
use Rattle.std.proofs.lemmas.List.Sums.{get_or-le-sum_by}
use Rattle.slot_arena.specs.declared.refs.Ref.{Ref}
use Rattle.slot_arena.specs.declared.nodes.Node.{Node}
use Rattle.slot_arena.specs.declared.nodes.Prev.{Prev}
use Rattle.slot_arena.specs.declared.nodes.Slot.{Slot}
use Rattle.slot_arena.specs.Refs.{slot_of, birth_of}
use Rattle.slot_arena.specs.Heaps.{Heap, node_of, entries_of, node_at, prev_of, prev_at, main_of, main_at, with_main_word, main_changed, prev_changed, refs_of_node, refs_of_prev, refs_of_slot}
use Rattle.slot_arena.specs.Times.{times}
use Rattle.slot_arena.specs.Tallies.{Tally, naming, NotesZeros}
use Rattle.slot_arena.specs.Chains.{Chain}
use Rattle.slot_arena.specs.Arenas.{Contents, NotesWaiting, has_birth, is_live, is_indirection}
use Rattle.slot_arena.specs.Kept.{live, found, IsKept}
use Rattle.slot_arena.specs.declared.word_swaps.WordSwap.{WordSwap}
use Rattle.slot_arena.specs.declared.word_swaps.WordSwap.TheVariants as word
use Rattle.slot_arena.specs.WordSwaps.{coming, going, StandsIn, word_changed, with_word}
use Rattle.slot_arena.proofs.Times.{once, times-cons, times-append}
use Rattle.slot_arena.proofs.Live.{live_within, all_within}
use Rattle.slot_arena.proofs.Exact.{part_live, part_counted}
use Rattle.slot_arena.proofs.Changed.{live_here, live_there, one_prev}
use Rattle.std.specs.Prelude.{option_map}
use Rattle.slot_arena.specs.declared.nodes.Node.TheVariants.{Indirection, Branch, Single, Tomb, List as Listed}
use Rattle.slot_arena.proofs.Marks.{zeros_trans}
use Rattle.slot_arena.proofs.Swaps.{swap_kept}
use Rattle.slot_arena.proofs.Reading.{slot_seen, node_seen, prev_seen, live_is, main_seen, prev_put_seen}
use Rattle.slot_arena.proofs.Waiting.{born, notes_waiting}
use Rattle.slot_arena.proofs.Written.{born_set}

-- what stands in a slot is found
pub part_slot : (slots : List (Option Slot)) (outside : List Ref) (k : ℕ) (o : Option Slot) (q : Ref) (n : ℕ) → get_or slots k None ≡ o → k < length slots → n ≤ times q (refs_of_slot o)
    → n ≤ found slots outside q
part_slot slots outside k o q n at within some =
    let one = get_or-le-sum_by (λ (s : Option Slot). times q (refs_of_slot s)) slots k None within in omega (arith, ap (λ s. times q (refs_of_slot s)) at)

main_change : (node : Node) (ps : List Ref) (to from q : Ref) → is_indirection node ≡ true → main_of node ≡ from →
    times q (refs_of_node (with_main_word to node) ++ ps) + times q (from ∷ []) ≡ times q (refs_of_node node ++ ps) + times q (to ∷ [])
main_change (Indirection generation main) ps to from q kind is =
    omega (arith, times-cons q to ps, times-cons q main ps, times-cons q from [], times-cons q to [], ap (once q) is)
main_change (Branch bitmap entries) ps to from q kind is = absurd (false≢true kind)
main_change (Single key value) ps to from q kind is = absurd (false≢true kind)
main_change (Tomb single) ps to from q kind is = absurd (false≢true kind)
main_change (Listed singles) ps to from q kind is = absurd (false≢true kind)

main_few : (node : Node) (to : Ref) → length (refs_of_node (with_main_word to node)) ≡ length (refs_of_node node)
main_few (Indirection generation main) to = refl
main_few (Branch bitmap entries) to = refl
main_few (Single key value) to = refl
main_few (Tomb single) to = refl
main_few (Listed singles) to = refl

main_entries : (node : Node) (to : Ref) → entries_of (with_main_word to node) ≡ entries_of node
main_entries (Indirection generation main) to = refl
main_entries (Branch bitmap entries) to = refl
main_entries (Single key value) to = refl
main_entries (Tomb single) to = refl
main_entries (Listed singles) to = refl

main_there : (node : Node) (ps : List Ref) (from q : Ref) → is_indirection node ≡ true → main_of node ≡ from → times q (from ∷ []) ≤ times q (refs_of_node node ++ ps)
main_there (Indirection generation main) ps from q kind is = omega (arith, times-cons q main ps, times-cons q from [], ap (once q) is)
main_there (Branch bitmap entries) ps from q kind is = absurd (false≢true kind)
main_there (Single key value) ps from q kind is = absurd (false≢true kind)
main_there (Tomb single) ps from q kind is = absurd (false≢true kind)
main_there (Listed singles) ps from q kind is = absurd (false≢true kind)

-- what a change of the slot that r names does: its birth, the entries and the size of its node stay, the references of minus go, and those of plus come
pub record IsChange (slots : List (Option Slot)) (r : Ref) (change : Slot → Slot) (minus plus : List Ref) : Type 0 where
  pub births : (slot : Slot) → (change slot).birth ≡ slot.birth
  pub entries : (slot : Slot) → entries_of (change slot).node ≡ entries_of slot.node
  pub sizes : (slot : Slot) → length (refs_of_node (change slot).node) ≡ length (refs_of_node slot.node)
  pub moves : (slot : Slot) → get_or slots (slot_of r) None ≡ Some slot → (q : Ref) →
      times q (refs_of_slot (Some (change slot))) + times q minus ≡ times q (refs_of_slot (Some slot)) + times q plus
  pub there : (slot : Slot) → get_or slots (slot_of r) None ≡ Some slot → (q : Ref) → times q minus ≤ times q (refs_of_slot (Some slot))

pub main_is_change : (slots : List (Option Slot)) (r to from : Ref) → is_indirection (node_of (get_or slots (slot_of r) None)) ≡ true →
    main_of (node_of (get_or slots (slot_of r) None)) ≡ from → IsChange slots r (main_changed to) (from ∷ []) (to ∷ [])
main_is_change slots r to from kind is = record {
  births = λ slot. refl;
  entries = λ slot. main_entries slot.node to;
  sizes = λ slot. main_few slot.node to;
  moves = λ slot at q. main_change slot.node (refs_of_prev slot.prev) to from q (sym (ap (λ o. is_indirection (node_of o)) at) ∙ kind) (sym (ap (λ o. main_of (node_of o)) at) ∙ is);
  there = λ slot at q. main_there slot.node (refs_of_prev slot.prev) from q (sym (ap (λ o. is_indirection (node_of o)) at) ∙ kind) (sym (ap (λ o. main_of (node_of o)) at) ∙ is);
}

pub prev_is_change : (slots : List (Option Slot)) (r : Ref) (to from : Prev) → prev_of (get_or slots (slot_of r) None) ≡ from →
    IsChange slots r (prev_changed to) (refs_of_prev from) (refs_of_prev to)
prev_is_change slots r to from is = record {
  births = λ slot. refl;
  entries = λ slot. refl;
  sizes = λ slot. refl;
  moves = λ slot at q. omega (
    arith,
    times-append q (refs_of_node slot.node) (refs_of_prev to),
    times-append q (refs_of_node slot.node) (refs_of_prev slot.prev),
    ap (λ p. times q (refs_of_prev p)) (sym (ap prev_of at) ∙ is),
  );
  there = λ slot at q. omega (arith, times-append q (refs_of_node slot.node) (refs_of_prev slot.prev), ap (λ p. times q (refs_of_prev p)) (sym (ap prev_of at) ∙ is));
}

-- the slots after the change
abbrev pub changed_by : (Slot → Slot) → List (Option Slot) → Ref → List (Option Slot)
changed_by change slots r = set slots (slot_of r) (option_map change (get_or slots (slot_of r) None))

module _
    (slots : List (Option Slot)) (counts : List ℕ) (free : Chain) (used : ℕ) (outside : List Ref) (kept : IsKept slots counts free used outside)
    (r : Ref) (has : live slots r ≡ true)
  where
    pub prev_part : (q : Ref) → times q (refs_of_prev (prev_of (get_or slots (slot_of r) None))) ≤ found slots outside q
    prev_part q =
        let seen = slot_seen slots r has in
        part_slot slots outside (slot_of r) (Some seen.0) q (times q (refs_of_prev (prev_of (get_or slots (slot_of r) None)))) seen.1 (live_within slots r has)
        (omega (arith, times-append q (refs_of_node seen.0.node) (refs_of_prev seen.0.prev), ap (λ o. times q (refs_of_prev (prev_of o))) seen.1))

    pub slot_part : (q : Ref) → times q (refs_of_slot (Some (slot_seen slots r has).0)) ≤ found slots outside q
    slot_part q =
        let seen = slot_seen slots r has in
        part_slot slots outside (slot_of r) (Some seen.0) q (times q (refs_of_slot (Some seen.0))) seen.1 (live_within slots r has) (omega arith)

    module _ (change : Slot → Slot) (minus plus : List Ref) (is : IsChange slots r change minus plus) where
      -- what goes is found
      pub word_part : (q : Ref) → times q minus ≤ found slots outside q
      word_part q =
          let seen = slot_seen slots r has in
          part_slot slots outside (slot_of r) (Some seen.0) q (times q minus) seen.1 (live_within slots r has) (is.there seen.0 seen.1 q)

      pub word_within : (n : ℕ) → n ≡ length slots → All (λ q. slot_of q < n) minus
      word_within n size = all_within slots n minus (sym size) (part_live slots counts outside kept.exact minus word_part)

      pub word_counted : (i : ℕ) → naming i minus ≤ slice_index counts i
      word_counted = part_counted slots counts outside kept.exact minus word_part

      pub word_kept : (counts' : List ℕ) → length counts' ≡ length counts → ((i : ℕ) → slice_index counts' i + naming i minus ≡ slice_index counts i + naming i plus) →
          All (λ q. live slots q ≡ true) plus → IsKept (changed_by change slots r) counts' free used outside
      word_kept counts' sizes counted_so gained =
          let seen = slot_seen slots r has in
          let slot = seen.0 in
          subst (λ o. IsKept (set slots (slot_of r) (option_map change o)) counts' free used outside) (sym seen.1)
          (swap_kept slots counts counts' free used outside plus minus kept (slot_of r) slot (change slot) seen.1 (is.births slot) (live_within slots r has)
          (is.moves slot seen.1) sizes counted_so gained (omega (arith, is.sizes slot, kept.narrow (slot_of r), ap (λ o. length (refs_of_node (node_of o))) seen.1)) word_part)

module _ (slots : List (Option Slot)) (r : Ref) (change : Slot → Slot) (minus plus : List Ref) (is : IsChange slots r change minus plus) (within : slot_of r < length slots) where
  kept_birth : (o : Option Slot) → born (option_map change o) ≡ born o
  kept_birth None = refl
  kept_birth (Some slot) = ap Some (is.births slot)

  kept_ref : (birth : ℕ) (o : Option Slot) → has_birth birth (option_map change o) ≡ has_birth birth o
  kept_ref birth None = refl
  kept_ref birth (Some slot) = ap (λ b. b == birth) (is.births slot)

  -- a changed slot keeps its birth
  pub born_word : (i : ℕ) → born (get_or slots i None) ≡ born (get_or (changed_by change slots r) i None)
  born_word i = elim (cases_eq i (slot_of r)) [
    | inl same ↦
        ap (λ j. born (get_or slots j None)) same ∙ sym (kept_birth (get_or slots (slot_of r) None))
        ∙ sym (ap (λ j. born (get_or (changed_by change slots r) j None)) same ∙ ap born (get_or-set_same slots (slot_of r) (option_map change (get_or slots (slot_of r) None)) None within))
    | inr other ↦ born_set slots (slot_of r) i (option_map change (get_or slots (slot_of r) None)) other
  ]

  -- and its references
  pub live_word : (q : Ref) → live (changed_by change slots r) q ≡ live slots q
  live_word q = elim (cases_eq (slot_of q) (slot_of r)) [
    | inl same ↦
        live_here slots (slot_of r) (option_map change (get_or slots (slot_of r) None)) q within same ∙ kept_ref (birth_of q) (get_or slots (slot_of r) None)
        ∙ sym (ap (λ j. has_birth (birth_of q) (get_or slots j None)) same)
    | inr other ↦ live_there slots (slot_of r) (option_map change (get_or slots (slot_of r) None)) q other
  ]

-- the main word of an indirection is from, and becomes to
pub main_changes : (before seen : Contents) → before ≡ seen → (r to from : Ref) → is_indirection (node_at seen.heap r) ≡ true → main_at seen.heap r ≡ from →
    IsChange before.heap.slots r (main_changed to) (from ∷ []) (to ∷ [])
main_changes before seen same r to from kind is =
    let node = ap (λ (a : Contents). node_of (get_or a.heap.slots (slot_of r) None)) same ∙ node_seen seen.heap r in
    main_is_change before.heap.slots r to from (ap is_indirection node ∙ kind) (ap main_of node ∙ is)

-- the prev word of a main node is from, and becomes to
pub prev_changes : (before seen : Contents) → before ≡ seen → (r : Ref) (to from : Prev) → prev_at seen.heap r ≡ from →
    IsChange before.heap.slots r (prev_changed to) (refs_of_prev from) (refs_of_prev to)
prev_changes before seen same r to from is =
    prev_is_change before.heap.slots r to from (ap (λ (a : Contents). prev_of (get_or a.heap.slots (slot_of r) None)) same ∙ prev_seen seen.heap r ∙ is)

-- the word that is to be replaced is changed
pub word_changes : (before seen : Contents) → before ≡ seen → (r : Ref) (w : WordSwap) → StandsIn seen.heap r w → IsChange before.heap.slots r (word_changed w) (going w) (coming w)
word_changes before seen same r (word.Main from to) stands = main_changes before seen same r to from stands.0 stands.1
word_changes before seen same r (word.Prev from to) stands = prev_changes before seen same r to from stands

pub one_comes : (w : WordSwap) → length (coming w) ≤ 1
one_comes (word.Main from to) = omega arith
one_comes (word.Prev from to) = one_prev to

pub one_goes : (w : WordSwap) → length (going w) ≤ 1
one_goes (word.Main from to) = omega arith
one_goes (word.Prev from to) = one_prev from

pub word_seen : (heap : Heap) (r : Ref) (w : WordSwap) → with_word heap r w ≡ record { slots = changed_by (word_changed w) heap.slots r; free = heap.free; births = heap.births }
word_seen heap r (word.Main from to) = main_seen heap r to
word_seen heap r (word.Prev from to) = prev_put_seen heap r to

-- an arena before and after the change
module _
    (before seen : Contents) (same : before ≡ seen) (r : Ref) (has : live before.heap.slots r ≡ true) (change : Slot → Slot) (minus plus : List Ref)
    (is : IsChange before.heap.slots r change minus plus) (slots : List (Option Slot)) (slots_are : slots ≡ changed_by change before.heap.slots r)
  where
    pub word_noted : (counts counts' : List ℕ) (free : Chain) (used : ℕ) (between : Tally) (noted : List ℕ) (ticks : ℕ) →
        IsKept before.heap.slots counts free used before.outside → IsKept slots counts' free used before.outside →
        NotesZeros (record { counts = counts; noted = before.noted; ticks = 0 }) between → NotesZeros between (record { counts = counts'; noted = noted; ticks = 0 }) →
        NotesWaiting seen (record { heap = record { slots = slots; free = before.heap.free; births = before.heap.births }; outside = before.outside; noted = noted; ticks = ticks })
    word_noted counts counts' free used between noted ticks kept kept' first second =
        let after : Contents = record { heap = record { slots = slots; free = before.heap.free; births = before.heap.births }; outside = before.outside; noted = noted; ticks = ticks } in
        subst (λ (a : Contents). NotesWaiting a after) same
        (notes_waiting before after counts counts' free free used used kept kept'
        (zeros_trans (record { counts = counts; noted = before.noted; ticks = 0 }) between (record { counts = counts'; noted = noted; ticks = 0 }) first second)
        (λ i none. born_word before.heap.slots r change minus plus is (live_within before.heap.slots r has) i ∙ sym (ap (λ s. born (get_or s i None)) slots_are)))

    pub word_stays : (q : Ref) → is_live (record { slots = slots; free = before.heap.free; births = before.heap.births }) q ≡ is_live seen.heap q
    word_stays q =
        live_is (record { slots = slots; free = before.heap.free; births = before.heap.births }) q ∙ ap (λ s. live s q) slots_are
        ∙ live_word before.heap.slots r change minus plus is (live_within before.heap.slots r has) q
        ∙ ap (λ (a : Contents). live a.heap.slots q) same ∙ sym (live_is seen.heap q)
