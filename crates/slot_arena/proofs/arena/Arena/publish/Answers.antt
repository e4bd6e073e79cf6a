use Rattle.std.proofs.Common.{◌≡◌, ◌+◌, ◌<◌, true, List, [], ◌∷◌, length, get_or, set, slice_index, All, Option, None, IsSome, is_some, refl, sym, ap, ◌∙◌, subst, inl, arith, rules, tests}
use Rattle.std.specs.Prelude.{option_map}
use Rattle.std.proofs.lemmas.List.{length-set}
use Rattle.slot_arena.specs.declared.refs.Ref.{Ref}
use Rattle.slot_arena.specs.declared.nodes.Prev.TheVariants as prev
use Rattle.slot_arena.specs.declared.nodes.Slot.{Slot}
use Rattle.slot_arena.specs.Refs.{slot_of}
use Rattle.slot_arena.specs.Heaps.{Heap, node_of, prev_of, main_of, main_changed, prev_changed, refs_of_prev, with_main}
use Rattle.slot_arena.specs.Tallies.{Tally, naming, NotesZeros}
use Rattle.slot_arena.specs.Arenas.{Contents, NotesWaiting, is_indirection}
use Rattle.slot_arena.specs.Kept.{live, IsKept, IsRising}
use Rattle.slot_arena.proofs.Live.{live_within, all_within}
use Rattle.slot_arena.proofs.Exact.{part_live, part_counted}
use Rattle.slot_arena.proofs.Changed.{counts_small}
use Rattle.slot_arena.proofs.Namings.{naming-cons, raised_at}
use Rattle.slot_arena.proofs.Times.{once}
use Rattle.slot_arena.proofs.Waiting.{born, notes_waiting}
use Rattle.slot_arena.proofs.Marks.{zeros_trans}
use Rattle.slot_arena.proofs.Words.{IsChange, changed_by, main_changes, prev_is_change, prev_part, born_word, live_word}
use Rattle.slot_arena.proofs.Parts.{used_changed}
use Rattle.slot_arena.proofs.Publishes.{publish_kept}
use Rattle.slot_arena.proofs.Reading.{live_inside, live_is, node_seen, used_seen, main_seen, prev_put_seen}
use Rattle.slot_arena.specs.Loans.{IsLending}
use Rattle.slot_arena.proofs.Rising.{rising_changed}
use Rattle.slot_arena.proofs.Lenders.{lending_apart, lending_kept, none_kept}
use Rattle.slot_arena.proofs.Lendings.{keeps_trans}
use Rattle.slot_arena.proofs.arena.Arena.publish.Goals as goal

pub prev-was-requires : goal.prev-was-requires
prev-was-requires c =
    let has = live_inside _ _ c.self.view_is c.args.to c.requires.new_live in
    subst (λ k. is_some (get_or c.self.inside.cells k None) ≡ true) (sym c.slot.ensures) (used_seen c.self.inside.cells c.args.to has)

pub raise-requires-clause-within : goal.raise-requires-clause-within
raise-requires-clause-within c =
    let has = live_inside _ _ c.self.view_is c.args.to c.requires.new_live in
    let size = c.self.invariant.0.sizes in
    omega (arith, live_within c.self.inside.cells c.args.to has, c.slot-2.ensures)

pub raise-requires-clause-room : goal.raise-requires-clause-room
raise-requires-clause-room c =
    omega (arith, counts_small c.self.inside.cells c.self.inside.ledger.tally.counts c.self.inside.free c.self.inside.used c.self.inside.outside.items c.self.invariant.0 c.slot-2.result)

pub lower_all-requires-clause-within : goal.lower_all-requires-clause-within
lower_all-requires-clause-within c =
    let to : Ref = c.args.to in
    let has = live_inside _ _ c.self.view_is to c.requires.new_live in
    let refs_are : c.refs_of_prev.result.now ≡ refs_of_prev (prev_of (get_or c.self.inside.cells (slot_of to) None)) =
    c.refs_of_prev.ensures ∙ ap refs_of_prev (c.prev-was.ensures ∙ ap (λ k. prev_of (get_or c.self.inside.cells k None)) c.slot.ensures) in
    let size = ap length c.raise.ensures.counts ∙ length-set c.self.inside.ledger.tally.counts c.slot-2.result (slice_index c.self.inside.ledger.tally.counts c.slot-2.result + 1) ∙
    c.self.invariant.0.sizes in
    subst (λ rs. All (λ r. slot_of r < length c.raise.new.self.tally.counts) rs) (sym refs_are)
    (all_within c.self.inside.cells (length c.raise.new.self.tally.counts) (refs_of_prev (prev_of (get_or c.self.inside.cells (slot_of to) None))) (sym size)
    (part_live c.self.inside.cells c.self.inside.ledger.tally.counts c.self.inside.outside.items c.self.invariant.0.exact (refs_of_prev (prev_of (get_or c.self.inside.cells (slot_of to) None)))
    (prev_part c.self.inside.cells c.self.inside.ledger.tally.counts c.self.inside.free c.self.inside.used c.self.inside.outside.items c.self.invariant.0 to has)))

pub lower_all-requires-clause-some : goal.lower_all-requires-clause-some
lower_all-requires-clause-some c i =
    let to : Ref = c.args.to in
    let has = live_inside _ _ c.self.view_is to c.requires.new_live in
    let refs_are : c.refs_of_prev.result.now ≡ refs_of_prev (prev_of (get_or c.self.inside.cells (slot_of to) None)) =
    c.refs_of_prev.ensures ∙ ap refs_of_prev (c.prev-was.ensures ∙ ap (λ k. prev_of (get_or c.self.inside.cells k None)) c.slot.ensures) in
    omega (
      arith,
      ap (λ cs. slice_index cs i) c.raise.ensures.counts,
      raised_at c.self.inside.ledger.tally.counts c.slot-2.result i (let size = c.self.invariant.0.sizes in omega (arith, live_within c.self.inside.cells to has, c.slot-2.ensures)),
      ap (once i) c.slot-2.ensures,
      naming-cons i to [],
      ap (naming i) refs_are,
      part_counted c.self.inside.cells c.self.inside.ledger.tally.counts c.self.inside.outside.items c.self.invariant.0.exact
          (refs_of_prev (prev_of (get_or c.self.inside.cells (slot_of to) None)))
          (prev_part c.self.inside.cells c.self.inside.ledger.tally.counts c.self.inside.free c.self.inside.used c.self.inside.outside.items c.self.invariant.0 to has) i,
    )

pub set_main-requires : goal.set_main-requires
set_main-requires c =
    let has = live_inside _ _ c.self.view_is c.args.at c.requires.live in
    omega (arith, live_within c.self.inside.cells c.args.at has, c.slot-3.ensures)

-- the slots after the main word was changed
abbrev first_of : List (Option Slot) → Ref → Ref → List (Option Slot)
first_of slots at to = changed_by (main_changed to) slots at

-- and after the prev word was, too
abbrev second_of : List (Option Slot) → Ref → Ref → List (Option Slot)
second_of slots to from = changed_by (prev_changed (prev.Pending from)) slots to

-- the main word that is changed was `from`
first_change : (c : goal.After-settle-2) → IsChange c.self.inside.cells c.args.at (main_changed c.args.to) (c.args.from ∷ []) (c.args.to ∷ [])
first_change c =
    let same : c.main.result ≡ c.args.from = search (rules, tests) in
    main_changes _ _ c.self.view_is c.args.at c.args.to c.args.from c.requires.kind (sym c.main.ensures ∙ same)

pub set_prev-requires : goal.set_prev-requires
set_prev-requires c =
    let has = live_inside _ _ c.self.view_is c.args.to c.requires.new_live in
    subst (λ s. IsSome (get_or s c.slot-4.result None)) (sym c.set_main.ensures)
    (used_changed c.self.inside.cells c.slot-3.result c.slot-4.result (main_changed c.args.to)
    (subst (λ k. IsSome (get_or c.self.inside.cells k None)) (sym c.slot-4.ensures) (used_seen c.self.inside.cells c.args.to has)))

slots_are : (c : goal.After-settle-2) → c.set_prev.new.self ≡ second_of (first_of c.self.inside.cells c.args.at c.args.to) c.args.to c.args.from
slots_are c =
    c.set_prev.ensures
    ∙ ap (λ s. set s c.slot-4.result (option_map (prev_changed (prev.Pending c.args.from)) (get_or s c.slot-4.result None)))
    (c.set_main.ensures ∙ ap (λ k. set c.self.inside.cells k (option_map (main_changed c.args.to) (get_or c.self.inside.cells k None))) c.slot-3.ensures)
    ∙ ap (λ k. let first = first_of c.self.inside.cells c.args.at c.args.to in set first k (option_map (prev_changed (prev.Pending c.args.from)) (get_or first k None))) c.slot-4.ensures

-- a loan that is out then is of another node
still_lends : (c : goal.After-settle-2) → IsLending c.set_prev.new.self c.settle-2.new.self.loan
still_lends c =
    let loan = c.settle-2.new.self.loan in
    let first : List (Option Slot) = first_of c.self.inside.cells c.args.at c.args.to in
    let has = live_inside _ _ c.self.view_is c.args.at c.requires.live in
    let to_live = live_inside _ _ c.self.view_is c.args.to c.requires.new_live in
    let there : live first c.args.to ≡ true = live_word c.self.inside.cells c.args.at _ _ _ (first_change c) (live_within c.self.inside.cells c.args.at has) c.args.to ∙ to_live in
    let lowered = keeps_trans c.self.inside.ledger.loan c.raise.new.self.loan c.lower_all.new.self.loan (inl c.raise.ensures.loan) c.lower_all.ensures.loan in
    let settled = keeps_trans c.self.inside.ledger.loan c.lower_all.new.self.loan c.settle.new.self.loan lowered c.settle.ensures.loan in
    let kept = keeps_trans c.self.inside.ledger.loan c.settle.new.self.loan loan settled c.settle-2.ensures.loan in
    let other = none_kept c.args.at c.settle.new.self.loan loan c.settle-2.ensures.loan c.settle.ensures.none in
    subst (λ s. IsLending s loan) (sym (slots_are c))
    (lending_apart first loan c.args.to (option_map (prev_changed (prev.Pending c.args.from)) (get_or first (slot_of c.args.to) None))
    (lending_apart c.self.inside.cells loan c.args.at (option_map (main_changed c.args.to) (get_or c.self.inside.cells (slot_of c.args.at) None))
    (lending_kept c.self.inside.cells c.self.inside.ledger.loan loan kept c.self.invariant.1) other has) c.settle-2.ensures.none there)

-- births are as before
still_risen : (c : goal.After-settle-2) → IsRising c.set_prev.new.self c.self.inside.births
still_risen c =
    let first : List (Option Slot) = first_of c.self.inside.cells c.args.at c.args.to in
    let has = live_inside _ _ c.self.view_is c.args.at c.requires.live in
    let there : live first c.args.to ≡ true =
    live_word c.self.inside.cells c.args.at _ _ _ (first_change c) (live_within c.self.inside.cells c.args.at has) c.args.to ∙ live_inside _ _ c.self.view_is c.args.to c.requires.new_live in
    subst (λ s. IsRising s c.self.inside.births) (sym (slots_are c))
    (rising_changed first c.self.inside.births (rising_changed c.self.inside.cells c.self.inside.births c.self.invariant.2 c.args.at has _ _ _ (first_change c)) c.args.to there _ _ _
    (prev_is_change first c.args.to (prev.Pending c.args.from) _ refl))

pub invariant_of-self : goal.invariant_of-self
invariant_of-self c = (
  let at : Ref = c.args.at in
      let to : Ref = c.args.to in
      let has = live_inside _ _ c.self.view_is at c.requires.live in
      let to_live = live_inside _ _ c.self.view_is to c.requires.new_live in
      let same : c.main.result ≡ c.args.from = search (rules, tests) in
      let slots = ap (λ (a : Contents). a.heap.slots) c.self.view_is in
      let node = ap (λ s. node_of (get_or s (slot_of at) None)) slots ∙ node_seen c.args.self.now.heap at in
      let refs_are : c.refs_of_prev.result.now ≡ refs_of_prev (prev_of (get_or c.self.inside.cells (slot_of to) None)) =
      c.refs_of_prev.ensures ∙ ap refs_of_prev (c.prev-was.ensures ∙ ap (λ k. prev_of (get_or c.self.inside.cells k None)) c.slot.ensures) in
      subst (λ (t : Tally). IsKept c.set_prev.new.self t.counts c.self.inside.free c.self.inside.used c.self.inside.outside.items) (sym (c.settle-2.ensures.tally ∙ c.settle.ensures.tally))
      (subst (λ s. IsKept s c.lower_all.new.self.tally.counts c.self.inside.free c.self.inside.used c.self.inside.outside.items) (sym (slots_are c))
      (publish_kept c.self.inside.cells c.self.inside.ledger.tally.counts c.lower_all.new.self.tally.counts c.self.inside.free c.self.inside.used c.self.inside.outside.items c.self.invariant.0
      at to c.args.from has (ap is_indirection node ∙ c.requires.kind) (ap main_of node ∙ sym c.main.ensures ∙ same) to_live
      (c.lower_all.ensures.size ∙ ap length c.raise.ensures.counts ∙ length-set c.self.inside.ledger.tally.counts c.slot-2.result (slice_index c.self.inside.ledger.tally.counts c.slot-2.result + 1))
      (λ i. omega (
        arith,
        c.lower_all.ensures.counts i,
        ap (λ cs. slice_index cs i) c.raise.ensures.counts,
        raised_at c.self.inside.ledger.tally.counts c.slot-2.result i (let size = c.self.invariant.0.sizes in omega (arith, live_within c.self.inside.cells to to_live, c.slot-2.ensures)),
        ap (once i) c.slot-2.ensures,
        naming-cons i to [],
        ap (naming i) refs_are,
      )))),
  still_lends c,
  still_risen c,
)

pub returns-clause-heap : goal.returns-clause-heap
returns-clause-heap c =
    let at : Ref = c.args.at in
    let to : Ref = c.args.to in
    ap (λ s. record { slots = s; free = c.self.inside.free.slots; births = c.self.inside.births }) (slots_are c)
    ∙ ap (λ (a : Contents). record { slots = second_of (first_of a.heap.slots at to) to c.args.from; free = a.heap.free; births = a.heap.births }) c.self.view_is
    ∙ sym (ap (λ (h : Heap). record { slots = second_of h.slots to c.args.from; free = h.free; births = h.births }) (main_seen c.args.self.now.heap at to))
    ∙ sym (prev_put_seen (with_main c.args.self.now.heap at to) to (prev.Pending c.args.from))

pub returns-clause-noted : goal.returns-clause-noted
returns-clause-noted c =
    let at : Ref = c.args.at in
    let to : Ref = c.args.to in
    let has = live_inside _ _ c.self.view_is at c.requires.live in
    let to_live = live_inside _ _ c.self.view_is to c.requires.new_live in
    let first : List (Option Slot) = first_of c.self.inside.cells at to in
    let size = length-set c.self.inside.cells (slot_of at) (option_map (main_changed to) (get_or c.self.inside.cells (slot_of at) None)) in
    let was : Contents = record {
      heap = record { slots = c.self.inside.cells; free = c.self.inside.free.slots; births = c.self.inside.births };
      outside = c.self.inside.outside.items;
      noted = c.self.inside.ledger.tally.noted;
      ticks = c.self.inside.free.ticks + c.self.inside.ledger.tally.ticks;
    } in
    let now : Contents = record {
      heap = record { slots = c.set_prev.new.self; free = c.self.inside.free.slots; births = c.self.inside.births };
      outside = c.self.inside.outside.items;
      noted = c.settle-2.new.self.tally.noted;
      ticks = 0;
    } in
    subst (λ (a : Contents). NotesWaiting a now) c.self.view_is
    (notes_waiting was now c.self.inside.ledger.tally.counts c.settle-2.new.self.tally.counts c.self.inside.free c.self.inside.free c.self.inside.used c.self.inside.used c.self.invariant.0
    (invariant_of-self c).0
    (zeros_trans c.self.inside.ledger.tally c.raise.new.self.tally c.settle-2.new.self.tally c.raise.ensures.noted
    (subst (λ (t : Tally). NotesZeros c.raise.new.self.tally t) (sym (c.settle-2.ensures.tally ∙ c.settle.ensures.tally)) c.lower_all.ensures.noted))
    (λ i none. born_word c.self.inside.cells at _ _ _ (first_change c) (live_within c.self.inside.cells at has) i
    ∙ born_word first to _ _ _ (prev_is_change first to (prev.Pending c.args.from) _ refl) (omega (arith, live_within c.self.inside.cells to to_live, size)) i
    ∙ sym (ap (λ s. born (get_or s i None)) (slots_are c))))

pub returns-clause-stay : goal.returns-clause-stay
returns-clause-stay c q =
    let at : Ref = c.args.at in
    let to : Ref = c.args.to in
    let has = live_inside _ _ c.self.view_is at c.requires.live in
    let to_live = live_inside _ _ c.self.view_is to c.requires.new_live in
    let first : List (Option Slot) = first_of c.self.inside.cells at to in
    let size = length-set c.self.inside.cells (slot_of at) (option_map (main_changed to) (get_or c.self.inside.cells (slot_of at) None)) in
    live_is (record { slots = c.set_prev.new.self; free = c.self.inside.free.slots; births = c.self.inside.births }) q
    ∙ ap (λ s. live s q) (slots_are c)
    ∙ live_word first to _ _ _ (prev_is_change first to (prev.Pending c.args.from) _ refl) (omega (arith, live_within c.self.inside.cells to to_live, size)) q
    ∙ live_word c.self.inside.cells at _ _ _ (first_change c) (live_within c.self.inside.cells at has) q
    ∙ ap (λ (a : Contents). live a.heap.slots q) c.self.view_is ∙ sym (live_is c.args.self.now.heap q)
