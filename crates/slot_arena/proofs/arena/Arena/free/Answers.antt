use Rattle.std.proofs.Common.{◌≡◌, ◌+◌, ◌-◌, ◌<◌, ◌≤◌, true, ◌∷◌, length, get_or, set, All, Some, None, is_some, sym, ap, ◌∙◌, subst, arith}
use Rattle.slot_arena.specs.declared.refs.Ref.{Ref}
use Rattle.slot_arena.specs.declared.nodes.Slot.{Slot}
use Rattle.slot_arena.specs.Refs.{slot_of}
use Rattle.slot_arena.specs.Heaps.{node_of, prev_of, refs_of_node, refs_of_prev, refs_of_slot}
use Rattle.slot_arena.specs.Times.{times}
use Rattle.slot_arena.specs.Tallies.{naming}
use Rattle.slot_arena.specs.Arenas.{Contents, NotesWaitingBut}
use Rattle.slot_arena.specs.Kept.{live, found, IsKept, IsRising}
use Rattle.slot_arena.proofs.Live.{live_within, all_within}
use Rattle.slot_arena.proofs.Exact.{count_found, part_live, part_counted}
use Rattle.slot_arena.proofs.Waiting.{born, notes_but}
use Rattle.slot_arena.proofs.Reading.{live_inside, live_seen, slot_seen}
use Rattle.slot_arena.proofs.Times.{times-append}
use Rattle.slot_arena.proofs.Namings.{naming-append}
use Rattle.slot_arena.proofs.Marks.{zeros_trans}
use Rattle.slot_arena.proofs.Words.{slot_part}
use Rattle.slot_arena.proofs.Written.{born_set}
use Rattle.slot_arena.proofs.Frees.{free_kept, some_used}
use Rattle.slot_arena.proofs.Reading.{freed_seen, live_shown}
use Rattle.slot_arena.proofs.Live.{one_live}
use Rattle.slot_arena.proofs.Changed.{live_there}
use Rattle.slot_arena.specs.Loans.{IsLending}
use Rattle.slot_arena.proofs.Rising.{rising_freed}
use Rattle.slot_arena.proofs.Lenders.{lending_apart, lending_kept, lends_here, none_kept}
use Rattle.slot_arena.proofs.Lendings.{keeps_trans}
use Rattle.slot_arena.proofs.arena.Arena.free.Goals as goal

pub prev-prev-requires : goal.prev-prev-requires
prev-prev-requires c =
    let at : Ref = c.args.at in
    let has = live_inside _ _ c.self.view_is c.args.at c.requires.live in
    let seen = slot_seen c.self.inside.cells at has in
    subst (λ k. is_some (get_or c.self.inside.cells k None) ≡ true) (sym c.slot-slot.ensures) (ap is_some seen.1)

pub node-requires : goal.node-requires
node-requires c =
    let at : Ref = c.args.at in
    let has = live_inside _ _ c.self.view_is c.args.at c.requires.live in
    let seen = slot_seen c.self.inside.cells at has in
    subst (λ k. is_some (get_or c.self.inside.cells k None) ≡ true) (sym c.slot-slot.ensures) (ap is_some seen.1)

pub lower_node-requires-clause-within : goal.lower_node-requires-clause-within
lower_node-requires-clause-within c =
    let at : Ref = c.args.at in
    let has = live_inside _ _ c.self.view_is c.args.at c.requires.live in
    let seen = slot_seen c.self.inside.cells at has in
    let slot : Slot = seen.0 in
    let node_is : c.refs_in.result.now ≡ refs_of_node slot.node = c.refs_in.ensures.refs
    ∙ ap refs_of_node (c.node.ensures ∙ ap (λ k. node_of (get_or c.self.inside.cells k None)) c.slot-slot.ensures ∙ ap node_of seen.1) in
    let part : (q : Ref) → times q (refs_of_slot (Some slot)) ≤ found c.self.inside.cells c.self.inside.outside.items q =
    slot_part c.self.inside.cells c.self.inside.ledger.tally.counts c.self.inside.free c.self.inside.used c.self.inside.outside.items c.self.invariant.0 at has in
    subst (λ rs. All (λ r. slot_of r < length c.self.inside.ledger.tally.counts) rs) (sym node_is)
    (all_within c.self.inside.cells (length c.self.inside.ledger.tally.counts) (refs_of_node slot.node) (sym (c.self.invariant.0.sizes))
    (part_live c.self.inside.cells c.self.inside.ledger.tally.counts c.self.inside.outside.items c.self.invariant.0.exact (refs_of_node slot.node)
    (λ q. omega (arith, part q, times-append q (refs_of_node slot.node) (refs_of_prev slot.prev)))))

pub lower_node-requires-clause-some : goal.lower_node-requires-clause-some
lower_node-requires-clause-some c i =
    let at : Ref = c.args.at in
    let has = live_inside _ _ c.self.view_is c.args.at c.requires.live in
    let seen = slot_seen c.self.inside.cells at has in
    let slot : Slot = seen.0 in
    let node_is : c.refs_in.result.now ≡ refs_of_node slot.node = c.refs_in.ensures.refs
    ∙ ap refs_of_node (c.node.ensures ∙ ap (λ k. node_of (get_or c.self.inside.cells k None)) c.slot-slot.ensures ∙ ap node_of seen.1) in
    let part : (q : Ref) → times q (refs_of_slot (Some slot)) ≤ found c.self.inside.cells c.self.inside.outside.items q =
    slot_part c.self.inside.cells c.self.inside.ledger.tally.counts c.self.inside.free c.self.inside.used c.self.inside.outside.items c.self.invariant.0 at has in
    let counted_so = part_counted c.self.inside.cells c.self.inside.ledger.tally.counts c.self.inside.outside.items c.self.invariant.0.exact (refs_of_slot (Some slot)) part i in
    omega (arith, naming-append i (refs_of_node slot.node) (refs_of_prev slot.prev), ap (naming i) node_is)

pub lower_node-requires-clause-lent : goal.lower_node-requires-clause-lent
lower_node-requires-clause-lent c =
    lends_here c.self.inside.cells c.self.inside.ledger.loan c.args.at c.refs_in.result.now c.self.invariant.1
    (c.refs_in.ensures.refs ∙ ap refs_of_node (c.node.ensures ∙ ap (λ k. node_of (get_or c.self.inside.cells k None)) c.slot-slot.ensures))

pub lower_all-requires-clause-within : goal.lower_all-requires-clause-within
lower_all-requires-clause-within c =
    let at : Ref = c.args.at in
    let has = live_inside _ _ c.self.view_is c.args.at c.requires.live in
    let seen = slot_seen c.self.inside.cells at has in
    let slot : Slot = seen.0 in
    let prev_is : c.refs_of_prev.result.now ≡ refs_of_prev slot.prev = c.refs_of_prev.ensures
    ∙ ap refs_of_prev (c.prev-prev.ensures ∙ ap (λ k. prev_of (get_or c.self.inside.cells k None)) c.slot-slot.ensures ∙ ap prev_of seen.1) in
    let part : (q : Ref) → times q (refs_of_slot (Some slot)) ≤ found c.self.inside.cells c.self.inside.outside.items q =
    slot_part c.self.inside.cells c.self.inside.ledger.tally.counts c.self.inside.free c.self.inside.used c.self.inside.outside.items c.self.invariant.0 at has in
    subst (λ rs. All (λ r. slot_of r < length c.lower_node.new.self.tally.counts) rs) (sym prev_is)
    (all_within c.self.inside.cells (length c.lower_node.new.self.tally.counts) (refs_of_prev slot.prev) (sym (c.lower_node.ensures.size ∙ c.self.invariant.0.sizes))
    (part_live c.self.inside.cells c.self.inside.ledger.tally.counts c.self.inside.outside.items c.self.invariant.0.exact (refs_of_prev slot.prev)
    (λ q. omega (arith, part q, times-append q (refs_of_node slot.node) (refs_of_prev slot.prev)))))

pub lower_all-requires-clause-some : goal.lower_all-requires-clause-some
lower_all-requires-clause-some c i =
    let at : Ref = c.args.at in
    let has = live_inside _ _ c.self.view_is c.args.at c.requires.live in
    let seen = slot_seen c.self.inside.cells at has in
    let slot : Slot = seen.0 in
    let node_is : c.refs_in.result.now ≡ refs_of_node slot.node = c.refs_in.ensures.refs
    ∙ ap refs_of_node (c.node.ensures ∙ ap (λ k. node_of (get_or c.self.inside.cells k None)) c.slot-slot.ensures ∙ ap node_of seen.1) in
    let prev_is : c.refs_of_prev.result.now ≡ refs_of_prev slot.prev = c.refs_of_prev.ensures
    ∙ ap refs_of_prev (c.prev-prev.ensures ∙ ap (λ k. prev_of (get_or c.self.inside.cells k None)) c.slot-slot.ensures ∙ ap prev_of seen.1) in
    let part : (q : Ref) → times q (refs_of_slot (Some slot)) ≤ found c.self.inside.cells c.self.inside.outside.items q =
    slot_part c.self.inside.cells c.self.inside.ledger.tally.counts c.self.inside.free c.self.inside.used c.self.inside.outside.items c.self.invariant.0 at has in
    let counted_so = part_counted c.self.inside.cells c.self.inside.ledger.tally.counts c.self.inside.outside.items c.self.invariant.0.exact (refs_of_slot (Some slot)) part i in
    omega (arith, naming-append i (refs_of_node slot.node) (refs_of_prev slot.prev), ap (naming i) node_is, ap (naming i) prev_is, c.lower_node.ensures.counts i)

pub clear-requires : goal.clear-requires
clear-requires c =
    let at : Ref = c.args.at in
    let has = live_inside _ _ c.self.view_is c.args.at c.requires.live in
    let within = live_within c.self.inside.cells at has in
    omega (arith, c.slot-slot.ensures)

pub overflow_sub-self : goal.overflow_sub-self
overflow_sub-self c =
    let at : Ref = c.args.at in
    let has = live_inside _ _ c.self.view_is c.args.at c.requires.live in
    let seen = slot_seen c.self.inside.cells at has in
    some_used c.self.inside.cells c.self.inside.ledger.tally.counts c.self.inside.free c.self.inside.used c.self.inside.outside.items c.self.invariant.0 (slot_of at)
    (live_within c.self.inside.cells at has) (ap is_some seen.1)

pub put-requires-clause-within : goal.put-requires-clause-within
put-requires-clause-within c =
    let at : Ref = c.args.at in
    let has = live_inside _ _ c.self.view_is c.args.at c.requires.live in
    let within = live_within c.self.inside.cells at has in
    omega (arith, c.slot-slot.ensures, c.self.invariant.0.chained)

pub put-requires-clause-apart : goal.put-requires-clause-apart
put-requires-clause-apart c =
    let at : Ref = c.args.at in
    let has = live_inside _ _ c.self.view_is c.args.at c.requires.live in
    let seen = slot_seen c.self.inside.cells at has in
    ap (λ k. times k c.self.inside.free.slots) c.slot-slot.ensures ∙ c.self.invariant.0.apart (slot_of at) (ap is_some seen.1)

-- a loan that is out then is of another node
still_lends : (c : goal.After-put) → IsLending c.clear.new.self c.lower_all.new.self.loan
still_lends c =
    let loan = c.lower_all.new.self.loan in
    let has = live_inside _ _ c.self.view_is c.args.at c.requires.live in
    let after = c.lower_all.ensures.loan in
    let kept = keeps_trans c.self.inside.ledger.loan c.lower_node.new.self.loan loan c.lower_node.ensures.loan after in
    subst (λ s. IsLending s loan) (sym (c.clear.ensures ∙ ap (λ k. set c.self.inside.cells k None) c.slot-slot.ensures))
    (lending_apart c.self.inside.cells loan c.args.at None (lending_kept c.self.inside.cells c.self.inside.ledger.loan loan kept c.self.invariant.1)
    (none_kept c.args.at c.lower_node.new.self.loan loan after c.lower_node.ensures.none) has)

pub invariant_of-self : goal.invariant_of-self
invariant_of-self c = (
  let at : Ref = c.args.at in
      let has = live_inside _ _ c.self.view_is c.args.at c.requires.live in
      let seen = slot_seen c.self.inside.cells at has in
      let slot : Slot = seen.0 in
      let node_is : c.refs_in.result.now ≡ refs_of_node slot.node = c.refs_in.ensures.refs
      ∙ ap refs_of_node (c.node.ensures ∙ ap (λ k. node_of (get_or c.self.inside.cells k None)) c.slot-slot.ensures ∙ ap node_of seen.1) in
      let prev_is : c.refs_of_prev.result.now ≡ refs_of_prev slot.prev = c.refs_of_prev.ensures
      ∙ ap refs_of_prev (c.prev-prev.ensures ∙ ap (λ k. prev_of (get_or c.self.inside.cells k None)) c.slot-slot.ensures ∙ ap prev_of seen.1) in
      let unreferred : found c.self.inside.cells c.self.inside.outside.items at ≡ 0 =
      ap (λ (a : Contents). found a.heap.slots a.outside at) c.self.view_is ∙ sym (count_found c.args.self.now.heap c.args.self.now.outside at) ∙ c.requires.unreferred in
      let one = some_used c.self.inside.cells c.self.inside.ledger.tally.counts c.self.inside.free c.self.inside.used c.self.inside.outside.items c.self.invariant.0 (slot_of at)
      (live_within c.self.inside.cells at has) (ap is_some seen.1) in
      subst (λ s. IsKept s c.lower_all.new.self.tally.counts c.put.new.self (c.self.inside.used - 1) c.self.inside.outside.items)
      (sym (c.clear.ensures ∙ ap (λ k. set c.self.inside.cells k None) c.slot-slot.ensures))
      (free_kept c.self.inside.cells c.self.inside.ledger.tally.counts c.lower_all.new.self.tally.counts c.self.inside.free c.put.new.self c.self.inside.used (c.self.inside.used - 1)
      c.self.inside.outside.items
      c.self.invariant.0 at slot seen.1 has unreferred
      (c.put.ensures.slots ∙ ap (λ k. k ∷ c.self.inside.free.slots) c.slot-slot.ensures) c.put.ensures.size (omega arith)
      (c.lower_all.ensures.size ∙ c.lower_node.ensures.size)
      (λ i. omega (
        arith,
        c.lower_all.ensures.counts i,
        c.lower_node.ensures.counts i,
        naming-append i (refs_of_node slot.node) (refs_of_prev slot.prev),
        ap (naming i) node_is,
        ap (naming i) prev_is,
      ))),
  still_lends c,
  subst (λ s. IsRising s c.self.inside.births) (sym (c.clear.ensures ∙ ap (λ k. set c.self.inside.cells k None) c.slot-slot.ensures))
      (rising_freed c.self.inside.cells c.self.inside.births c.self.invariant.2 (slot_of c.args.at)
      (live_within c.self.inside.cells c.args.at (live_inside _ _ c.self.view_is c.args.at c.requires.live))),
)

pub returns-clause-heap : goal.returns-clause-heap
returns-clause-heap c =
    ap (λ s. record { slots = s; free = c.put.new.self.slots; births = c.self.inside.births }) (c.clear.ensures ∙ ap (λ k. set c.self.inside.cells k None) c.slot-slot.ensures)
    ∙ ap (λ f. record { slots = set c.self.inside.cells (slot_of c.args.at) None; free = f; births = c.self.inside.births })
    (c.put.ensures.slots ∙ ap (λ k. k ∷ c.self.inside.free.slots) c.slot-slot.ensures)
    ∙ ap (λ (a : Contents). record { slots = set a.heap.slots (slot_of c.args.at) None; free = slot_of c.args.at ∷ a.heap.free; births = a.heap.births }) c.self.view_is
    ∙ sym (freed_seen c.args.self.now.heap c.args.at)

pub returns-clause-noted : goal.returns-clause-noted
returns-clause-noted c =
    let slots = ap (λ (a : Contents). a.heap.slots) c.self.view_is in
    let has = live_inside _ _ c.self.view_is c.args.at c.requires.live in
    let was : Contents = record {
      heap = record { slots = c.self.inside.cells; free = c.self.inside.free.slots; births = c.self.inside.births };
      outside = c.self.inside.outside.items;
      noted = c.self.inside.ledger.tally.noted;
      ticks = c.self.inside.free.ticks + c.self.inside.ledger.tally.ticks;
    } in
    let now : Contents = record {
      heap = record { slots = c.clear.new.self; free = c.put.new.self.slots; births = c.self.inside.births };
      outside = c.self.inside.outside.items;
      noted = c.lower_all.new.self.tally.noted;
      ticks = 0;
    } in
    let zeros = zeros_trans c.self.inside.ledger.tally c.lower_node.new.self.tally c.lower_all.new.self.tally c.lower_node.ensures.noted c.lower_all.ensures.noted in
    subst (λ (a : Contents). NotesWaitingBut (slot_of c.args.at) a now) c.self.view_is
    (notes_but was now c.self.inside.ledger.tally.counts c.lower_all.new.self.tally.counts c.self.inside.free c.put.new.self c.self.inside.used (c.self.inside.used - 1) c.self.invariant.0
    (invariant_of-self c).0 zeros (slot_of c.args.at)
    (λ i other. born_set c.self.inside.cells c.slot-slot.result i None (λ same. other (same ∙ c.slot-slot.ensures)) ∙ sym (ap (λ s. born (get_or s i None)) c.clear.ensures)))

pub returns-clause-stay : goal.returns-clause-stay
returns-clause-stay c q other has =
    let slots = ap (λ (a : Contents). a.heap.slots) c.self.view_is in
    let was : live c.self.inside.cells q ≡ true = ap (λ s. live s q) slots ∙ live_seen c.args.self.now.heap q has in
    let at : live c.self.inside.cells c.args.at ≡ true = ap (λ s. live s c.args.at) slots ∙ live_seen c.args.self.now.heap c.args.at c.requires.live in
    live_shown (record { slots = c.clear.new.self; free = c.put.new.self.slots; births = c.self.inside.births }) q
    (ap (λ s. live s q) (c.clear.ensures ∙ ap (λ k. set c.self.inside.cells k None) c.slot-slot.ensures)
    ∙ live_there c.self.inside.cells (slot_of c.args.at) None q (λ same. other (one_live c.self.inside.cells q c.args.at was at same)) ∙ was)
