use Rattle.std.proofs.Common.{◌≡◌, ◌+◌, ◌<◌, ◌≤◌, ◌∷◌, true, false, length, take, get_or, set, All, Option, Some, None, is_some, refl, sym, ap, ◌∙◌, subst, arith}
use Rattle.slot_arena.specs.declared.nodes.Node.TheVariants.{Branch}
use Rattle.slot_arena.specs.declared.nodes.Prev.TheVariants as prev
use Rattle.slot_arena.specs.declared.nodes.Slot.{Slot}
use Rattle.slot_arena.specs.Refs.{ref_to, slot_of}
use Rattle.slot_arena.specs.Heaps.{Heap, entries_from, node_at, node_of, refs_of_node, taken}
use Rattle.slot_arena.specs.Tallies.{Tally, naming}
use Rattle.slot_arena.specs.Arenas.{Contents, IsLive, NotesWaiting, is_indirection, is_live}
use Rattle.slot_arena.specs.Entries.{Fits, changed_branch, coming, entries_after}
use Rattle.slot_arena.specs.Kept.{live, IsKept, IsRising}
use Rattle.slot_arena.proofs.Changed.{counts_small}
use Rattle.slot_arena.proofs.Live.{all_within}
use Rattle.slot_arena.proofs.Makes.{make_held_kept}
use Rattle.slot_arena.proofs.Making.{made_fresh, made_lives, made_notes, made_stays}
use Rattle.slot_arena.proofs.Reading.{all_seen, live_inside, node_seen, slot_seen, taken_first, taken_none}
use Rattle.slot_arena.proofs.Joining.{whole}
use Rattle.slot_arena.proofs.Staying.{changed_live, few_after, fits_lent, refs_counted, refs_live}
use Rattle.slot_arena.specs.Loans.{Loan, IsLending}
use Rattle.slot_arena.proofs.Rising.{rising_apart, rising_made}
use Rattle.slot_arena.proofs.Lenders.{first_none, lending_filled, lending_new}
use Rattle.slot_arena.proofs.Makes.{first_unused}
use Rattle.slot_arena.proofs.arena.Arena.make_changed.Goals as goal

pub returns-in_err-slot-clause-heap : goal.returns-in_err-slot-clause-heap
returns-in_err-slot-clause-heap c =
    let free = ap (λ (a : Contents). a.heap.free) c.self.view_is in
    let heap = ap (λ (a : Contents). a.heap) c.self.view_is in
    ap (λ f. record { slots = c.self.inside.cells; free = f; births = c.self.inside.births }) (c.in_err-slot.ensures.slots.1 ∙ sym c.in_err-slot.ensures.slots.0) ∙ heap
    ∙ sym (taken_none c.args.self.now.heap (changed_branch c.args.bitmap c.args.change (node_at c.args.self.now.heap c.args.from)) (sym free ∙ c.in_err-slot.ensures.slots.0))

pub returns-in_err-slot-clause-stay : goal.returns-in_err-slot-clause-stay
returns-in_err-slot-clause-stay c q has = subst (λ (h : Heap).
    IsLive h q)
    (sym (returns-in_err-slot-clause-heap c
    ∙ taken_none c.args.self.now.heap (changed_branch c.args.bitmap c.args.change (node_at c.args.self.now.heap c.args.from))
    (sym (ap (λ (a : Contents). a.heap.free) c.self.view_is) ∙ c.in_err-slot.ensures.slots.0))) has

pub node-requires : goal.node-requires
node-requires c =
    let has = live_inside _ _ c.self.view_is c.args.from c.requires.from_live in
    subst (λ k. is_some (get_or c.self.inside.cells k None) ≡ true) (sym c.slot.ensures) (ap is_some (slot_seen c.self.inside.cells c.args.from has).1)

pub raise_changed-requires-clause-fits : goal.raise_changed-requires-clause-fits
raise_changed-requires-clause-fits c =
    fits_lent _ _ c.self.view_is c.args.from c.args.change c.refs_in-refs.result.now
    (c.refs_in-refs.ensures.refs ∙ ap refs_of_node (c.node.ensures ∙ ap (λ k. node_of (get_or c.self.inside.cells k None)) c.slot.ensures)) c.requires.fits

pub raise_changed-requires-clause-within : goal.raise_changed-requires-clause-within
raise_changed-requires-clause-within c =
    let has = live_inside _ _ c.self.view_is c.args.from c.requires.from_live in
    let stand = c.refs_in-refs.ensures.refs ∙ ap refs_of_node (c.node.ensures ∙ ap (λ k. node_of (get_or c.self.inside.cells k None)) c.slot.ensures
    ∙ ap node_of (slot_seen c.self.inside.cells c.args.from has).1) in
    all_within c.self.inside.cells (length c.self.inside.ledger.tally.counts) c.refs_in-refs.result.now (sym c.self.invariant.0.sizes)
    (refs_live c.self.inside.cells c.self.inside.ledger.tally.counts c.self.inside.free c.self.inside.used c.self.inside.outside.items c.self.invariant.0 c.args.from has c.refs_in-refs.result.now
    stand)

pub raise_changed-requires-clause-coming : goal.raise_changed-requires-clause-coming
raise_changed-requires-clause-coming c =
    let slots = ap (λ (a : Contents). a.heap.slots) c.self.view_is in
    let all : All (λ q. live c.self.inside.cells q ≡ true) (coming c.args.change) =
    subst (λ s. All (λ q. live s q ≡ true) (coming c.args.change)) (sym slots) (all_seen c.args.self.now.heap (coming c.args.change) c.requires.live) in
    all_within c.self.inside.cells (length c.self.inside.ledger.tally.counts) (coming c.args.change) (sym c.self.invariant.0.sizes) all

pub raise_changed-requires-clause-room : goal.raise_changed-requires-clause-room
raise_changed-requires-clause-room c slot =
    omega (arith, counts_small c.self.inside.cells c.self.inside.ledger.tally.counts c.self.inside.free c.self.inside.used c.self.inside.outside.items c.self.invariant.0 slot)

pub raise_changed-requires-clause-some : goal.raise_changed-requires-clause-some
raise_changed-requires-clause-some c =
    let has = live_inside _ _ c.self.view_is c.args.from c.requires.from_live in
    let stand = c.refs_in-refs.ensures.refs ∙ ap refs_of_node (c.node.ensures ∙ ap (λ k. node_of (get_or c.self.inside.cells k None)) c.slot.ensures
    ∙ ap node_of (slot_seen c.self.inside.cells c.args.from has).1) in
    refs_counted c.self.inside.cells c.self.inside.ledger.tally.counts c.self.inside.free c.self.inside.used c.self.inside.outside.items c.self.invariant.0 c.args.from has c.refs_in-refs.result.now
    stand

pub raise_changed-requires-clause-apart : goal.raise_changed-requires-clause-apart
raise_changed-requires-clause-apart c =
    let has = live_inside _ _ c.self.view_is c.args.from c.requires.from_live in
    let node = ap (λ (a : Contents). node_of (get_or a.heap.slots (slot_of c.args.from) None)) c.self.view_is ∙ node_seen c.args.self.now.heap c.args.from in
    let entries = c.refs_in-refs.ensures.refs ∙ ap refs_of_node (c.node.ensures ∙ ap (λ k. node_of (get_or c.self.inside.cells k None)) c.slot.ensures) in
    rising_apart c.self.inside.cells c.self.inside.births c.self.invariant.2 c.args.from has c.refs_in-refs.result.now entries
    (refs_live c.self.inside.cells c.self.inside.ledger.tally.counts c.self.inside.free c.self.inside.used c.self.inside.outside.items c.self.invariant.0 c.args.from has c.refs_in-refs.result.now
    (entries ∙ ap (λ o. refs_of_node (node_of o)) (slot_seen c.self.inside.cells c.args.from has).1))
    (ap is_indirection node ∙ sym c.is_indirection.ensures ∙ c.if-is_indirection.false)

pub begin-requires-clause-none : goal.begin-requires-clause-none
begin-requires-clause-none c =
    first_none c.self.inside.cells c.self.inside.ledger.tally.counts c.raise_changed.new.self.tally.counts c.self.inside.free c.self.inside.used c.self.inside.outside.items c.self.invariant.0
    c.in_ok-slot.slot c.take.new.self.slots c.in_ok-slot.ensures.slots.0 (entries_after c.args.change c.refs_in-refs.result.now)
    (changed_live _ _ c.self.view_is c.self.inside.ledger.tally.counts c.self.inside.free c.self.inside.used c.self.invariant.0 c.args.from
    (live_inside _ _ c.self.view_is c.args.from c.requires.from_live) c.refs_in-refs.result.now
    (c.refs_in-refs.ensures.refs ∙ ap refs_of_node (c.node.ensures ∙ ap (λ k. node_of (get_or c.self.inside.cells k None)) c.slot.ensures)) c.args.change c.requires.live)
    (c.raise_changed.ensures.counts c.in_ok-slot.slot)

pub fill_changed-requires-clause-free : goal.fill_changed-requires-clause-free
fill_changed-requires-clause-free c =
    first_unused c.self.inside.cells c.self.inside.ledger.tally.counts c.self.inside.free c.self.inside.used c.self.inside.outside.items c.self.invariant.0 c.in_ok-slot.slot c.take.new.self.slots
    c.in_ok-slot.ensures.slots.0

pub fill_changed-requires-clause-fits : goal.fill_changed-requires-clause-fits
fill_changed-requires-clause-fits c =
    subst (Fits c.args.change) (sym (c.lender_refs-refs.ensures ∙ ap (λ (l : Loan). l.refs) c.begin.ensures.loan ∙ c.raise_changed.ensures.refs))
    (fits_lent _ _ c.self.view_is c.args.from c.args.change c.refs_in-refs.result.now
    (c.refs_in-refs.ensures.refs ∙ ap refs_of_node (c.node.ensures ∙ ap (λ k. node_of (get_or c.self.inside.cells k None)) c.slot.ensures)) c.requires.fits)

pub fill_changed-requires-clause-few : goal.fill_changed-requires-clause-few
fill_changed-requires-clause-few c =
    omega (arith, c.refs_in-refs.ensures.few, ap length (c.lender_refs-refs.ensures ∙ ap (λ (l : Loan). l.refs) c.begin.ensures.loan ∙ c.raise_changed.ensures.refs))

-- the slot that is made
abbrev made : goal.After-self-3-1 → Slot
made c = record { birth = c.self.inside.births + 1; node = Branch c.args.bitmap (entries_from (entries_after c.args.change c.lender_refs-refs.result.now)); prev = prev.None }

-- what is lent is what the node refers to
lent_are : (c : goal.After-self-3-1) → c.lender_refs-refs.result.now ≡ c.refs_in-refs.result.now
lent_are c = c.lender_refs-refs.ensures ∙ ap (λ (l : Loan). l.refs) c.begin.ensures.loan ∙ c.raise_changed.ensures.refs

-- and of the changed branch all stands
stands : (c : goal.After-self-3-1) → refs_of_node (made c).node ≡ entries_after c.args.change c.refs_in-refs.result.now
stands c =
    let fits = fits_lent _ _ c.self.view_is c.args.from c.args.change c.refs_in-refs.result.now
    (c.refs_in-refs.ensures.refs ∙ ap refs_of_node (c.node.ensures ∙ ap (λ k. node_of (get_or c.self.inside.cells k None)) c.slot.ensures)) c.requires.fits in
    ap (λ rs. take 32 (entries_after c.args.change rs)) (lent_are c)
    ∙ whole (entries_after c.args.change c.refs_in-refs.result.now) (few_after c.args.change c.refs_in-refs.result.now fits c.refs_in-refs.ensures.few)

-- what the node refers to is lent
new_lends : (c : goal.After-self-3-1) → IsLending c.fill_changed.new.self c.begin.new.self.loan
new_lends c =
    let loan = c.begin.new.self.loan in
    subst (λ s. IsLending s loan) (sym c.fill_changed.ensures)
    (lending_filled c.self.inside.cells loan c.in_ok-slot.slot (Some (made c))
    (first_unused c.self.inside.cells c.self.inside.ledger.tally.counts c.self.inside.free c.self.inside.used c.self.inside.outside.items c.self.invariant.0 c.in_ok-slot.slot c.take.new.self.slots
    c.in_ok-slot.ensures.slots.0)
    (lending_new c.self.inside.cells loan c.args.from c.refs_in-refs.result.now (ap (λ (l : Loan). l.lender) c.begin.ensures.loan ∙ c.raise_changed.ensures.lender)
    (ap (λ (l : Loan). l.refs) c.begin.ensures.loan ∙ c.raise_changed.ensures.refs) (live_inside _ _ c.self.view_is c.args.from c.requires.from_live)
    (c.refs_in-refs.ensures.refs ∙ ap refs_of_node (c.node.ensures ∙ ap (λ k. node_of (get_or c.self.inside.cells k None)) c.slot.ensures))))

-- what the new branch refers to is in use
new_live : (c : goal.After-self-3-1) → All (λ q. live c.self.inside.cells q ≡ true) (refs_of_node (made c).node)
new_live c =
    subst (λ rs. All (λ q. live c.self.inside.cells q ≡ true) rs) (sym (stands c))
    (changed_live _ _ c.self.view_is c.self.inside.ledger.tally.counts c.self.inside.free c.self.inside.used c.self.invariant.0 c.args.from
    (live_inside _ _ c.self.view_is c.args.from c.requires.from_live) c.refs_in-refs.result.now
    (c.refs_in-refs.ensures.refs ∙ ap refs_of_node (c.node.ensures ∙ ap (λ k. node_of (get_or c.self.inside.cells k None)) c.slot.ensures)) c.args.change c.requires.live)

-- births go on rising
new_risen : (c : goal.After-self-3-1) → IsRising c.fill_changed.new.self (c.self.inside.births + 1)
new_risen c =
    let within : c.in_ok-slot.slot < length c.self.inside.cells = let is = c.self.invariant.0.chained in let least = c.in_ok-slot.ensures.slots.1 in omega arith in
    subst (λ s. IsRising s (c.self.inside.births + 1)) (sym c.fill_changed.ensures)
    (rising_made c.self.inside.cells c.self.inside.births c.self.invariant.2 c.in_ok-slot.slot (made c).node within (new_live c))

pub invariant_of-self-2 : goal.invariant_of-self-2
invariant_of-self-2 c = (
  let fits = fits_lent _ _ c.self.view_is c.args.from c.args.change c.refs_in-refs.result.now
      (c.refs_in-refs.ensures.refs ∙ ap refs_of_node (c.node.ensures ∙ ap (λ k. node_of (get_or c.self.inside.cells k None)) c.slot.ensures)) c.requires.fits in
      let few : length (refs_of_node (made c).node) ≤ 32 = omega (arith, ap length (stands c), few_after c.args.change c.refs_in-refs.result.now fits c.refs_in-refs.ensures.few) in
      let slot : Option Slot = Some (made c) in
      subst (λ s. IsKept s c.begin.new.self.tally.counts c.take.new.self (c.self.inside.used + 1) c.with_first-self-inside.result.items) (sym c.fill_changed.ensures)
      (subst (λ cs. IsKept (set c.self.inside.cells c.in_ok-slot.slot slot) cs c.take.new.self (c.self.inside.used + 1) c.with_first-self-inside.result.items)
      (sym (ap (λ (t : Tally). t.counts) c.begin.ensures.tally))
      (subst (IsKept (set c.self.inside.cells c.in_ok-slot.slot slot) (set c.raise_changed.new.self.tally.counts c.in_ok-slot.slot 1) c.take.new.self (c.self.inside.used + 1))
      (sym (c.with_first-self-inside.ensures ∙ ap (λ r. r ∷ c.self.inside.outside.items) c.new-made.ensures))
      (make_held_kept c.self.inside.cells c.self.inside.ledger.tally.counts c.raise_changed.new.self.tally.counts c.self.inside.free c.take.new.self c.self.inside.used c.self.inside.outside.items
      c.self.invariant.0
      c.in_ok-slot.slot (c.self.inside.births + 1) (made c).node c.in_ok-slot.ensures.slots.0 c.in_ok-slot.ensures.size c.in_ok-slot.ensures.slots.1 c.in_ok-slot.ensures.slots.2
      c.raise_changed.ensures.size
      (λ i. omega (arith, c.raise_changed.ensures.counts i, ap (naming i) (stands c)))
      (new_live c) few (omega (arith, c.requires.births))))),
  new_lends c,
  new_risen c,
)

pub returns-clause-heap : goal.returns-clause-heap
returns-clause-heap c =
    let free = ap (λ (a : Contents). a.heap.free) c.self.view_is in
    let slots = ap (λ (a : Contents). a.heap.slots) c.self.view_is in
    let births = ap (λ (a : Contents). a.heap.births) c.self.view_is in
    let entries : c.refs_in-refs.result.now ≡ refs_of_node (node_at c.args.self.now.heap c.args.from) = c.refs_in-refs.ensures.refs
    ∙ ap refs_of_node (c.node.ensures ∙ ap (λ k. node_of (get_or c.self.inside.cells k None)) c.slot.ensures ∙ ap (λ s. node_of (get_or s (slot_of c.args.from) None)) slots
    ∙ node_seen c.args.self.now.heap c.args.from) in
    ap (λ s. record { slots = s; free = c.take.new.self.slots; births = c.self.inside.births + 1 }) (c.fill_changed.ensures
    ∙ ap (λ s. set s c.in_ok-slot.slot (Some (made c))) slots)
    ∙ ap (λ b. record {
      slots = set c.args.self.now.heap.slots c.in_ok-slot.slot (Some (record { birth = b + 1; node = (made c).node; prev = prev.None }));
      free = c.take.new.self.slots;
      births = b + 1;
    }) births
    ∙ sym (taken_first c.args.self.now.heap (made c).node c.in_ok-slot.slot c.take.new.self.slots (sym free ∙ c.in_ok-slot.ensures.slots.0))
    ∙ ap (λ es. taken c.args.self.now.heap (Branch c.args.bitmap (entries_from (entries_after c.args.change es)))) (lent_are c ∙ entries)

pub returns-clause-noted : goal.returns-clause-noted
returns-clause-noted c =
    let was : Contents = record {
      heap = record { slots = c.self.inside.cells; free = c.self.inside.free.slots; births = c.self.inside.births };
      outside = c.self.inside.outside.items;
      noted = c.self.inside.ledger.tally.noted;
      ticks = c.self.inside.free.ticks + c.self.inside.ledger.tally.ticks;
    } in
    let now : Contents = record {
      heap = record { slots = c.fill_changed.new.self; free = c.take.new.self.slots; births = c.self.inside.births + 1 };
      outside = c.with_first-self-inside.result.items;
      noted = c.begin.new.self.tally.noted;
      ticks = 0;
    } in
    let slot : Slot = made c in
    subst (λ (a : Contents). NotesWaiting a now) c.self.view_is
    (made_notes was now c.self.inside.ledger.tally c.raise_changed.new.self.tally c.begin.new.self.tally c.self.inside.free c.take.new.self c.self.inside.used (c.self.inside.used + 1)
    c.in_ok-slot.slot slot
    c.self.invariant.0 c.in_ok-slot.ensures.slots.0 c.fill_changed.ensures (invariant_of-self-2 c).0 c.raise_changed.ensures.noted refl (ap (λ (t : Tally). t.noted) c.begin.ensures.tally)
    (ap (λ (t : Tally). t.counts) c.begin.ensures.tally)
    (let is = c.self.invariant.0.chained in let least = c.in_ok-slot.ensures.slots.1 in omega (arith, c.raise_changed.ensures.size, c.self.invariant.0.sizes)))

pub returns-clause-stay : goal.returns-clause-stay
returns-clause-stay c q has =
    let was : Contents = record {
      heap = record { slots = c.self.inside.cells; free = c.self.inside.free.slots; births = c.self.inside.births };
      outside = c.self.inside.outside.items;
      noted = c.self.inside.ledger.tally.noted;
      ticks = c.self.inside.free.ticks + c.self.inside.ledger.tally.ticks;
    } in
    let now : Contents = record {
      heap = record { slots = c.fill_changed.new.self; free = c.take.new.self.slots; births = c.self.inside.births + 1 };
      outside = c.with_first-self-inside.result.items;
      noted = c.begin.new.self.tally.noted;
      ticks = 0;
    } in
    let slot : Slot = made c in
    made_stays was now c.self.inside.ledger.tally c.raise_changed.new.self.tally c.begin.new.self.tally c.self.inside.free c.take.new.self c.self.inside.used (c.self.inside.used + 1)
    c.in_ok-slot.slot slot
    c.self.invariant.0 c.in_ok-slot.ensures.slots.0 c.fill_changed.ensures q (subst (λ (a : Contents). IsLive a.heap q) (sym c.self.view_is) has)

pub returns-clause-lives : goal.returns-clause-lives
returns-clause-lives c =
    let was : Contents = record {
      heap = record { slots = c.self.inside.cells; free = c.self.inside.free.slots; births = c.self.inside.births };
      outside = c.self.inside.outside.items;
      noted = c.self.inside.ledger.tally.noted;
      ticks = c.self.inside.free.ticks + c.self.inside.ledger.tally.ticks;
    } in
    let now : Contents = record {
      heap = record { slots = c.fill_changed.new.self; free = c.take.new.self.slots; births = c.self.inside.births + 1 };
      outside = c.with_first-self-inside.result.items;
      noted = c.begin.new.self.tally.noted;
      ticks = 0;
    } in
    let slot : Slot = made c in
    subst (λ r. IsLive now.heap r) (sym c.new-made.ensures)
    (made_lives was now c.self.inside.ledger.tally c.raise_changed.new.self.tally c.begin.new.self.tally c.self.inside.free c.take.new.self c.self.inside.used (c.self.inside.used + 1)
    c.in_ok-slot.slot slot
    c.self.invariant.0 c.in_ok-slot.ensures.slots.0 c.fill_changed.ensures c.in_ok-slot.ensures.slots.1)

pub returns-clause-fresh : goal.returns-clause-fresh
returns-clause-fresh c =
    let was : Contents = record {
      heap = record { slots = c.self.inside.cells; free = c.self.inside.free.slots; births = c.self.inside.births };
      outside = c.self.inside.outside.items;
      noted = c.self.inside.ledger.tally.noted;
      ticks = c.self.inside.free.ticks + c.self.inside.ledger.tally.ticks;
    } in
    let now : Contents = record {
      heap = record { slots = c.fill_changed.new.self; free = c.take.new.self.slots; births = c.self.inside.births + 1 };
      outside = c.with_first-self-inside.result.items;
      noted = c.begin.new.self.tally.noted;
      ticks = 0;
    } in
    let slot : Slot = made c in
    subst (λ r. is_live c.args.self.now.heap r ≡ false) (sym c.new-made.ensures)
    (subst (λ (a : Contents). is_live a.heap (ref_to slot.birth c.in_ok-slot.slot) ≡ false) c.self.view_is
    (made_fresh was now c.self.inside.ledger.tally c.raise_changed.new.self.tally c.begin.new.self.tally c.self.inside.free c.take.new.self c.self.inside.used (c.self.inside.used + 1)
    c.in_ok-slot.slot slot
    c.self.invariant.0 c.in_ok-slot.ensures.slots.0 c.fill_changed.ensures c.in_ok-slot.ensures.slots.1))

pub returns-clause-ticks : goal.returns-clause-ticks
returns-clause-ticks c =
    let fits = fits_lent _ _ c.self.view_is c.args.from c.args.change c.refs_in-refs.result.now
    (c.refs_in-refs.ensures.refs ∙ ap refs_of_node (c.node.ensures ∙ ap (λ k. node_of (get_or c.self.inside.cells k None)) c.slot.ensures)) c.requires.fits in
    let was = ap (λ (a : Contents). a.ticks) c.self.view_is in
    let begun = ap (λ (t : Tally). t.ticks) c.begin.ensures.tally in
    let few = few_after c.args.change c.refs_in-refs.result.now fits c.refs_in-refs.ensures.few in
    let more = c.in_ok-slot.ensures.ticks in
    (omega (arith, was, begun, more, c.raise_changed.ensures.ticks), omega (arith, was, begun, more, c.raise_changed.ensures.ticks, few))
