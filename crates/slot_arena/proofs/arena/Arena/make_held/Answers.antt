use Rattle.std.proofs.Common.{◌≡◌, ◌+◌, ◌<◌, ◌∷◌, true, false, length, set, slice_index, All, Some, refl, sym, ap, ◌∙◌, subst, inl, arith}
use Rattle.slot_arena.specs.Refs.{ref_to, slot_of}
use Rattle.slot_arena.specs.Heaps.{Heap, refs_of_node}
use Rattle.slot_arena.specs.Tallies.{Tally, naming}
use Rattle.slot_arena.specs.Arenas.{Contents, IsLive, NotesWaiting, is_live}
use Rattle.slot_arena.specs.Kept.{live, IsKept, IsRising}
use Rattle.slot_arena.proofs.Live.{all_within}
use Rattle.slot_arena.proofs.Changed.{counts_small}
use Rattle.slot_arena.proofs.Reading.{all_seen, taken_none, taken_first}
use Rattle.slot_arena.proofs.Makes.{make_held_kept, first_unused}
use Rattle.slot_arena.proofs.Making.{made_fresh, made_lives, made_notes, made_stays}
use Rattle.slot_arena.specs.declared.nodes.Slot.{Slot}
use Rattle.slot_arena.specs.declared.nodes.Prev.TheVariants as prev
use Rattle.slot_arena.specs.Loans.{IsLending}
use Rattle.slot_arena.proofs.Rising.{rising_made}
use Rattle.slot_arena.proofs.Lenders.{first_none, lending_filled, lending_kept}
use Rattle.slot_arena.proofs.arena.Arena.make_held.Goals as goal

pub returns-in_err-slot-clause-heap : goal.returns-in_err-slot-clause-heap
returns-in_err-slot-clause-heap c =
    let free = ap (λ (a : Contents). a.heap.free) c.self.view_is in
    let heap = ap (λ (a : Contents). a.heap) c.self.view_is in
    ap (λ f. record { slots = c.self.inside.cells; free = f; births = c.self.inside.births }) (c.in_err-slot.ensures.slots.1 ∙ sym c.in_err-slot.ensures.slots.0) ∙ heap
    ∙ sym (taken_none c.args.self.now.heap c.args.node (sym free ∙ c.in_err-slot.ensures.slots.0))

pub raise_all-requires-clause-within : goal.raise_all-requires-clause-within
raise_all-requires-clause-within c =
    let slots = ap (λ (a : Contents). a.heap.slots) c.self.view_is in
    let all : All (λ q. live c.self.inside.cells q ≡ true) (refs_of_node c.args.node) =
    subst (λ s. All (λ q. live s q ≡ true) (refs_of_node c.args.node)) (sym slots) (all_seen c.args.self.now.heap (refs_of_node c.args.node) c.requires.live) in
    subst (λ rs. All (λ r. slot_of r < length c.self.inside.ledger.tally.counts) rs) (sym c.refs_of.ensures.refs)
    (all_within c.self.inside.cells (length c.self.inside.ledger.tally.counts) (refs_of_node c.args.node) (sym c.self.invariant.0.sizes) all)

pub raise_all-requires-clause-room : goal.raise_all-requires-clause-room
raise_all-requires-clause-room c slot =
    omega (
      arith,
      c.refs_of.ensures.few,
      counts_small c.self.inside.cells c.self.inside.ledger.tally.counts c.self.inside.free c.self.inside.used c.self.inside.outside.items c.self.invariant.0 slot,
    )

pub begin-requires-clause-none : goal.begin-requires-clause-none
begin-requires-clause-none c =
    let slots = ap (λ (a : Contents). a.heap.slots) c.self.view_is in
    let all : All (λ q. live c.self.inside.cells q ≡ true) (refs_of_node c.args.node) =
    subst (λ s. All (λ q. live s q ≡ true) (refs_of_node c.args.node)) (sym slots) (all_seen c.args.self.now.heap (refs_of_node c.args.node) c.requires.live) in
    first_none c.self.inside.cells c.self.inside.ledger.tally.counts c.raise_all.new.self.tally.counts c.self.inside.free c.self.inside.used c.self.inside.outside.items c.self.invariant.0
    c.in_ok-slot.slot c.take.new.self.slots c.in_ok-slot.ensures.slots.0 (refs_of_node c.args.node) all
    (c.raise_all.ensures.counts c.in_ok-slot.slot
    ∙ ap (λ rs. slice_index c.self.inside.ledger.tally.counts c.in_ok-slot.slot + naming c.in_ok-slot.slot rs) c.refs_of.ensures.refs)

pub fill-requires-clause-free : goal.fill-requires-clause-free
fill-requires-clause-free c =
    first_unused c.self.inside.cells c.self.inside.ledger.tally.counts c.self.inside.free c.self.inside.used c.self.inside.outside.items c.self.invariant.0 c.in_ok-slot.slot c.take.new.self.slots
    c.in_ok-slot.ensures.slots.0

pub invariant_of-self-2 : goal.invariant_of-self-2
invariant_of-self-2 c = (
  let slots = ap (λ (a : Contents). a.heap.slots) c.self.view_is in
      let births = ap (λ (a : Contents). a.heap.births) c.self.view_is in
      let all : All (λ q. live c.self.inside.cells q ≡ true) (refs_of_node c.args.node) =
      subst (λ s. All (λ q. live s q ≡ true) (refs_of_node c.args.node)) (sym slots) (all_seen c.args.self.now.heap (refs_of_node c.args.node) c.requires.live) in
      subst (λ s. IsKept s c.begin.new.self.tally.counts c.take.new.self (c.self.inside.used + 1) c.with_first-self-inside.result.items) (sym c.fill.ensures)
      (subst (λ cs. IsKept (set c.self.inside.cells c.in_ok-slot.slot (Some (record { birth = c.self.inside.births + 1; node = c.args.node; prev = prev.None }))) cs c.take.new.self
      (c.self.inside.used + 1) c.with_first-self-inside.result.items) (sym (ap (λ (t : Tally). t.counts) c.begin.ensures.tally))
      (subst (IsKept (set c.self.inside.cells c.in_ok-slot.slot (Some (record { birth = c.self.inside.births + 1; node = c.args.node; prev = prev.None })))
      (set c.raise_all.new.self.tally.counts c.in_ok-slot.slot 1) c.take.new.self (c.self.inside.used + 1))
      (sym (c.with_first-self-inside.ensures ∙ ap (λ r. r ∷ c.self.inside.outside.items) c.new-made.ensures))
      (make_held_kept c.self.inside.cells c.self.inside.ledger.tally.counts c.raise_all.new.self.tally.counts c.self.inside.free c.take.new.self c.self.inside.used c.self.inside.outside.items
      c.self.invariant.0
      c.in_ok-slot.slot (c.self.inside.births + 1) c.args.node c.in_ok-slot.ensures.slots.0 c.in_ok-slot.ensures.size c.in_ok-slot.ensures.slots.1 c.in_ok-slot.ensures.slots.2
      c.raise_all.ensures.size
      (λ i. omega (arith, c.raise_all.ensures.counts i, ap (naming i) c.refs_of.ensures.refs))
      all (omega (arith, c.refs_of.ensures.few, ap length c.refs_of.ensures.refs)) (omega (arith, c.requires.births))))),
  subst (λ s. IsLending s c.begin.new.self.loan) (sym c.fill.ensures)
      (lending_filled c.self.inside.cells c.begin.new.self.loan c.in_ok-slot.slot (Some (record { birth = c.self.inside.births + 1; node = c.args.node; prev = prev.None }))
      (first_unused c.self.inside.cells c.self.inside.ledger.tally.counts c.self.inside.free c.self.inside.used c.self.inside.outside.items c.self.invariant.0 c.in_ok-slot.slot c.take.new.self.slots
      c.in_ok-slot.ensures.slots.0)
      (lending_kept c.self.inside.cells c.self.inside.ledger.loan c.begin.new.self.loan (inl (c.begin.ensures.loan ∙ c.raise_all.ensures.loan)) c.self.invariant.1)),
  let slots = ap (λ (a : Contents). a.heap.slots) c.self.view_is in
      let within : c.in_ok-slot.slot < length c.self.inside.cells = let is = c.self.invariant.0.chained in let least = c.in_ok-slot.ensures.slots.1 in omega arith in
      subst (λ s. IsRising s (c.self.inside.births + 1)) (sym c.fill.ensures)
      (rising_made c.self.inside.cells c.self.inside.births c.self.invariant.2 c.in_ok-slot.slot c.args.node within
      (subst (λ s. All (λ q. live s q ≡ true) (refs_of_node c.args.node)) (sym slots) (all_seen c.args.self.now.heap (refs_of_node c.args.node) c.requires.live))),
)

pub returns-clause-heap : goal.returns-clause-heap
returns-clause-heap c =
    let free = ap (λ (a : Contents). a.heap.free) c.self.view_is in
    let slots = ap (λ (a : Contents). a.heap.slots) c.self.view_is in
    let births = ap (λ (a : Contents). a.heap.births) c.self.view_is in
    ap (λ s. record { slots = s; free = c.take.new.self.slots; births = c.self.inside.births + 1 }) (c.fill.ensures
    ∙ ap (λ s. set s c.in_ok-slot.slot (Some (record { birth = c.self.inside.births + 1; node = c.args.node; prev = prev.None }))) slots)
    ∙ ap (λ b. record {
      slots = set c.args.self.now.heap.slots c.in_ok-slot.slot (Some (record { birth = b + 1; node = c.args.node; prev = prev.None }));
      free = c.take.new.self.slots;
      births = b + 1;
    }) births
    ∙ sym (taken_first c.args.self.now.heap c.args.node c.in_ok-slot.slot c.take.new.self.slots (sym free ∙ c.in_ok-slot.ensures.slots.0))

pub returns-clause-noted : goal.returns-clause-noted
returns-clause-noted c =
    let was : Contents = record {
      heap = record { slots = c.self.inside.cells; free = c.self.inside.free.slots; births = c.self.inside.births };
      outside = c.self.inside.outside.items;
      noted = c.self.inside.ledger.tally.noted;
      ticks = c.self.inside.free.ticks + c.self.inside.ledger.tally.ticks;
    } in
    let now : Contents = record {
      heap = record { slots = c.fill.new.self; free = c.take.new.self.slots; births = c.self.inside.births + 1 };
      outside = c.with_first-self-inside.result.items;
      noted = c.begin.new.self.tally.noted;
      ticks = 0;
    } in
    let slot : Slot = record { birth = c.self.inside.births + 1; node = c.args.node; prev = prev.None } in
    subst (λ (a : Contents). NotesWaiting a now) c.self.view_is
    (made_notes was now c.self.inside.ledger.tally c.raise_all.new.self.tally c.begin.new.self.tally c.self.inside.free c.take.new.self c.self.inside.used (c.self.inside.used + 1) c.in_ok-slot.slot
    slot
    c.self.invariant.0 c.in_ok-slot.ensures.slots.0 c.fill.ensures (invariant_of-self-2 c).0 c.raise_all.ensures.noted refl (ap (λ (t : Tally). t.noted) c.begin.ensures.tally)
    (ap (λ (t : Tally). t.counts) c.begin.ensures.tally)
    (let is = c.self.invariant.0.chained in let least = c.in_ok-slot.ensures.slots.1 in omega (arith, c.raise_all.ensures.size, c.self.invariant.0.sizes)))

pub returns-clause-stay : goal.returns-clause-stay
returns-clause-stay c q has =
    let was : Contents = record {
      heap = record { slots = c.self.inside.cells; free = c.self.inside.free.slots; births = c.self.inside.births };
      outside = c.self.inside.outside.items;
      noted = c.self.inside.ledger.tally.noted;
      ticks = c.self.inside.free.ticks + c.self.inside.ledger.tally.ticks;
    } in
    let now : Contents = record {
      heap = record { slots = c.fill.new.self; free = c.take.new.self.slots; births = c.self.inside.births + 1 };
      outside = c.with_first-self-inside.result.items;
      noted = c.begin.new.self.tally.noted;
      ticks = 0;
    } in
    let slot : Slot = record { birth = c.self.inside.births + 1; node = c.args.node; prev = prev.None } in
    made_stays was now c.self.inside.ledger.tally c.raise_all.new.self.tally c.begin.new.self.tally c.self.inside.free c.take.new.self c.self.inside.used (c.self.inside.used + 1) c.in_ok-slot.slot
    slot
    c.self.invariant.0 c.in_ok-slot.ensures.slots.0 c.fill.ensures q (subst (λ (a : Contents). IsLive a.heap q) (sym c.self.view_is) has)

pub returns-in_err-slot-clause-stay : goal.returns-in_err-slot-clause-stay
returns-in_err-slot-clause-stay c q has = subst (λ (h : Heap).
    IsLive h q) (sym (returns-in_err-slot-clause-heap c ∙ taken_none c.args.self.now.heap c.args.node (sym (ap (λ (a : Contents). a.heap.free) c.self.view_is) ∙ c.in_err-slot.ensures.slots.0))) has

pub returns-clause-lives : goal.returns-clause-lives
returns-clause-lives c =
    let was : Contents = record {
      heap = record { slots = c.self.inside.cells; free = c.self.inside.free.slots; births = c.self.inside.births };
      outside = c.self.inside.outside.items;
      noted = c.self.inside.ledger.tally.noted;
      ticks = c.self.inside.free.ticks + c.self.inside.ledger.tally.ticks;
    } in
    let now : Contents = record {
      heap = record { slots = c.fill.new.self; free = c.take.new.self.slots; births = c.self.inside.births + 1 };
      outside = c.with_first-self-inside.result.items;
      noted = c.begin.new.self.tally.noted;
      ticks = 0;
    } in
    let slot : Slot = record { birth = c.self.inside.births + 1; node = c.args.node; prev = prev.None } in
    subst (λ r. IsLive now.heap r) (sym c.new-made.ensures)
    (made_lives was now c.self.inside.ledger.tally c.raise_all.new.self.tally c.begin.new.self.tally c.self.inside.free c.take.new.self c.self.inside.used (c.self.inside.used + 1) c.in_ok-slot.slot
    slot
    c.self.invariant.0 c.in_ok-slot.ensures.slots.0 c.fill.ensures c.in_ok-slot.ensures.slots.1)

pub returns-clause-fresh : goal.returns-clause-fresh
returns-clause-fresh c =
    let was : Contents = record {
      heap = record { slots = c.self.inside.cells; free = c.self.inside.free.slots; births = c.self.inside.births };
      outside = c.self.inside.outside.items;
      noted = c.self.inside.ledger.tally.noted;
      ticks = c.self.inside.free.ticks + c.self.inside.ledger.tally.ticks;
    } in
    let now : Contents = record {
      heap = record { slots = c.fill.new.self; free = c.take.new.self.slots; births = c.self.inside.births + 1 };
      outside = c.with_first-self-inside.result.items;
      noted = c.begin.new.self.tally.noted;
      ticks = 0;
    } in
    let slot : Slot = record { birth = c.self.inside.births + 1; node = c.args.node; prev = prev.None } in
    subst (λ r. is_live c.args.self.now.heap r ≡ false) (sym c.new-made.ensures)
    (subst (λ (a : Contents). is_live a.heap (ref_to slot.birth c.in_ok-slot.slot) ≡ false) c.self.view_is
    (made_fresh was now c.self.inside.ledger.tally c.raise_all.new.self.tally c.begin.new.self.tally c.self.inside.free c.take.new.self c.self.inside.used (c.self.inside.used + 1)
    c.in_ok-slot.slot slot
    c.self.invariant.0 c.in_ok-slot.ensures.slots.0 c.fill.ensures c.in_ok-slot.ensures.slots.1))
