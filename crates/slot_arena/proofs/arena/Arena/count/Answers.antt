use Rattle.std.proofs.Common.{◌≡◌, true, slice_index, sym, ap, ◌∙◌, arith}
use Rattle.slot_arena.specs.Arenas.{Contents}
use Rattle.slot_arena.specs.Kept.{live, found}
use Rattle.slot_arena.proofs.Live.{live_within}
use Rattle.slot_arena.proofs.Exact.{count_found, exact_live}
use Rattle.slot_arena.proofs.Reading.{live_seen}
use Rattle.slot_arena.proofs.arena.Arena.count.Goals as goal

pub count-requires : goal.count-requires
count-requires c =
    let slots = ap (λ (a : Contents). a.heap.slots) c.self.view_is in
    let has : live c.self.inside.cells c.args.at ≡ true = ap (λ s. live s c.args.at) slots ∙ live_seen c.args.self.now.heap c.args.at c.requires in
    let within = live_within c.self.inside.cells c.args.at has in
    let sizes = c.self.invariant.0.sizes in
    omega arith

pub returns-clause-count : goal.returns-clause-count
returns-clause-count c =
    let slots = ap (λ (a : Contents). a.heap.slots) c.self.view_is in
    let has : live c.self.inside.cells c.args.at ≡ true = ap (λ s. live s c.args.at) slots ∙ live_seen c.args.self.now.heap c.args.at c.requires in
    c.count.ensures.count ∙ ap (slice_index c.self.inside.ledger.tally.counts) c.slot.ensures
    ∙ sym (exact_live c.self.inside.cells c.self.inside.ledger.tally.counts c.self.inside.outside.items c.self.invariant.0.exact c.args.at has)
    ∙ ap (λ (a : Contents). found a.heap.slots a.outside c.args.at) c.self.view_is ∙ sym (count_found c.args.self.now.heap c.args.self.now.outside c.args.at)
