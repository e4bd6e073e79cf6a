use Rattle.std.proofs.Common.{◌≡◌, ◌++◌, true, length, get_or, All, None, is_some, sym, ap, ◌∙◌, subst, arith}
use Rattle.slot_arena.specs.declared.nodes.Node.TheVariants.{Branch}
use Rattle.slot_arena.specs.Refs.{slot_of}
use Rattle.slot_arena.specs.Heaps.{entries_from, node_at, node_of, refs_of_node, taken}
use Rattle.slot_arena.specs.Arenas.{Contents}
use Rattle.slot_arena.specs.Entries.{entries_after}
use Rattle.slot_arena.specs.Kept.{live}
use Rattle.slot_arena.proofs.Reading.{live_inside, live_shown, node_seen, slot_seen}
use Rattle.slot_arena.proofs.Staying.{changed_live, few_parts, fits_lent}
use Rattle.slot_arena.proofs.arena.Arena.make_joined.Goals as goal

pub node-requires : goal.node-requires
node-requires c =
    let has = live_inside _ _ c.self.view_is c.args.from c.requires.from_live in
    subst (λ k. is_some (get_or c.self.inside.cells k None) ≡ true) (sym c.slot.ensures) (ap is_some (slot_seen c.self.inside.cells c.args.from has).1)

pub staying-requires : goal.staying-requires
staying-requires c =
    fits_lent _ _ c.self.view_is c.args.from c.args.change c.refs_in.result.now
    (c.refs_in.ensures.refs ∙ ap refs_of_node (c.node.ensures ∙ ap (λ k. node_of (get_or c.self.inside.cells k None)) c.slot.ensures)) c.requires.fits

pub joined-entries-requires : goal.joined-entries-requires
joined-entries-requires c =
    let fits = fits_lent _ _ c.self.view_is c.args.from c.args.change c.refs_in.result.now
    (c.refs_in.ensures.refs ∙ ap refs_of_node (c.node.ensures ∙ ap (λ k. node_of (get_or c.self.inside.cells k None)) c.slot.ensures)) c.requires.fits in
    omega (arith, few_parts c.args.change c.refs_in.result.now c.staying.result.0.now c.staying.result.1.now fits c.staying.ensures c.refs_in.ensures.few, ap length c.coming.ensures)

pub make_held-requires-clause-live : goal.make_held-requires-clause-live
make_held-requires-clause-live c k d within =
    let slots = ap (λ (a : Contents). a.heap.slots) c.self.view_is in
    let entries = c.refs_in.ensures.refs ∙ ap refs_of_node (c.node.ensures ∙ ap (λ i. node_of (get_or c.self.inside.cells i None)) c.slot.ensures) in
    let stands : c.joined-entries.result.items ≡ entries_after c.args.change c.refs_in.result.now = c.joined-entries.ensures.all
    ∙ ap (λ middle. c.staying.result.0.now ++ middle ++ c.staying.result.1.now) c.coming.ensures ∙ c.staying.ensures in
    let all : All (λ q. live c.self.inside.cells q ≡ true) c.joined-entries.result.items = subst (λ rs. All (λ q. live c.self.inside.cells q ≡ true) rs) (sym stands)
    (changed_live _ _ c.self.view_is c.self.inside.ledger.tally.counts c.self.inside.free c.self.inside.used c.self.invariant.0 c.args.from
    (live_inside _ _ c.self.view_is c.args.from c.requires.from_live) c.refs_in.result.now entries c.args.change c.requires.live) in
    live_shown c.args.self.now.heap (get_or c.joined-entries.result.items k d) (sym (ap (λ s. live s (get_or c.joined-entries.result.items k d)) slots) ∙ all k d within)

pub returns-clause-heap : goal.returns-clause-heap
returns-clause-heap c =
    let slots = ap (λ (a : Contents). a.heap.slots) c.self.view_is in
    let entries : c.refs_in.result.now ≡ refs_of_node (node_at c.args.self.now.heap c.args.from) = c.refs_in.ensures.refs
    ∙ ap refs_of_node (c.node.ensures ∙ ap (λ k. node_of (get_or c.self.inside.cells k None)) c.slot.ensures ∙ ap (λ s. node_of (get_or s (slot_of c.args.from) None)) slots
    ∙ node_seen c.args.self.now.heap c.args.from) in
    c.make_held.ensures.heap
    ∙ ap (λ es. taken c.args.self.now.heap (Branch c.args.bitmap es)) (c.joined-entries.ensures.entries
    ∙ ap (λ middle. entries_from (c.staying.result.0.now ++ middle ++ c.staying.result.1.now)) c.coming.ensures ∙ ap entries_from c.staying.ensures
    ∙ ap (λ es. entries_from (entries_after c.args.change es)) entries)
