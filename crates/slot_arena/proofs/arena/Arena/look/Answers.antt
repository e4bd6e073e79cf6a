use Rattle.std.proofs.Common.{◌≡◌, true, get_or, None, is_some, sym, ap, ◌∙◌, subst}
use Rattle.slot_arena.specs.Refs.{slot_of}
use Rattle.slot_arena.specs.Heaps.{node_of}
use Rattle.slot_arena.specs.Arenas.{Contents}
use Rattle.slot_arena.specs.Kept.{live}
use Rattle.slot_arena.proofs.Reading.{live_seen, used_seen, node_seen}
use Rattle.slot_arena.proofs.arena.Arena.look.Goals as goal

pub node-requires : goal.node-requires
node-requires c =
    let slots = ap (λ (a : Contents). a.heap.slots) c.self.view_is in
    let has : live c.self.inside.cells c.args.at ≡ true = ap (λ s. live s c.args.at) slots ∙ live_seen c.args.self.now.heap c.args.at c.requires in
    subst (λ k. is_some (get_or c.self.inside.cells k None) ≡ true) (sym c.slot.ensures) (used_seen c.self.inside.cells c.args.at has)

pub returns : goal.returns
returns c =
    let slots = ap (λ (a : Contents). a.heap.slots) c.self.view_is in
    c.node.ensures ∙ ap (λ k. node_of (get_or c.self.inside.cells k None)) c.slot.ensures
    ∙ ap (λ s. node_of (get_or s (slot_of c.args.at) None)) slots ∙ node_seen c.args.self.now.heap c.args.at
