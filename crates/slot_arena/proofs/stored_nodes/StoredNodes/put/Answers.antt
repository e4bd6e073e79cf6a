use Rattle.std.proofs.Common.{List, Option, Some, set, ap, ◌∙◌}
use Rattle.slot_arena.specs.declared.nodes.Node.{Node}
use Rattle.slot_arena.proofs.Pools.{can_put, cell_within, free_cell, placed_nodes, placed_rows}
use Rattle.slot_arena.proofs.stored_nodes.StoredNodes.put.Goals as goal

pub place-requires : goal.place-requires
place-requires c =
    let within = cell_within c.self.inside.rows.rows c.self.inside.cells.items c.args.self.now c.args.slot c.self.view_is c.requires.within in
    can_put c.self.inside.cells.items c.self.inside.rows c.self.invariant c.args.slot within
    (free_cell c.self.inside.rows.rows c.self.inside.cells.items c.args.self.now c.args.slot c.self.view_is within c.requires.free)

pub invariant_of-self : goal.invariant_of-self
invariant_of-self c =
    let within = cell_within c.self.inside.rows.rows c.self.inside.cells.items c.args.self.now c.args.slot c.self.view_is c.requires.within in
    placed_rows c.self.inside.cells.items c.self.inside.rows c.self.invariant c.args.slot within
    (free_cell c.self.inside.rows.rows c.self.inside.cells.items c.args.self.now c.args.slot c.self.view_is within c.requires.free)
    c.args.node c.place.result c.place.new.rows c.place.ensures

pub returns : goal.returns
returns c =
    let within = cell_within c.self.inside.rows.rows c.self.inside.cells.items c.args.self.now c.args.slot c.self.view_is c.requires.within in
    placed_nodes c.self.inside.cells.items c.self.inside.rows c.self.invariant c.args.slot within
    (free_cell c.self.inside.rows.rows c.self.inside.cells.items c.args.self.now c.args.slot c.self.view_is within c.requires.free)
    c.args.node c.place.result c.place.new.rows c.place.ensures
    ∙ ap (λ (ns : List (Option Node)). set ns c.args.slot (Some c.args.node)) c.self.view_is
