use Rattle.std.proofs.Common.{List, Option, Some, set, refl, ap, ◌∙◌}
use Rattle.slot_arena.specs.declared.nodes.Node.{Node}
use Rattle.slot_arena.specs.declared.nodes.Node.TheVariants.{Branch}
use Rattle.slot_arena.specs.declared.stored_nodes.Cell.TheVariants as cell
use Rattle.slot_arena.specs.Entries.{entries_after}
use Rattle.slot_arena.specs.Heaps.{entries_from}
use Rattle.slot_arena.proofs.Pools.{can_put, cell_within, free_cell, placed_nodes, placed_rows}
use Rattle.slot_arena.proofs.stored_nodes.StoredNodes.put_changed.Goals as goal

pub put_changed-row-requires-clause-room : goal.put_changed-row-requires-clause-room
put_changed-row-requires-clause-room c =
    let within = cell_within c.self.inside.rows.rows c.self.inside.cells.items c.args.self.now c.args.slot c.self.view_is c.requires.within in
    can_put c.self.inside.cells.items c.self.inside.rows c.self.invariant c.args.slot within
    (free_cell c.self.inside.rows.rows c.self.inside.cells.items c.args.self.now c.args.slot c.self.view_is within c.requires.free)

pub invariant_of-self : goal.invariant_of-self
invariant_of-self c =
    let within = cell_within c.self.inside.rows.rows c.self.inside.cells.items c.args.self.now c.args.slot c.self.view_is c.requires.within in
    let node : Node = Branch c.args.bitmap (entries_from (entries_after c.args.change.now c.args.refs.now)) in
    placed_rows c.self.inside.cells.items c.self.inside.rows c.self.invariant c.args.slot within
    (free_cell c.self.inside.rows.rows c.self.inside.cells.items c.args.self.now c.args.slot c.self.view_is within c.requires.free)
    node (cell.Branch c.args.bitmap c.put_changed-row.result) c.put_changed-row.new.self (c.put_changed-row.result, refl, c.put_changed-row.ensures)

pub returns : goal.returns
returns c =
    let within = cell_within c.self.inside.rows.rows c.self.inside.cells.items c.args.self.now c.args.slot c.self.view_is c.requires.within in
    let node : Node = Branch c.args.bitmap (entries_from (entries_after c.args.change.now c.args.refs.now)) in
    placed_nodes c.self.inside.cells.items c.self.inside.rows c.self.invariant c.args.slot within
    (free_cell c.self.inside.rows.rows c.self.inside.cells.items c.args.self.now c.args.slot c.self.view_is within c.requires.free)
    node (cell.Branch c.args.bitmap c.put_changed-row.result) c.put_changed-row.new.self (c.put_changed-row.result, refl, c.put_changed-row.ensures)
    ∙ ap (λ (ns : List (Option Node)). set ns c.args.slot (Some node)) c.self.view_is
