use Rattle.std.proofs.Common.{List, Option, None, get_or, ap, ◌∙◌}
use Rattle.std.specs.Prelude.{option_map}
use Rattle.slot_arena.specs.declared.nodes.Slot.{Slot}
use Rattle.slot_arena.proofs.Parts.{node_read}
use Rattle.slot_arena.proofs.cells.Cells.stored_node.Goals as goal

pub returns : goal.returns
returns c =
    c.stored.ensures ∙ node_read c.self.inside.births.items c.self.inside.nodes c.self.inside.prevs.items c.self.invariant c.args.slot
    ∙ ap (λ (s : List (Option Slot)). option_map (λ (o : Slot). o.node) (get_or s c.args.slot None)) c.self.view_is
