use Rattle.std.proofs.Common.{List, Option, None, is_some, get_or, ap, ◌∙◌}
use Rattle.std.specs.Prelude.{option_map}
use Rattle.slot_arena.specs.declared.nodes.Slot.{Slot}
use Rattle.slot_arena.proofs.Parts.{is_some-map, node_read, node_shown}
use Rattle.slot_arena.proofs.cells.Cells.node.Goals as goal

pub get-requires : goal.get-requires
get-requires c =
    ap is_some (node_read c.self.inside.births.items c.self.inside.nodes c.self.inside.prevs.items c.self.invariant c.args.slot
    ∙ ap (λ (s : List (Option Slot)). option_map (λ (o : Slot). o.node) (get_or s c.args.slot None)) c.self.view_is)
    ∙ is_some-map (λ (o : Slot). o.node) (get_or c.args.self.now c.args.slot None) ∙ c.requires

pub returns : goal.returns
returns c =
    node_shown (get_or c.args.self.now c.args.slot None) _
    (c.get.ensures ∙ node_read c.self.inside.births.items c.self.inside.nodes c.self.inside.prevs.items c.self.invariant c.args.slot
    ∙ ap (λ (s : List (Option Slot)). option_map (λ (o : Slot). o.node) (get_or s c.args.slot None)) c.self.view_is)
