use Rattle.std.proofs.Common.{List, Option, None, IsSome, is_some, get_or, set, sym, ap, ◌∙◌, subst, arith}
use Rattle.std.specs.Prelude.{option_map}
use Rattle.slot_arena.specs.declared.nodes.Slot.{Slot}
use Rattle.slot_arena.specs.Heaps.{prev_changed}
use Rattle.slot_arena.specs.Cells.{slots_from}
use Rattle.slot_arena.proofs.Parts.{within, used_within, is_some-map, node_read, prev_written, parts_prev}
use Rattle.slot_arena.proofs.cells.Cells.set_prev.Goals as goal

pub index_mut-requires : goal.index_mut-requires
index_mut-requires c = let parts = within c.self.inside.births.items c.self.inside.nodes c.self.inside.prevs.items c.args.slot
    (used_within (slots_from c.self.inside.births.items c.self.inside.nodes c.self.inside.prevs.items) c.args.slot
    (subst (λ (s : List (Option Slot)). IsSome (get_or s c.args.slot None)) (sym c.self.view_is) c.requires)) in omega arith

pub invariant_of-self : goal.invariant_of-self
invariant_of-self c =
    let parts = within c.self.inside.births.items c.self.inside.nodes c.self.inside.prevs.items c.args.slot
    (used_within (slots_from c.self.inside.births.items c.self.inside.nodes c.self.inside.prevs.items) c.args.slot
    (subst (λ (s : List (Option Slot)). IsSome (get_or s c.args.slot None)) (sym c.self.view_is) c.requires)) in
    parts_prev c.self.inside.births.items c.self.inside.nodes c.self.inside.prevs.items c.self.invariant c.args.slot parts.0 c.args.prev
    (ap is_some (node_read c.self.inside.births.items c.self.inside.nodes c.self.inside.prevs.items c.self.invariant c.args.slot
    ∙ ap (λ (s : List (Option Slot)). option_map (λ (o : Slot). o.node) (get_or s c.args.slot None)) c.self.view_is)
    ∙ is_some-map (λ (o : Slot). o.node) (get_or c.args.self.now c.args.slot None) ∙ c.requires)

pub returns : goal.returns
returns c =
    prev_written c.self.inside.births.items c.self.inside.nodes c.self.inside.prevs.items c.args.slot c.args.prev
    ∙ ap (λ (s : List (Option Slot)). set s c.args.slot (option_map (prev_changed c.args.prev) (get_or s c.args.slot None))) c.self.view_is
