use Rattle.std.proofs.Common.{List, Option, None, length, set, refl, sym, ap, ◌∙◌, subst, arith}
use Rattle.slot_arena.specs.declared.nodes.Node.{Node}
use Rattle.slot_arena.specs.declared.nodes.Prev.TheVariants as prev
use Rattle.slot_arena.specs.declared.nodes.Slot.{Slot}
use Rattle.slot_arena.specs.Cells.{AreParts, slots_from}
use Rattle.slot_arena.proofs.Parts.{within, cleared, parts_set}
use Rattle.slot_arena.proofs.cells.Cells.clear.Goals as goal

pub index_mut-requires : goal.index_mut-requires
index_mut-requires c = let parts = within c.self.inside.births.items c.self.inside.nodes c.self.inside.prevs.items c.args.slot (omega (arith, ap length c.self.view_is)) in omega arith

pub clear-requires : goal.clear-requires
clear-requires c = let parts = within c.self.inside.births.items c.self.inside.nodes c.self.inside.prevs.items c.args.slot (omega (arith, ap length c.self.view_is)) in omega arith

pub index_mut-requires-2 : goal.index_mut-requires-2
index_mut-requires-2 c = let parts = within c.self.inside.births.items c.self.inside.nodes c.self.inside.prevs.items c.args.slot (omega (arith, ap length c.self.view_is)) in omega arith

pub invariant_of-self : goal.invariant_of-self
invariant_of-self c =
    let parts = within c.self.inside.births.items c.self.inside.nodes c.self.inside.prevs.items c.args.slot (omega (arith, ap length c.self.view_is)) in
    subst (λ (ns : List (Option Node)). AreParts (set c.self.inside.births.items c.args.slot 0) ns (set c.self.inside.prevs.items c.args.slot prev.None)) (sym c.clear.ensures)
    (parts_set c.self.inside.births.items c.self.inside.nodes c.self.inside.prevs.items c.self.invariant c.args.slot parts.0 0 None prev.None (refl, refl))

pub returns : goal.returns
returns c =
    ap (λ (ns : List (Option Node)). slots_from (set c.self.inside.births.items c.args.slot 0) ns (set c.self.inside.prevs.items c.args.slot prev.None)) c.clear.ensures
    ∙ cleared c.self.inside.births.items c.self.inside.nodes c.self.inside.prevs.items c.args.slot
    ∙ ap (λ (s : List (Option Slot)). set s c.args.slot None) c.self.view_is
