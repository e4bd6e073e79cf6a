use Rattle.std.proofs.Common.{List, Option, None, length, get_or, set, sym, ap, ◌∙◌, subst, arith}
use Rattle.std.specs.Prelude.{option_map}
use Rattle.slot_arena.specs.declared.nodes.Node.{Node}
use Rattle.slot_arena.specs.declared.nodes.Slot.{Slot}
use Rattle.slot_arena.specs.Heaps.{main_changed}
use Rattle.slot_arena.specs.Cells.{AreParts, slots_from}
use Rattle.slot_arena.proofs.Parts.{within, main_written, parts_main}
use Rattle.slot_arena.proofs.cells.Cells.set_main.Goals as goal

pub set_main-requires : goal.set_main-requires
set_main-requires c = let parts = within c.self.inside.births.items c.self.inside.nodes c.self.inside.prevs.items c.args.slot (omega (arith, ap length c.self.view_is)) in omega arith

pub invariant_of-self : goal.invariant_of-self
invariant_of-self c =
    let parts = within c.self.inside.births.items c.self.inside.nodes c.self.inside.prevs.items c.args.slot (omega (arith, ap length c.self.view_is)) in
    subst (λ (ns : List (Option Node)). AreParts c.self.inside.births.items ns c.self.inside.prevs.items) (sym c.set_main.ensures)
    (parts_main c.self.inside.births.items c.self.inside.nodes c.self.inside.prevs.items c.self.invariant c.args.slot parts.0 c.args.main)

pub returns : goal.returns
returns c =
    ap (λ (ns : List (Option Node)). slots_from c.self.inside.births.items ns c.self.inside.prevs.items) c.set_main.ensures
    ∙ main_written c.self.inside.births.items c.self.inside.nodes c.self.inside.prevs.items c.args.slot c.args.main
    ∙ ap (λ (s : List (Option Slot)). set s c.args.slot (option_map (main_changed c.args.main) (get_or s c.args.slot None))) c.self.view_is
