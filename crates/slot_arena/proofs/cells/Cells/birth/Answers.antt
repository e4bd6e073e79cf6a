use Rattle.std.proofs.Common.{List, Option, None, length, get_or, sym, ap, ◌∙◌, arith}
use Rattle.std.proofs.lemmas.List.{get_or_read}
use Rattle.slot_arena.specs.declared.nodes.Slot.{Slot}
use Rattle.slot_arena.specs.Cells.{birth_of_slot}
use Rattle.slot_arena.proofs.Parts.{within, birth_read, birth_none}
use Rattle.slot_arena.proofs.cells.Cells.birth.Goals as goal

pub index-requires : goal.index-requires
index-requires c = let parts = within c.self.inside.births.items c.self.inside.nodes c.self.inside.prevs.items c.args.slot (omega (arith, ap length c.self.view_is)) in omega arith

pub returns-clause-birth : goal.returns-clause-birth
returns-clause-birth c =
    let parts = within c.self.inside.births.items c.self.inside.nodes c.self.inside.prevs.items c.args.slot (omega (arith, ap length c.self.view_is)) in
    get_or_read c.self.inside.births.items c.args.slot c.index.result.now parts.0 c.index.ensures 0
    ∙ birth_read c.self.inside.births.items c.self.inside.nodes c.self.inside.prevs.items c.self.invariant c.args.slot
    ∙ ap (λ (s : List (Option Slot)). birth_of_slot (get_or s c.args.slot None)) c.self.view_is

pub returns-clause-unused : goal.returns-clause-unused
returns-clause-unused c zero_birth =
    let parts = within c.self.inside.births.items c.self.inside.nodes c.self.inside.prevs.items c.args.slot (omega (arith, ap length c.self.view_is)) in
    sym (ap (λ (s : List (Option Slot)). get_or s c.args.slot None) c.self.view_is)
    ∙ birth_none c.self.inside.births.items c.self.inside.nodes c.self.inside.prevs.items c.self.invariant c.args.slot
    (sym (get_or_read c.self.inside.births.items c.args.slot c.index.result.now parts.0 c.index.ensures 0) ∙ zero_birth)
