use Rattle.std.proofs.Common.{List, Option, None, IsSome, get_or, sym, ap, ◌∙◌, subst, arith}
use Rattle.std.proofs.lemmas.List.{get_or_read}
use Rattle.slot_arena.specs.declared.nodes.Prev.TheVariants as prev
use Rattle.slot_arena.specs.declared.nodes.Slot.{Slot}
use Rattle.slot_arena.specs.Heaps.{prev_of}
use Rattle.slot_arena.specs.Cells.{slots_from}
use Rattle.slot_arena.proofs.Parts.{within, used_within, prev_read}
use Rattle.slot_arena.proofs.cells.Cells.prev.Goals as goal

pub index-requires : goal.index-requires
index-requires c = let parts = within c.self.inside.births.items c.self.inside.nodes c.self.inside.prevs.items c.args.slot
    (used_within (slots_from c.self.inside.births.items c.self.inside.nodes c.self.inside.prevs.items) c.args.slot
    (subst (λ (s : List (Option Slot)). IsSome (get_or s c.args.slot None)) (sym c.self.view_is) c.requires)) in omega arith

pub returns : goal.returns
returns c =
    let parts = within c.self.inside.births.items c.self.inside.nodes c.self.inside.prevs.items c.args.slot
    (used_within (slots_from c.self.inside.births.items c.self.inside.nodes c.self.inside.prevs.items) c.args.slot
    (subst (λ (s : List (Option Slot)). IsSome (get_or s c.args.slot None)) (sym c.self.view_is) c.requires)) in
    get_or_read c.self.inside.prevs.items c.args.slot c.index.result.now parts.2 c.index.ensures prev.None
    ∙ prev_read c.self.inside.births.items c.self.inside.nodes c.self.inside.prevs.items c.self.invariant c.args.slot
    ∙ ap (λ (s : List (Option Slot)). prev_of (get_or s c.args.slot None)) c.self.view_is
