use Rattle.std.proofs.Common.{List, Option, Some, None, length, get_or, set, sym, ap, ◌∙◌, subst, arith}
use Rattle.std.specs.Prelude.{option_map}
use Rattle.slot_arena.specs.declared.nodes.Node.{Node}
use Rattle.slot_arena.specs.declared.nodes.Node.TheVariants.{Branch}
use Rattle.slot_arena.specs.Entries.{entries_after}
use Rattle.slot_arena.specs.Heaps.{entries_from, prev_of}
use Rattle.slot_arena.specs.declared.nodes.Slot.{Slot}
use Rattle.slot_arena.specs.declared.nodes.Prev.TheVariants as prev
use Rattle.slot_arena.specs.Cells.{AreParts, slots_from}
use Rattle.slot_arena.proofs.Parts.{within, filled, node_read, prev_read, parts_filled}
use Rattle.slot_arena.proofs.cells.Cells.fill_changed.Goals as goal

pub index_mut-requires : goal.index_mut-requires
index_mut-requires c = let parts = within c.self.inside.births.items c.self.inside.nodes c.self.inside.prevs.items c.args.slot (omega (arith, ap length c.self.view_is)) in omega arith

pub put_changed-requires-clause-within : goal.put_changed-requires-clause-within
put_changed-requires-clause-within c =
    let parts = within c.self.inside.births.items c.self.inside.nodes c.self.inside.prevs.items c.args.slot (omega (arith, ap length c.self.view_is)) in omega arith

-- where a slot isn't in use no node stands
pub put_changed-requires-clause-free : goal.put_changed-requires-clause-free
put_changed-requires-clause-free c =
    node_read c.self.inside.births.items c.self.inside.nodes c.self.inside.prevs.items c.self.invariant c.args.slot
    ∙ ap (λ (s : List (Option Slot)). option_map (λ (o : Slot). o.node) (get_or s c.args.slot None)) c.self.view_is ∙ ap (option_map (λ (o : Slot). o.node)) c.requires.free

pub invariant_of-self : goal.invariant_of-self
invariant_of-self c =
    let parts = within c.self.inside.births.items c.self.inside.nodes c.self.inside.prevs.items c.args.slot (omega (arith, ap length c.self.view_is)) in
    subst (λ (ns : List (Option Node)). AreParts (set c.self.inside.births.items c.args.slot c.args.birth) ns c.self.inside.prevs.items) (sym c.put_changed.ensures)
    (parts_filled c.self.inside.births.items c.self.inside.nodes c.self.inside.prevs.items c.self.invariant c.args.slot parts.0 c.args.birth
    (Branch c.args.bitmap (entries_from (entries_after c.args.change.now c.args.refs.now))) c.requires.born)

pub returns : goal.returns
returns c =
    let node : Node = Branch c.args.bitmap (entries_from (entries_after c.args.change.now c.args.refs.now)) in
    let none = prev_read c.self.inside.births.items c.self.inside.nodes c.self.inside.prevs.items c.self.invariant c.args.slot
    ∙ ap (λ (s : List (Option Slot)). prev_of (get_or s c.args.slot None)) c.self.view_is ∙ ap prev_of c.requires.free in
    ap (λ (ns : List (Option Node)). slots_from (set c.self.inside.births.items c.args.slot c.args.birth) ns c.self.inside.prevs.items) c.put_changed.ensures
    ∙ filled c.self.inside.births.items c.self.inside.nodes c.self.inside.prevs.items c.args.slot c.args.birth node none
    ∙ ap (λ (s : List (Option Slot)). set s c.args.slot (Some (record { birth = c.args.birth; node = node; prev = prev.None }))) c.self.view_is
