use Rattle.std.proofs.Common.{◌≡◌, length, ap, ◌∙◌, arith}
use Rattle.slot_arena.specs.Entries.{changed_branch}
use Rattle.slot_arena.specs.Heaps.{Heap, node_at}
use Rattle.slot_arena.specs.Arenas.{Contents}
use Rattle.epochs.proofs.Listing.{lists_kept, memory_kept, length-taken}
use Rattle.epochs.proofs.heap.Heap.make_changed.Goals as goal

pub invariant_of-self : goal.invariant_of-self
invariant_of-self c =
    let now : Contents = c.make_changed-made.new.self in
    let size : length now.heap.slots ≡ length c.self.inside.arena.heap.slots = ap (λ (h : Heap). length h.slots) c.make_changed-made.ensures.heap
    ∙ length-taken c.self.inside.arena.heap (changed_branch c.args.bitmap c.args.change (node_at c.self.inside.arena.heap c.args.from)) in (
      memory_kept c.self.inside.arena now c.self.inside.bags.bags c.self.inside.epoch c.self.inside.cursor c.self.inside.pins.items c.self.invariant.0
          (lists_kept c.self.inside.arena now c.self.inside.bags.bags c.self.invariant.0.lists size c.make_changed-made.ensures.stay c.make_changed-made.ensures.noted),
      c.self.invariant.1,
      omega (arith, c.self.invariant.2),
      c.ticks_of-self-inside.ensures,
    )
