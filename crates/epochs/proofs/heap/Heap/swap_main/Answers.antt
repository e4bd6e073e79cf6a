use Rattle.std.proofs.Common.{◌≡◌, length, ap, ◌∙◌, arith}
use Rattle.slot_arena.specs.Heaps.{Heap, with_main}
use Rattle.slot_arena.specs.Arenas.{Contents}
use Rattle.epochs.proofs.Listing.{lists_kept, memory_kept, length-with_main, length_if}
use Rattle.epochs.proofs.heap.Heap.swap_main.Goals as goal

pub invariant_of-self : goal.invariant_of-self
invariant_of-self c =
    let now : Contents = c.swap_main-swapped.new.self in
    let size : length now.heap.slots ≡ length c.self.inside.arena.heap.slots =
    ap (λ (h : Heap). length h.slots) c.swap_main-swapped.ensures.heap
    ∙ length_if c.swap_main-swapped.result (with_main c.self.inside.arena.heap c.args.at c.args.to) c.self.inside.arena.heap (length-with_main c.self.inside.arena.heap c.args.at c.args.to) in (
      memory_kept c.self.inside.arena now c.self.inside.bags.bags c.self.inside.epoch c.self.inside.cursor c.self.inside.pins.items c.self.invariant.0
          (lists_kept c.self.inside.arena now c.self.inside.bags.bags c.self.invariant.0.lists size (λ q has. c.swap_main-swapped.ensures.stay q ∙ has) c.swap_main-swapped.ensures.noted),
      c.self.invariant.1,
      omega (arith, c.self.invariant.2),
      c.ticks_of-self-inside.ensures,
    )
