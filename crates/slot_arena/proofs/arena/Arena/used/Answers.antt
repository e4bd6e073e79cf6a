use Rattle.std.proofs.Common.{is_some, length, sym, ap, ◌∙◌, arith}
use Rattle.slot_arena.specs.Arenas.{Contents}
use Rattle.std.proofs.Common.{count_by}
use Rattle.slot_arena.proofs.InUse.{length-named_from}
use Rattle.slot_arena.proofs.arena.Arena.used.Goals as goal

pub returns-clause-used : goal.returns-clause-used
returns-clause-used c =
    c.self.invariant.0.in_use ∙ ap (λ (a : Contents). count_by is_some a.heap.slots) c.self.view_is ∙ sym (length-named_from 0 c.args.self.now.heap.slots)

pub returns-clause-sum : goal.returns-clause-sum
returns-clause-sum c =
    let free = ap (λ (a : Contents). length a.heap.free) c.self.view_is in
    let slots = ap (λ (a : Contents). length a.heap.slots) c.self.view_is in
    omega (arith, c.self.invariant.0.all, free, slots)
