use Rattle.std.proofs.Common.{◌≡◌, ◌+◌}
use Rattle.slot_arena.proofs.tally.Tally.charge.Given as goal

abbrev pub invariant-loop-one : goal.invariant-loop-one
invariant-loop-one l = l.self ≡ record l.fn.self { ticks = l.fn.self.ticks + l._one-index }
