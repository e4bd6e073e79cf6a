use Rattle.std.proofs.Common.{◌≡◌, false, take}
use Rattle.slot_arena.specs.Tallies.{naming}
use Rattle.slot_arena.proofs.loan.Loan.names.Given as goal

abbrev pub invariant-loop-i : goal.invariant-loop-i
invariant-loop-i l = l.named ≡ false → naming l.slot (take l.i l.self-inside.refs) ≡ 0
