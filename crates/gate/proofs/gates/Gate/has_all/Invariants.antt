use Rattle.std.proofs.Common.{ℕ, ◌≤◌}
use Rattle.gate.specs.Finishing.{IsHere}
use Rattle.gate.proofs.gates.Gate.has_all.Given as goal

abbrev pub invariant-loop-n : goal.invariant-loop-n
invariant-loop-n g l = (number : ℕ) → 1 ≤ number → number ≤ l.n → IsHere g.S.HoldsSeat.seat number l.seats
