use Rattle.std.proofs.Common.{ℕ, ◌≤◌}
use Rattle.gate.specs.Finishing.{IsHere}
use Rattle.sharded_gate.proofs.gates.ShardedGate.has_all.Given as goal

abbrev pub invariant-loop-n : goal.invariant-loop-n
invariant-loop-n g l = (number : ℕ) → 1 ≤ number → number ≤ l.n → IsHere g.S.HoldsShardedSeat.seat number l.seats
