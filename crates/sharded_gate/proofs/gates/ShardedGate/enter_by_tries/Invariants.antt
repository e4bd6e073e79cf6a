use Rattle.std.proofs.Common.{◌≡◌}
use Rattle.sharded_gate.proofs.gates.ShardedGate.enter_by_tries.Given as goal

abbrev pub invariant-loop : goal.invariant-loop
invariant-loop g l = (l.pass.me ≡ l.initial.pass.me) × (l.pass.table_id ≡ l.initial.pass.table_id)
