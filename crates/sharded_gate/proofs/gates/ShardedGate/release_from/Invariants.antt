use Rattle.std.proofs.Common.{◌≡◌, length}
use Rattle.sharded_gate.proofs.Whole.{HasFrom}
use Rattle.sharded_gate.proofs.gates.ShardedGate.release_from.Given as goal

abbrev pub invariant-loop-shard : goal.invariant-loop-shard
invariant-loop-shard g l = (l.pass.table_id ≡ l.initial.pass.table_id) × HasFrom l.shard (length l.self.first) l.initial.pass.me.0.parts l.pass.me
