use Rattle.std.proofs.Common.{◌≡◌, ◌-◌, length}
use Rattle.sharded_gate.proofs.Whole.{HasFrom}
use Rattle.sharded_gate.proofs.gates.ShardedGate.enter_all.Given as goal

abbrev pub invariant-loop-n : goal.invariant-loop-n
invariant-loop-n g l = (l.pass.table_id ≡ l.initial.pass.table_id) × HasFrom (length l.self.first - l.n) (length l.self.first) l.initial.pass.me.0.parts l.pass.me
