use Rattle.std.proofs.Common.{◌≡◌, length}
use Rattle.sharded_gate.specs.Hands.{noted_first}
use Rattle.sharded_gate.proofs.hands.Hand.note_all.Given as goal

abbrev pub invariant-loop-shard : goal.invariant-loop-shard
invariant-loop-shard g l =
    (l.self.id ≡ l.initial.self.id) × (l.self.view ≡ l.initial.self.view) × (length l.self.slots ≡ length l.initial.self.slots) × (l.self.slots ≡ noted_first l.shard l.entry l.initial.self.slots)
