use Rattle.std.proofs.Common.{◌≡◌}
use Rattle.sharded_gate.specs.Hands.{turned_by}
use Rattle.sharded_gate.proofs.hands.turn.Given as goal

abbrev pub invariant-loop-done : goal.invariant-loop-done
invariant-loop-done g l =
    (l.pass.table_id ≡ l.initial.pass.table_id) × (l.pass.me.0 ≡ l.initial.pass.me.0) × (l.pass.me.1 ≡ turned_by l.done l.initial.pass.me.1)
