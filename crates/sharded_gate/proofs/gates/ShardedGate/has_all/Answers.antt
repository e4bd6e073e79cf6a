use Rattle.std.proofs.Common.{rules, ap, arith}
use Rattle.gate.proofs.Making.{one_missing, one_more_here}
use Rattle.sharded_gate.proofs.gates.ShardedGate.has_all.Goals as goal

pub returns-then-not-has_seat-clause-missing : goal.returns-then-not-has_seat-clause-missing
returns-then-not-has_seat-clause-missing g c e =
    one_missing g.S.HoldsShardedSeat.seat c.loop-n.n _ _ c.has_seat.result (omega (arith, c.loop-n-test.true, ap (λ r. r.seats) c.self.view_is)) c.if-not-has_seat.true c.has_seat.ensures.1

pub loop-n-preserved : goal.loop-n-preserved
loop-n-preserved g c = one_more_here g.S.HoldsShardedSeat.seat c.loop-n.n _ c.loop-n.invariant (c.has_seat.ensures.0 (search (rules, c.if-not-has_seat.false)))
