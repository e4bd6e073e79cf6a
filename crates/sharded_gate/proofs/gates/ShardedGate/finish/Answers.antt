use Rattle.std.proofs.Common.{rules, refl, subst}
use Rattle.gate.specs.Finishing.{AreHere, IsMissing}
use Rattle.sharded_gate.proofs.gates.ShardedGate.finish.Goals as goal

pub gather-requires-clause-all : goal.gather-requires-clause-all
gather-requires-clause-all g c =
    subst (λ xs. AreHere g.S.HoldsShardedSeat.seat c.args.self.seats xs) c.as_slice.ensures.value (c.has_all.ensures.all (search (rules, c.if-not-has_all.false)))

pub returns-then-not-has_all : goal.returns-then-not-has_all
returns-then-not-has_all g c =
    (subst (λ xs. IsMissing g.S.HoldsShardedSeat.seat c.args.self.seats xs) c.as_slice.ensures.value (c.has_all.ensures.missing c.if-not-has_all.true), refl, refl)

pub returns : goal.returns
returns g c =
    (subst (λ xs. AreHere g.S.HoldsShardedSeat.seat c.args.self.seats xs) c.as_slice.ensures.value (c.has_all.ensures.all (search (rules, c.if-not-has_all.false))), c.gather.ensures)
