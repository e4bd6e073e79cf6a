use Rattle.std.proofs.Common.{rules, sym, subst}
use Rattle.gate.specs.Views.{IsOf, HasTaken}
use Rattle.sharded_gate.proofs.gates.ShardedGate.enter_by_tries.Goals as goal

pub try_enter-requires-clause-number : goal.try_enter-requires-clause-number
try_enter-requires-clause-number g c = subst (λ m. IsOf c.args.number m) (sym c.loop.invariant.0) c.requires.number

pub returns-then-try_enter-clause-inside : goal.returns-then-try_enter-clause-inside
returns-then-try_enter-clause-inside g c is =
    subst (λ m. HasTaken c.args.shard m c.try_enter.new.pass.me) c.loop.invariant.0 (c.try_enter.ensures.inside (search (rules, c.if-try_enter.true)))
