use Rattle.std.proofs.Common.{arith}
use Rattle.shared_map.proofs.Counted.{counted_all}
use Rattle.shared_map.proofs.wholes.count_all.Goals as goal

pub returns-clause-counted : goal.returns-clause-counted
returns-clause-counted g c = λ few.
    let e = (counted_all (record { handle = c.args.handle; keys = 0 }) c.visit_each.new.visitor (g.S.Shards.items c.args.shards.now) (g.S.Shards.items c.visit_each.new.shards)
    c.visit_each.ensures.visited).1 (omega (arith, few)) in omega (arith, e)

pub returns-clause-same : goal.returns-clause-same
returns-clause-same g c =
    (counted_all (record { handle = c.args.handle; keys = 0 }) c.visit_each.new.visitor (g.S.Shards.items c.args.shards.now) (g.S.Shards.items c.visit_each.new.shards)
    c.visit_each.ensures.visited).0
