use Rattle.std.proofs.Common.{arith}
use Rattle.shared_map.proofs.Counted.{freed}
use Rattle.shared_map.proofs.answering.free_in_all.Goals as goal

pub returns-clause-sum : goal.returns-clause-sum
returns-clause-sum g c = λ few.
    let e = (freed (record { slots = 0 }) c.visit_each.new.visitor (g.S.Shards.items c.args.shards.now) (g.S.Shards.items c.visit_each.new.shards)
    c.visit_each.ensures.visited).1 (omega (arith, few)) in omega (arith, e)

pub returns-clause-same : goal.returns-clause-same
returns-clause-same g c =
    (freed (record { slots = 0 }) c.visit_each.new.visitor (g.S.Shards.items c.args.shards.now) (g.S.Shards.items c.visit_each.new.shards) c.visit_each.ensures.visited).0
