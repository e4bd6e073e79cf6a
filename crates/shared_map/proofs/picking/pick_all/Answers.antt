use Rattle.shared_map.proofs.Picked.{picked}
use Rattle.shared_map.proofs.picking.pick_all.Goals as goal

pub returns-clause-picked : goal.returns-clause-picked
returns-clause-picked g c =
    (picked c.args.handle c.visit_each.new.visitor (g.S.Shards.items c.args.shards.now) (g.S.Shards.items c.visit_each.new.shards) c.visit_each.ensures.visited).1

pub returns-clause-same : goal.returns-clause-same
returns-clause-same g c =
    (picked c.args.handle c.visit_each.new.visitor (g.S.Shards.items c.args.shards.now) (g.S.Shards.items c.visit_each.new.shards) c.visit_each.ensures.visited).0
