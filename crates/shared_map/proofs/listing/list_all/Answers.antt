use Rattle.std.proofs.Common.{◌≡◌, false, None, IfOk, sym, ap, subst, ◌∙◌}
use Rattle.shared_map.specs.Vocabulary.{by_key}
use Rattle.shared_map.specs.Listing.{collected}
use Rattle.shared_map.proofs.Listed.{listed}
use Rattle.shared_map.proofs.listing.list_all.Goals as goal

pub returns-then-failed-clause-same : goal.returns-then-failed-clause-same
returns-then-failed-clause-same g c =
    (listed (record { handle = c.args.handle; listed = c.args.listed; pairs = None; failed = false }) c.visit_each.new.visitor (g.S.Shards.items c.args.shards.now)
    (g.S.Shards.items c.visit_each.new.shards) c.visit_each.ensures.visited).0

pub returns-in-Some-clause-listed : goal.returns-in-Some-clause-listed
returns-in-Some-clause-listed g c =
    let its = ((listed (record { handle = c.args.handle; listed = c.args.listed; pairs = None; failed = false }) c.visit_each.new.visitor (g.S.Shards.items c.args.shards.now)
    (g.S.Shards.items c.visit_each.new.shards) c.visit_each.ensures.visited).1 c.if-failed.false).1 in
    subst (λ xs. IfOk c.sorted.result (λ sorted. sorted.items ≡ by_key xs)) (sym (ap collected c.in-Some.is) ∙ its) c.sorted.ensures.sorted

pub returns-in-Some-clause-same : goal.returns-in-Some-clause-same
returns-in-Some-clause-same g c =
    (listed (record { handle = c.args.handle; listed = c.args.listed; pairs = None; failed = false }) c.visit_each.new.visitor (g.S.Shards.items c.args.shards.now)
    (g.S.Shards.items c.visit_each.new.shards) c.visit_each.ensures.visited).0

pub returns-in-None-clause-same : goal.returns-in-None-clause-same
returns-in-None-clause-same g c =
    (listed (record { handle = c.args.handle; listed = c.args.listed; pairs = None; failed = false }) c.visit_each.new.visitor (g.S.Shards.items c.args.shards.now)
    (g.S.Shards.items c.visit_each.new.shards) c.visit_each.ensures.visited).0
