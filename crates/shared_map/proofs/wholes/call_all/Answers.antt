use Rattle.std.proofs.Common.{sym, subst}
use Rattle.shared_map.specs.Wholes.{RepliesIf}
use Rattle.shared_map.proofs.CallAll.{if_alone}
use Rattle.shared_map.proofs.wholes.call_all.Goals as goal

pub returns-then-count-eq1-clause-answered : goal.returns-then-count-eq1-clause-answered
returns-then-count-eq1-clause-answered g c =
    if_alone c.args.first.now (g.S.Shards.items c.args.shards.now) c.args.call c.call_one.result (g.S.Shards.items c.call_one.new.shards) c.call_one.ensures.called

pub returns-in-Entries-clause-answered : goal.returns-in-Entries-clause-answered
returns-in-Entries-clause-answered g c =
    subst (λ k. RepliesIf c.args.first.now (g.S.Shards.items c.args.shards.now) k c.entries_of_all.result (g.S.Shards.items c.entries_of_all.new.shards)) (sym c.in-Entries.is)
    c.entries_of_all.ensures.answered

pub returns-in-Count-clause-answered : goal.returns-in-Count-clause-answered
returns-in-Count-clause-answered g c =
    subst (λ k. RepliesIf c.args.first.now (g.S.Shards.items c.args.shards.now) k c.count_of_all.result (g.S.Shards.items c.count_of_all.new.shards)) (sym c.in-Count.is)
    c.count_of_all.ensures.answered

pub returns-in-Clear-clause-answered : goal.returns-in-Clear-clause-answered
returns-in-Clear-clause-answered g c =
    subst (λ k. RepliesIf c.args.first.now (g.S.Shards.items c.args.shards.now) k c.change_all.result (g.S.Shards.items c.change_all.new.shards)) (sym c.in-Clear.is)
    c.change_all.ensures.answered

pub returns-in-Close-clause-answered : goal.returns-in-Close-clause-answered
returns-in-Close-clause-answered g c =
    subst (λ k. RepliesIf c.args.first.now (g.S.Shards.items c.args.shards.now) k c.change_all-in-Close.result (g.S.Shards.items c.change_all-in-Close.new.shards)) (sym c.in-Close.is)
    c.change_all-in-Close.ensures.answered

pub returns-in-Snapshot-clause-answered : goal.returns-in-Snapshot-clause-answered
returns-in-Snapshot-clause-answered g c =
    subst (λ k. RepliesIf c.args.first.now (g.S.Shards.items c.args.shards.now) k c.copy_all.result (g.S.Shards.items c.copy_all.new.shards)) (sym c.in-Snapshot.is)
    c.copy_all.ensures.answered

pub returns-in-Freeze-clause-answered : goal.returns-in-Freeze-clause-answered
returns-in-Freeze-clause-answered g c =
    subst (λ k. RepliesIf c.args.first.now (g.S.Shards.items c.args.shards.now) k c.copy_all-in-Freeze.result (g.S.Shards.items c.copy_all-in-Freeze.new.shards)) (sym c.in-Freeze.is)
    c.copy_all-in-Freeze.ensures.answered
