use Rattle.std.proofs.Common.{sym, ◌∙◌}
use Rattle.shared_map.proofs.CallAll.{copy_denied, number_next}
use Rattle.shared_map.proofs.wholes.copy_all.Goals as goal

pub change_all-requires-clause-next : goal.change_all-requires-clause-next
change_all-requires-clause-next g c = number_next c.args.first.now (g.S.Shards.items c.args.shards.now) c.args.handle c.in-Some.number c.args.access c.in-Some.is

pub returns-in-Some-denial-clause-answered : goal.returns-in-Some-denial-clause-answered
returns-in-Some-denial-clause-answered g c =
    copy_denied c.args.first.now (g.S.Shards.items c.args.shards.now) c.args.access c.args.handle c.in-Some-denial.denial (sym c.denial.ensures ∙ c.in-Some-denial.is)
