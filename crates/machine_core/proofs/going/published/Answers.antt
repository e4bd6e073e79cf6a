use Rattle.std.proofs.Common.{Some, None, ◌∙◌}
use Rattle.machine_core.proofs.Onward.{published_there}
use Rattle.machine_core.proofs.going.published.Goals as goal

pub returns-in-None : goal.returns-in-None
returns-in-None c = published_there c.args.parts.now c.args.actor None c.in-None.ensures

pub returns-in-Some : goal.returns-in-Some
returns-in-Some c = c.published.ensures c.args.parts.now.table ∙ published_there c.args.parts.now c.args.actor (Some c.in-Some.found.now) c.in-Some.ensures
