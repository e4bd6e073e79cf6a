use Rattle.std.proofs.Common.{Some, None, ◌∙◌}
use Rattle.machine_core.specs.Seen.{seen}
use Rattle.machine_core.proofs.Onward.{onward_there}
use Rattle.machine_core.proofs.going.goes_on.Goals as goal

pub returns-in-None : goal.returns-in-None
returns-in-None c = onward_there c.args.parts.now c.args.actor None c.in-None.ensures

pub returns-in-Some : goal.returns-in-Some
returns-in-Some c = c.goes_on.ensures (seen c.args.parts.now) c.args.parts.now.table ∙ onward_there c.args.parts.now c.args.actor (Some c.in-Some.found.now) c.in-Some.ensures
