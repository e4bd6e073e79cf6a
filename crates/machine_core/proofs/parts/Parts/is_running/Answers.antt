use Rattle.std.proofs.Common.{◌∙◌}
use Rattle.machine_core.proofs.Kept.{nobody_there, runs_there}
use Rattle.machine_core.proofs.parts.Parts.is_running.Goals as goal

pub returns-in-None : goal.returns-in-None
returns-in-None c = nobody_there c.args.self.now c.args.actor c.in-None.ensures

pub returns-in-Some : goal.returns-in-Some
returns-in-Some c = c.is_some.ensures ∙ runs_there c.args.self.now c.args.actor c.in-Some.found.now c.in-Some.ensures
