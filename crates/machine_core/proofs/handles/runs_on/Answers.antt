use Rattle.std.proofs.Common.{◌∙◌}
use Rattle.machine_core.specs.Seen.{seen}
use Rattle.proof_core.proofs.Numbers.{runs_counted}
use Rattle.machine_core.proofs.handles.runs_on.Goals as goal

pub returns : goal.returns
returns c = c.runs_on.ensures ∙ runs_counted c.args.parts.now.handles (seen c.args.parts.now) c.args.handle c.requires
