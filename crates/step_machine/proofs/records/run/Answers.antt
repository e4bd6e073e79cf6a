use Rattle.machine_core.specs.Asking.{asked_all}
use Rattle.step_machine.proofs.Recording.{recorded}
use Rattle.step_machine.proofs.records.run.Goals as goal

pub returns-in-Ok-clause-record : goal.returns-in-Ok-clause-record
returns-in-Ok-clause-record c =
    recorded c.args.limits (asked_all c.args.steps.now) c.in_ok-machine.machine c.in-Ok.record c.in_ok-machine.ensures.after c.in-Ok.ensures.«record»
