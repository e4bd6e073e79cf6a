use Rattle.proof_runs.proofs.Bounds.{in_bounds}
use Rattle.step_machine.proofs.Looking.{if_found}
use Rattle.step_machine.proofs.machine.Machine.found_at.Goals as goal

pub returns-clause-value : goal.returns-clause-value
returns-clause-value c =
    if_found c.looking_finds.ensures c.args.self.now
    (in_bounds c.args.self.now.limits c.limits.ensures.in_range) c.steps.ensures.keys c.args.handle c.args.key c.looked_up.result c.looked_up.ensures.found
    c.looked_up.ensures.open
