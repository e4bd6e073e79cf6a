use Rattle.proof_runs.proofs.Bounds.{in_bounds}
use Rattle.proof_runs.proofs.Freeing.{sweeps_few}
use Rattle.proof_runs.proofs.Reclaiming.{looks_same, on_ok}
use Rattle.step_machine.proofs.machine.Machine.reclaim.Goals as goal

pub returns-clause-few : goal.returns-clause-few
returns-clause-few c = sweeps_few c.sweep_all-result.result c.args.self.now c.sweep_all-result.new.self (in_bounds c.args.self.now.limits c.limits.ensures.in_range) c.sweep_all-result.ensures

pub returns-clause-reached : goal.returns-clause-reached
returns-clause-reached c =
    on_ok c.sweep_leaves.ensures c.sweep_all-result.result c.args.self.now c.sweep_all-result.new.self c.reclaimed.ensures
    (in_bounds c.args.self.now.limits c.limits.ensures.in_range) c.sweep_all-result.ensures

pub returns-clause-same : goal.returns-clause-same
returns-clause-same c =
    looks_same c.sweep_leaves.ensures c.sweep_all-result.result c.args.self.now c.sweep_all-result.new.self (in_bounds c.args.self.now.limits c.limits.ensures.in_range) c.sweep_all-result.ensures
