use Rattle.machine_core.specs.Asking.{asked}
use Rattle.proof_runs.proofs.Bounds.{in_bounds}
use Rattle.proof_runs.proofs.Applying.{uses_what_it_names, frees_late, draws_new, if_changes}
use Rattle.step_machine.proofs.Asked.{found_none}
use Rattle.step_machine.proofs.Placing.{one_place_more}
use Rattle.proof_runs.proofs.Ending.{ends_if_sure, if_nearer}
use Rattle.step_machine.proofs.machine.Machine.apply.Goals as goal

pub returns-clause-want : goal.returns-clause-want
returns-clause-want c =
    found_none c.refused_for_want_alone.ensures c.steps.result.now c.args.self.now c.take_step-result.new.self c.args.step c.take_step-result.result c.steps.ensures.steps
    c.take_step-result.ensures

pub returns-clause-used : goal.returns-clause-used
returns-clause-used c = uses_what_it_names c.references_in_use.ensures.held c.references_in_use.ensures.standing c.args.self.now (in_bounds c.args.self.now.limits c.limits.ensures.in_range)

pub returns-clause-frees : goal.returns-clause-frees
returns-clause-frees c =
    frees_late c.freed_when_zero_for_two_epochs.ensures c.take_step-result.result c.args.self.now (asked c.args.step) c.take_step-result.new.self
    (in_bounds c.args.self.now.limits c.limits.ensures.in_range) c.take_step-result.ensures

pub returns-clause-draws : goal.returns-clause-draws
returns-clause-draws c = draws_new c.take_step-result.result c.args.self.now (asked c.args.step) c.take_step-result.new.self
    (in_bounds c.args.self.now.limits c.limits.ensures.in_range) c.take_step-result.ensures

pub returns-clause-contents : goal.returns-clause-contents
returns-clause-contents c =
    let laws = c.contents_of_handles.ensures in
    if_changes laws.stay laws.updates laws.repairs laws.clears laws.closes laws.opens c.take_step-result.result c.args.self.now (asked c.args.step) c.take_step-result.new.self
    (in_bounds c.args.self.now.limits c.limits.ensures.in_range) c.steps-2.ensures.keys c.take_step-result.ensures

pub returns-clause-ends : goal.returns-clause-ends
returns-clause-ends c = ends_if_sure c.each_step_leads_to_its_end.ensures c.closes_end.ensures c.take_step-result.new.self c.limits-2.ensures.in_range c.steps-2.ensures.keys

pub returns-clause-nearer : goal.returns-clause-nearer
returns-clause-nearer c = if_nearer c.take_step-result.result c.args.self.now (asked c.args.step) c.take_step-result.new.self c.take_step-result.ensures

pub returns-clause-ticks : goal.returns-clause-ticks
returns-clause-ticks c =
    one_place_more c.one_place_a_step.ensures c.take_step-result.result c.args.self.now (asked c.args.step) c.take_step-result.new.self c.take_step-result.ensures
