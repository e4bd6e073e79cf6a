use Rattle.proof_runs.proofs.Ending.{completed, enough_for_call, spares}
use Rattle.proof_runs.proofs.Legality.{acted, rests}
use Rattle.step_machine.proofs.machine.Machine.complete.Goals as goal

pub returns-clause-alone : goal.returns-clause-alone
returns-clause-alone c rest =
    acted c.args.self.now c.begin_and_go-result.new.self c.args.actor c.args.call rest c.alone_it_acts.ensures c.limits-2.ensures.in_range c.steps-2.ensures.keys
    c.begin_and_go-result.result c.begin_and_go-result.ensures

pub returns-clause-rests : goal.returns-clause-rests
returns-clause-rests c rest = rests c.args.self.now c.begin_and_go-result.new.self c.args.actor c.args.call rest c.begin_and_go-result.result c.begin_and_go-result.ensures

pub returns-clause-ends : goal.returns-clause-ends
returns-clause-ends c sure =
    completed c.each_step_leads_to_its_end.ensures c.closes_end.ensures c.args.self.now c.begin_and_go-result.new.self c.args.actor c.args.call c.limits.ensures.in_range c.steps.ensures.keys
    c.fits.ensures sure c.begin_and_go-result.result c.begin_and_go-result.ensures

pub returns-clause-spare : goal.returns-clause-spare
returns-clause-spare c sure free =
    spares c.each_step_leads_to_its_end.ensures c.closes_end.ensures (enough_for_call c.enough_slots_for_tries.ensures.spare c.enough_slots_for_copies.ensures.spare) c.args.self.now
    c.args.actor c.args.call c.limits.ensures.in_range c.steps.ensures.keys
    c.fits.ensures sure free c.begin_and_go-result.new.self c.begin_and_go-result.result c.begin_and_go-result.ensures
