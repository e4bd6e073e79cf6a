use Rattle.proof_runs.proofs.Ending.{ended, enough_for_call}
use Rattle.proof_runs.proofs.Legality.{acted_again, rests_again, spares_again}
use Rattle.step_machine.proofs.machine.Machine.resume.Goals as goal

pub returns-clause-alone : goal.returns-clause-alone
returns-clause-alone c before call went =
    acted_again before c.args.self.now c.go_on-result.new.self c.args.actor call went c.alone_it_acts.ensures c.limits-2.ensures.in_range c.steps-2.ensures.keys c.go_on-result.result
    c.go_on-result.ensures

pub returns-clause-rests : goal.returns-clause-rests
returns-clause-rests c before call went = rests_again before c.args.self.now c.go_on-result.new.self c.args.actor call went c.go_on-result.result c.go_on-result.ensures

pub returns-clause-ends : goal.returns-clause-ends
returns-clause-ends c operation runs sure =
    ended c.args.self.now c.args.actor c.each_step_leads_to_its_end.ensures c.closes_end.ensures c.limits.ensures.in_range c.steps.ensures.keys operation
    runs sure c.go_on-result.result c.go_on-result.new.self c.go_on-result.ensures

pub returns-clause-spare : goal.returns-clause-spare
returns-clause-spare c before call went =
    spares_again before c.args.self.now c.go_on-result.new.self c.args.actor call went c.each_step_leads_to_its_end.ensures c.closes_end.ensures
    (enough_for_call c.enough_slots_for_tries.ensures.spare c.enough_slots_for_copies.ensures.spare)
    c.limits-2.ensures.in_range c.steps-2.ensures.keys c.go_on-result.result c.go_on-result.ensures
