use Rattle.proof_obstruction_free.proofs.Inherited.EndsAll.{each_step_leads_to_its_end}
use Rattle.proof_obstruction_free.proofs.laws.endings.each_step_leads_to_its_end.Goals as goal

pub returns : goal.returns
returns c = each_step_leads_to_its_end
