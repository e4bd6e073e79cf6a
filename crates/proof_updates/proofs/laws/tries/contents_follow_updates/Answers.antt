use Rattle.proof_updates.proofs.Tries.OfLists.{others_keep_contents, updates_lead_on}
use Rattle.proof_updates.proofs.laws.tries.contents_follow_updates.Goals as goal

pub returns-clause-others : goal.returns-clause-others
returns-clause-others c = others_keep_contents

pub returns-clause-own : goal.returns-clause-own
returns-clause-own c = updates_lead_on
