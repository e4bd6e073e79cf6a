use Rattle.lock_free.proofs.Answered.{refusals_are_answered}
use Rattle.lock_free.proofs.laws.refusals_are_answered.Goals as goal

pub returns : goal.returns
returns c = refusals_are_answered
