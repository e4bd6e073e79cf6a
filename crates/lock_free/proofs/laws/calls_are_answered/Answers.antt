use Rattle.lock_free.proofs.Answered.{calls_are_answered}
use Rattle.lock_free.proofs.laws.calls_are_answered.Goals as goal

pub returns : goal.returns
returns c = calls_are_answered
