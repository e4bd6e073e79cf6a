use Rattle.lock_free.proofs.Answered.{closes_are_answered}
use Rattle.lock_free.proofs.laws.closes_are_answered.Goals as goal

pub returns : goal.returns
returns c = closes_are_answered
