use Rattle.lock_free.proofs.OwnKeys.{own_keys_are_answered}
use Rattle.lock_free.proofs.laws.own_keys_are_answered.Goals as goal

pub returns : goal.returns
returns c = own_keys_are_answered
