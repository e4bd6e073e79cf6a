use Rattle.lock_free.proofs.KeysApart.{keys_apart_are_answered}
use Rattle.lock_free.proofs.laws.keys_apart_are_answered.Goals as goal

pub returns : goal.returns
returns c = keys_apart_are_answered
