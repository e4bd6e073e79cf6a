use Rattle.lock_free.proofs.AnswersTold.{begins_tell_nothing}
use Rattle.lock_free.proofs.laws.begins_tell_nothing.Goals as goal

pub returns : goal.returns
returns c = begins_tell_nothing
