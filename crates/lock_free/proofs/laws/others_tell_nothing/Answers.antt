use Rattle.lock_free.proofs.AnswersTold.{others_tell_nothing}
use Rattle.lock_free.proofs.laws.others_tell_nothing.Goals as goal

pub returns : goal.returns
returns c = others_tell_nothing
