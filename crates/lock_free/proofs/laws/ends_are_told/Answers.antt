use Rattle.lock_free.proofs.AnswersTold.{ends_are_told}
use Rattle.lock_free.proofs.laws.ends_are_told.Goals as goal

pub returns : goal.returns
returns c = ends_are_told
