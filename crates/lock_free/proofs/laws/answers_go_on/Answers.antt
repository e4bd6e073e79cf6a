use Rattle.lock_free.proofs.AnswersTold.{answers_go_on}
use Rattle.lock_free.proofs.laws.answers_go_on.Goals as goal

pub returns : goal.returns
returns c = answers_go_on
