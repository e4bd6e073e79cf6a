use Rattle.lock_runner.proofs.ActorHistory.Told.{answers_are_those_of_the_history}
use Rattle.lock_runner.proofs.laws.answers_are_those_of_the_history.Goals as goal

pub returns : goal.returns
returns c = answers_are_those_of_the_history
