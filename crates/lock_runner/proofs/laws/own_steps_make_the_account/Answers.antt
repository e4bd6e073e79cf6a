use Rattle.lock_runner.proofs.ActorHistory.Steps.{own_steps_make_the_account}
use Rattle.lock_runner.proofs.laws.own_steps_make_the_account.Goals as goal

pub returns : goal.returns
returns c = own_steps_make_the_account
