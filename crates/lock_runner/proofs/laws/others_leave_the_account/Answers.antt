use Rattle.lock_runner.proofs.ActorHistory.Steps.{others_leave_the_account}
use Rattle.lock_runner.proofs.laws.others_leave_the_account.Goals as goal

pub returns : goal.returns
returns c = others_leave_the_account
