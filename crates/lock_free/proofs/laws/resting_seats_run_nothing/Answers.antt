use Rattle.lock_free.proofs.KeysApart.{resting_seats_run_nothing}
use Rattle.lock_free.proofs.laws.resting_seats_run_nothing.Goals as goal

pub returns : goal.returns
returns c = resting_seats_run_nothing
