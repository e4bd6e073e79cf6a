use Rattle.machine_model.specs.States.{first_state}
use Rattle.machine_model.proofs.Taken.{run-taken, taken-taken}
use Rattle.machine_model.proofs.laws.taken_steps_suffice.Goals as goal

pub returns : goal.returns
returns c limits steps = (run-taken (first_state limits) steps, taken-taken (first_state limits) steps)
