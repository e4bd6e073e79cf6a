use Rattle.machine_model.specs.Machine.{run}
use Rattle.machine_model.proofs.Slots.{add_up, sound_along}
use Rattle.machine_model.proofs.laws.slots_add_up.Goals as goal

pub returns : goal.returns
returns c limits steps ok = add_up limits.slots (run limits steps).heap (sound_along limits ok steps).heap
