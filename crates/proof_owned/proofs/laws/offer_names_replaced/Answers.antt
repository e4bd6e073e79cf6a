use lib.Count.{ones, ones_in}
use Rattle.std.proofs.Common.{refl}
use Rattle.proof_owned.specs.Beneath.slot_arena.specs.Heaps.{stored, node_at, prev_at, with_main, with_prev, taken, freed}
use Rattle.proof_owned.specs.Beneath.slot_arena.specs.Counts.{count_of}
use Rattle.proof_owned.specs.Beneath.machine_model.specs.States.{first_state}
use Rattle.proof_owned.specs.Beneath.machine_model.specs.Machine.{taken_below, least_from, next, run_from}
use Rattle.proof_owned.proofs.laws.offer_names_replaced.Goals as goal

pub returns : goal.returns
unfolding taken_below least_from next run_from first_state stored node_at prev_at with_main with_prev taken freed count_of ones ones_in
returns c = (refl, refl, refl)
