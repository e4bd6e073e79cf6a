use lib.Count.{ones, ones_in}
use Rattle.std.proofs.Common.{refl}
use Rattle.machine_model.specs.Beneath.slot_arena.specs.Heaps.{stored, node_at, prev_at, with_main, with_prev, taken, freed}
use Rattle.machine_model.specs.States.{first_state}
use Rattle.machine_model.specs.Beneath.slot_arena.specs.Counts.{count_of}
use Rattle.places.specs.Places.{ids_by_place}
use Rattle.machine_model.specs.Machine.{taken_below, least_from, run_from, next}
use Rattle.machine_model.specs.Records.{record_from}
use Rattle.machine_model.proofs.runs.refused_for_want_of_slots.Goals as goal

pub returns : goal.returns
unfolding taken_below least_from run_from next first_state stored node_at prev_at with_main with_prev taken freed count_of ids_by_place ones ones_in record_from
returns c = refl
