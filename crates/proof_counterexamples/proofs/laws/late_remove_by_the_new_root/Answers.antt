use lib.Count.{ones, ones_in}
use Rattle.std.proofs.Common.{refl}
use Rattle.proof_counterexamples.specs.Vocabulary.{stored, node_at, prev_at, with_main, with_prev, taken, freed, count_of, ids_by_place, first_state, order_of, taken_below, least_from, next, sized}
use Rattle.proof_counterexamples.specs.Machines.{record_by, machine_from, by_the_new_root}
use Rattle.proof_counterexamples.specs.Runs.{late_removal}
use Rattle.proof_counterexamples.proofs.Refuting.{begun_as, ended_as, is_refuted, refused}
use Rattle.proof_counterexamples.proofs.laws.late_remove_by_the_new_root.Goals as goal

pub returns : goal.returns
unfolding taken_below least_from next machine_from first_state stored node_at prev_at with_main with_prev taken freed count_of ids_by_place ones ones_in begun_as ended_as is_refuted
returns c = (refl, refl, refused order_of (sized 64 2) (record_by by_the_new_root (sized 64 2) late_removal) refl)
