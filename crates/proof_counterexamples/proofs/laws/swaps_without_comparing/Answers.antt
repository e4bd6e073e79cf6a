use lib.Count.{ones, ones_in}
use Rattle.std.proofs.Common.{refl}
use Rattle.proof_counterexamples.specs.Vocabulary.{stored, node_at, prev_at, with_main, with_prev, taken, freed, count_of, ids_by_place, first_state, order_of, taken_below, least_from, next, sized}
use Rattle.proof_counterexamples.specs.Machines.{record_by, machine_from, without_comparing}
use Rattle.proof_counterexamples.specs.Runs.{overtaken_snapshot}
use Rattle.proof_counterexamples.proofs.Refuting.{begun_as, ended_as, is_refuted, refused}
use Rattle.proof_counterexamples.proofs.laws.swaps_without_comparing.Goals as goal

pub returns : goal.returns
unfolding taken_below least_from next machine_from first_state stored node_at prev_at with_main with_prev taken freed count_of ids_by_place ones ones_in begun_as ended_as is_refuted
returns c = (refl, refl, refused order_of (sized 64 2) (record_by without_comparing (sized 64 2) overtaken_snapshot) refl)
