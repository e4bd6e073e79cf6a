use lib.Count.{ones, ones_in}
use Rattle.std.proofs.Common.{refl}
use Rattle.proof_counterexamples.specs.Vocabulary.{stored, node_at, prev_at, with_main, with_prev, taken, freed, count_of, ids_by_place, first_state, order_of, taken_below, least_from, next, sized}
use Rattle.proof_counterexamples.specs.Machines.{record_by, machine_from, with_refused_changes}
use Rattle.proof_counterexamples.specs.Runs.{refused_change}
use Rattle.proof_counterexamples.proofs.Refuting.{begun_as, ended_as, is_refuted, refused}
use Rattle.proof_counterexamples.proofs.laws.refused_put_in_the_map.Goals as goal

pub returns : goal.returns
unfolding taken_below least_from next machine_from first_state stored node_at prev_at with_main with_prev taken freed count_of ids_by_place ones ones_in begun_as ended_as is_refuted
returns c = (refl, refl, refused order_of (sized 5 1) (record_by with_refused_changes (sized 5 1) refused_change) refl)
