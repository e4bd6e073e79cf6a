use lib.Count.{ones, ones_in}
use Rattle.std.proofs.Common.{refl}
use Rattle.proof_counterexamples.specs.Vocabulary.{stored, node_at, prev_at, with_main, with_prev, taken, freed, count_of, ids_by_place, first_state, order_of, taken_below, least_from, next, sized}
use Rattle.proof_counterexamples.specs.Machines.{record_by, machine_from, with_refused_climbs}
use Rattle.proof_counterexamples.specs.Runs.{last_removal}
use Rattle.proof_counterexamples.proofs.Refuting.{refused_by}
use Rattle.proof_counterexamples.proofs.laws.refused_after_its_commit.Goals as goal

pub returns : goal.returns
unfolding taken_below least_from next machine_from first_state stored node_at prev_at with_main with_prev taken freed count_of ids_by_place ones ones_in
returns c = (refl, refl, refused_by order_of (sized 9 1) (record_by with_refused_climbs (sized 9 1) last_removal) 2 2 5 refl refl)
