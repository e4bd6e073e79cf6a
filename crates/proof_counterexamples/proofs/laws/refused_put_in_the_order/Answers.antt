use lib.Count.{ones, ones_in}
use Rattle.std.proofs.Common.{refl}
use Rattle.proof_counterexamples.specs.Vocabulary.{stored, node_at, prev_at, with_main, with_prev, taken, freed, count_of, ids_by_place, first_state, taken_below, least_from, next, record_from}
use Rattle.proof_counterexamples.specs.Vocabulary.{record_of, sized}
use Rattle.proof_counterexamples.specs.Orders.{with_refused}
use Rattle.proof_counterexamples.specs.Runs.{refused_put}
use Rattle.proof_counterexamples.proofs.Refuting.{refused_by}
use Rattle.proof_counterexamples.proofs.laws.refused_put_in_the_order.Goals as goal

pub returns : goal.returns
unfolding taken_below least_from next record_from first_state stored node_at prev_at with_main with_prev taken freed count_of ids_by_place ones ones_in
returns c = (refl, refl, refused_by with_refused (sized 5 1) (record_of (sized 5 1) refused_put) 1 1 3 refl refl)
