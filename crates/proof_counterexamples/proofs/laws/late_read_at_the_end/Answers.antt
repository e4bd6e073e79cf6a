use lib.Count.{ones, ones_in}
use Rattle.std.proofs.Common.{refl}
use Rattle.proof_counterexamples.specs.Vocabulary.{stored, node_at, prev_at, with_main, with_prev, taken, freed, count_of, ids_by_place, first_state, taken_below, least_from, next, record_from}
use Rattle.proof_counterexamples.specs.Vocabulary.{record_of, sized}
use Rattle.proof_counterexamples.specs.Orders.{with_late_reads_at_the_end}
use Rattle.proof_counterexamples.specs.Runs.{late_get}
use Rattle.proof_counterexamples.proofs.Refuting.{begun_as, ended_as, is_refuted, refused}
use Rattle.proof_counterexamples.proofs.laws.late_read_at_the_end.Goals as goal

pub returns : goal.returns
unfolding taken_below least_from next record_from first_state stored node_at prev_at with_main with_prev taken freed count_of ids_by_place ones ones_in begun_as ended_as is_refuted
returns c = (refl, refl, refused with_late_reads_at_the_end (sized 64 2) (record_of (sized 64 2) late_get) refl)
