-- The laws for every list of steps, from those over runs.
use Rattle.proof_order.specs.Beneath.machine_model.proofs.Times.{run_is}
use Rattle.proof_order.specs.Laws.Openings.{NewRootsFollow, OneRoot, HandlesRise, ClosedRootsStay, ClosingsDiffer, RootsSwappedAsExpected}
use Rattle.proof_order.proofs.Openings.ClosedRoots as over
use Rattle.proof_order.proofs.Openings.Closings as closings
use Rattle.proof_order.proofs.Openings.HandlesRise as rising
use Rattle.proof_order.proofs.Openings.RootsFollow as following

pub one_root : OneRoot
one_root limits steps ok = over.one_root (run_is limits steps ok)

pub handles_rise : HandlesRise
handles_rise limits steps ok = rising.handles_rise (run_is limits steps ok)

pub closed_roots_stay : ClosedRootsStay
closed_roots_stay limits steps ok = over.closed_roots_stay (run_is limits steps ok)

pub closings_differ : ClosingsDiffer
closings_differ limits steps ok = closings.closings_differ limits ok steps

pub new_roots_follow : NewRootsFollow
new_roots_follow limits steps ok = following.new_roots_follow (run_is limits steps ok)

pub roots_swapped_as_expected : RootsSwappedAsExpected
roots_swapped_as_expected limits steps ok = following.roots_swapped_as_expected (run_is limits steps ok)
