-- The maps so far are the same.
use Rattle.order_search.proofs.Alike.{SameSoFar}
use Rattle.order_search.proofs.failures.are_same_maps.Given as goal

abbrev pub invariant-loop-place : goal.invariant-loop-place
invariant-loop-place l = SameSoFar l.a l.b l.place
