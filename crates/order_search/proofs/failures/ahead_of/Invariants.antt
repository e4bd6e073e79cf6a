-- The marked ones so far.
use Rattle.order_search.proofs.Alike.{Gathered}
use Rattle.order_search.proofs.failures.ahead_of.Given as goal

abbrev pub invariant-loop-id : goal.invariant-loop-id
invariant-loop-id l = Gathered l.low l.taken l.id l.ahead.items
