-- The handles of the rows so far.
use Rattle.order_search.specs.States.{IsListed}
use Rattle.order_search.proofs.Alike.{Listed, Opens}
use Rattle.order_search.proofs.failures.handles_of.Given as goal

abbrev pub invariant-loop-id : goal.invariant-loop-id
invariant-loop-id l = IsListed l.handles.items 0 × Listed Opens l.table.rows.items l.id l.handles.items
