-- The keys of the calls so far.
use Rattle.order_search.proofs.Alike.{Listed, IsOn}
use Rattle.order_search.proofs.failures.keys_of.Given as goal

abbrev pub invariant-loop-id : goal.invariant-loop-id
invariant-loop-id l = Listed IsOn l.table.rows.items l.id l.keys.items
