-- What the scan has seen.
use Rattle.order_search.proofs.Turns.{Scanned}
use Rattle.order_search.proofs.choosing.choose.Given as goal

abbrev pub invariant-loop-id : goal.invariant-loop-id
invariant-loop-id l = Scanned l.table.rows.items l.taken l.from l.id l.first_end
