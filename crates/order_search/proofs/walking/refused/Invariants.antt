-- Of each operation so far it is noted whether it was refused.
use Rattle.std.proofs.Common.{◌≡◌, length}
use Rattle.order_search.proofs.Placing.{Noted}
use Rattle.order_search.proofs.walking.refused.Given as goal

abbrev pub invariant-loop-id : goal.invariant-loop-id
invariant-loop-id l = (length l.taken.items ≡ l.id) × Noted l.events l.table.rows.items l.taken.items
