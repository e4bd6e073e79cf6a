use Rattle.std.proofs.Common.{◌≡◌}
use Rattle.lock_free.proofs.numbers.reserve.Given as goal

abbrev pub invariant-loop-number : goal.invariant-loop-number
invariant-loop-number l = (l.actor.table_id ≡ l.initial.actor.table_id) × (l.actor.me.0 ≡ l.initial.actor.me.0)
