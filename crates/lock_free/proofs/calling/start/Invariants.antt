use Rattle.std.proofs.Common.{◌≡◌}
use Rattle.lock_free.proofs.Beginners.{Calls}
use Rattle.lock_free.proofs.calling.start.Given as goal

abbrev pub invariant-loop : goal.invariant-loop
invariant-loop g l =
    (goal.iterator-loop g).can_next l.iterator' × (goal.iterator-loop g).is_finite l.iterator' × (l.actor.table_id ≡ l.initial.actor.table_id)
    × Calls l.words.table_id.words l.call l.initial.actor.me.0 l.actor.me.0
