use Rattle.std.proofs.Common.{◌≡◌}
use Rattle.lock_free.specs.Passing.{HasPassedSome}
use Rattle.lock_free.proofs.reading.read_on.Given as goal

abbrev pub invariant-loop : goal.invariant-loop
invariant-loop l = (l.actor.table_id ≡ l.initial.actor.table_id) × HasPassedSome l.words.table_id.words l.way l.indirection l.initial.actor.me.0 l.actor.me.0 l.next
