use Rattle.std.proofs.Common.{◌≡◌}
use Rattle.lock_free.specs.Walks.{IsGoingOn}
use Rattle.lock_free.proofs.walking.Walker.next_within.Given as goal

abbrev pub invariant-loop : goal.invariant-loop
invariant-loop l =
    (l.actor.table_id ≡ l.initial.actor.table_id)
    × IsGoingOn l.words.table_id.words l.way l.initial.actor.me.0 l.initial.self l.actor.me.0 l.self
