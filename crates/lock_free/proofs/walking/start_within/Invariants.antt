use Rattle.std.proofs.Common.{◌≡◌}
use Rattle.lock_free.specs.Walks.{HasLookedForRoot}
use Rattle.lock_free.proofs.walking.start_within.Given as goal

abbrev pub invariant-loop : goal.invariant-loop
invariant-loop l =
    (l.actor.table_id ≡ l.initial.actor.table_id)
    × HasLookedForRoot l.words.table_id.words l.way l.initial.actor.me.0 l.actor.me.0
