use Rattle.std.proofs.Common.{◌≡◌}
use Rattle.lock_free.specs.Rooting.{HasLookedSome}
use Rattle.lock_free.proofs.rooting.seek_root_within.Given as goal

abbrev pub invariant-loop : goal.invariant-loop
invariant-loop l =
    (l.actor.table_id ≡ l.initial.actor.table_id)
    × HasLookedSome l.words.table_id.words l.way l.initial.actor.me.0 l.actor.me.0
