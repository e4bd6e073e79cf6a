use Rattle.std.proofs.Common.{◌≡◌}
use Rattle.lock_free.specs.Passing.{HasAskedSome}
use Rattle.lock_free.proofs.licensing.ask_within.Given as goal

abbrev pub invariant-loop : goal.invariant-loop
invariant-loop l =
    (l.actor.table_id ≡ l.initial.actor.table_id)
    × HasAskedSome l.words.table_id.words l.handle l.initial.actor.me.0 l.actor.me.0
