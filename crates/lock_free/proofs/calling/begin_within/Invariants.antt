use Rattle.std.proofs.Common.{◌≡◌}
use Rattle.lock_free.specs.Loading.{Saw}
use Rattle.lock_free.proofs.Beginners.{Waits}
use Rattle.lock_free.proofs.calling.begin_within.Given as goal

abbrev pub invariant-loop : goal.invariant-loop
invariant-loop l =
    (l.actor.table_id ≡ l.initial.actor.table_id)
    × Waits l.words.table_id.words l.call l.initial.actor.me.0 l.actor.me.0 × Saw l.initial.actor.me.0 l.actor.me.0
