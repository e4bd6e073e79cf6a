use Rattle.std.proofs.Common.{◌≡◌}
use Rattle.lock_free.specs.Descending.{IsDescending}
use Rattle.lock_free.specs.Loading.{IsSound}
use Rattle.lock_free.proofs.reaching.go_down_within.Given as goal

abbrev pub invariant-loop : goal.invariant-loop
invariant-loop l =
    (l.actor.table_id ≡ l.initial.actor.table_id) × IsSound l.words.table_id.words l.actor.me.0
    × IsDescending l.initial.actor.me.0 l.task l.path.items l.actor.me.0
