use Rattle.std.proofs.Common.{◌≡◌}
use Rattle.lock_free.specs.Calling.{IsRunning}
use Rattle.lock_free.specs.Freeing.{HasFreedSome}
use Rattle.lock_free.specs.Loading.{IsSound}
use Rattle.lock_free.specs.Stocks.{IsStock}
use Rattle.lock_free.proofs.ripe_nodes.free_aged.Given as goal

abbrev pub invariant-loop : goal.invariant-loop
invariant-loop l =
    (l.actor.table_id ≡ l.initial.actor.table_id) × IsSound l.words.table_id.words l.actor.me.0 × IsStock l.stock l.actor.me.0 × IsRunning l.actor.me.0
    × HasFreedSome l.initial.actor.me.0 l.actor.me.0
