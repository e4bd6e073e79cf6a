use Rattle.std.proofs.Common.{◌≡◌}
use Rattle.lock_free.specs.Limbos.{HasReclaimedSome}
use Rattle.lock_free.specs.Loading.{IsSound}
use Rattle.lock_free.specs.Stocks.{IsStock}
use Rattle.lock_free.proofs.slot_waits.wait_for_epoch.Given as goal

abbrev pub invariant-loop-look : goal.invariant-loop-look
invariant-loop-look l =
    (l.actor.table_id ≡ l.initial.actor.table_id) × IsSound l.words.table_id.words l.actor.me.0 × IsStock l.stock l.actor.me.0 × HasReclaimedSome l.initial.actor.me.0 l.actor.me.0
