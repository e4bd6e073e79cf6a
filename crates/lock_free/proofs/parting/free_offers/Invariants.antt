use Rattle.std.proofs.Common.{◌≡◌}
use Rattle.lock_free.specs.Loading.{IsSound}
use Rattle.lock_free.specs.OwnOffers.{HasFreedOffers}
use Rattle.lock_free.specs.Stocks.{IsStock}
use Rattle.lock_free.proofs.parting.free_offers.Given as goal

abbrev pub invariant-loop-done : goal.invariant-loop-done
invariant-loop-done l =
    (l.actor.table_id ≡ l.initial.actor.table_id) × IsSound l.words.table_id.words l.actor.me.0 × IsStock l.stock l.actor.me.0 × HasFreedOffers l.initial.actor.me.0 l.actor.me.0
