use Rattle.std.proofs.Common.{◌≡◌}
use Rattle.lock_free.specs.Loading.{IsSound}
use Rattle.lock_free.specs.Stocks.{IsStock}
use Rattle.lock_free.specs.UnderWay.{IsGoing}
use Rattle.lock_free.proofs.TriesTold.{StaysParked}
use Rattle.lock_free.proofs.try_runs.until_over.Given as goal

abbrev pub invariant-loop : goal.invariant-loop
invariant-loop g l =
    (goal.iterator-loop g).can_next l.iterator' × (goal.iterator-loop g).is_finite l.iterator' × (l.actor.table_id ≡ l.initial.actor.table_id) × IsSound l.words.table_id.words l.actor.me.0
    × IsStock l.stock l.actor.me.0 × StaysParked l.initial.actor.me.0 l.actor.me.0 × IsGoing l.actor.me.0 l.call l.access l.parked
