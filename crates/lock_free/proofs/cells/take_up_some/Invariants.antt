use Rattle.std.proofs.Common.{◌≡◌}
use Rattle.lock_free.specs.CellWords.{HasFetchedSome}
use Rattle.lock_free.specs.Loading.{IsSound}
use Rattle.lock_free.specs.Stocks.{HasRoom, IsStock}
use Rattle.lock_free.proofs.cells.take_up_some.Given as goal

abbrev pub invariant-loop : goal.invariant-loop
invariant-loop l =
    (l.actor.table_id ≡ l.initial.actor.table_id) × IsSound l.words.table_id.words l.actor.me.0 × IsStock l.stock l.actor.me.0 × HasRoom l.stock 2
    × HasFetchedSome l.initial.actor.me.0 l.class l.actor.me.0
