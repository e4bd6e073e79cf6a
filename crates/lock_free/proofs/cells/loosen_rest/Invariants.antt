use Rattle.std.proofs.Common.{◌≡◌, None}
use Rattle.lock_free.specs.CellWords.{HasGivenSome}
use Rattle.lock_free.specs.Loading.{IsSound}
use Rattle.lock_free.specs.Stocks.{IsStock}
use Rattle.lock_free.proofs.cells.loosen_rest.Given as goal

abbrev pub invariant-loop : goal.invariant-loop
invariant-loop l =
    (l.actor.table_id ≡ l.initial.actor.table_id) × IsSound l.words.table_id.words l.actor.me.0 × IsStock l.stock l.actor.me.0 × (l.actor.me.0.opens ≡ None)
    × HasGivenSome l.initial.actor.me.0 l.actor.me.0
