use Rattle.std.proofs.Common.{◌≡◌, ◌+◌, ◌≤◌}
use Rattle.lock_free.specs.declared.reclaiming.Kind.TheVariants.{Replaced}
use Rattle.lock_free.specs.Freed.{KeepsOthers}
use Rattle.lock_free.specs.Limbos.{chains_of, HasReclaimedSome}
use Rattle.lock_free.specs.Loading.{IsSound}
use Rattle.lock_free.specs.Stocks.{IsStock}
use Rattle.lock_free.proofs.ClassesFree.{FreedSoFar}
use Rattle.lock_free.proofs.replaced.free_some.Given as goal

abbrev pub invariant-loop-done : goal.invariant-loop-done
invariant-loop-done l =
    (l.actor.table_id ≡ l.initial.actor.table_id) × IsSound l.words.table_id.words l.actor.me.0 × IsStock l.stock l.actor.me.0
    × ((chains_of l.stock.limbo Replaced l.class).aged.stamp + 3 ≤ l.actor.me.0.epoch) × HasReclaimedSome l.initial.actor.me.0 l.actor.me.0
    × FreedSoFar l.class l._done l.initial.stock.limbo l.initial.stock l.initial.actor.me.0 l.stock.limbo l.stock l.actor.me.0
    × KeepsOthers l.class l.initial.stock.limbo l.initial.stock l.stock.limbo l.stock
