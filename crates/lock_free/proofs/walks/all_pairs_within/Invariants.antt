use Rattle.std.proofs.Common.{◌≡◌}
use Rattle.lock_free.specs.Loading.{IsSound}
use Rattle.lock_free.specs.Walks.{HasWalked}
use Rattle.lock_free.proofs.walks.all_pairs_within.Given as goal

abbrev pub invariant-loop : goal.invariant-loop
invariant-loop l =
    (l.actor.table_id ≡ l.fn.actor.table_id) × IsSound l.words.table_id.words l.actor.me.0
    × HasWalked l.fn.actor.me.0 l.pairs.items l.actor.me.0 l.walker
