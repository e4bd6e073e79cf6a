use Rattle.std.proofs.Common.{◌≡◌}
use Rattle.lock_free.specs.Loading.{IsSound}
use Rattle.lock_free.specs.Scans.{HasAddedSome}
use Rattle.lock_free.proofs.walks.add_pairs_within.Given as goal

abbrev pub invariant-loop : goal.invariant-loop
invariant-loop l =
    (l.actor.table_id ≡ l.fn.actor.table_id) × IsSound l.words.table_id.words l.actor.me.0
    × HasAddedSome l.fn.way l.fn.actor.me.0 l.fn.walker l.fn.pairs.items l.counter l.actor.me.0 l.walker l.pairs.items
