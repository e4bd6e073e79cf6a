use Rattle.std.proofs.Common.{◌≡◌}
use Rattle.lock_free.specs.Stocks.{IsStock}
use Rattle.lock_free.proofs.ClimbsUp.{ClimbsSoFar}
use Rattle.lock_free.proofs.climbs.climb_within.Given as goal

abbrev pub invariant-loop : goal.invariant-loop
invariant-loop l =
    (l.actor.table_id ≡ l.fn.actor.table_id) × IsStock l.stock l.actor.me.0
    × ClimbsSoFar l.words.table_id.words l.way l.start l.fn.actor.me.0 l.actor.me.0 l.path.items l.hash l.fn.single l.length l.single
