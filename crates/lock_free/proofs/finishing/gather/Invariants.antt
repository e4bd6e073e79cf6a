use Rattle.std.proofs.Common.{◌≡◌, All, ◌++◌}
use Rattle.lock_free.specs.Finishing.{HasHeard, HasHeardMore}
use Rattle.lock_free.specs.Loading.{IsSound}
use Rattle.lock_free.proofs.finishing.gather.Given as goal

abbrev pub invariant-loop-other : goal.invariant-loop-other
invariant-loop-other l =
    (l.actor.table_id ≡ l.words.table_id) × IsSound l.words.table_id.words l.actor.me.0 × HasHeardMore l.fn.actor.me.0 l.actor.me.0
    × All (λ other. HasHeard l.actor.me.0 other.view) l.yielded × (l.fn.others.items ≡ l.yielded ++ l.other-iterator.rest.items)
