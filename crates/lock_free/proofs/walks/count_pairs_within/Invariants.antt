use Rattle.std.proofs.Common.{◌≡◌, ℕ, List, length}
use Rattle.lock_free.specs.Loading.{IsSound}
use Rattle.lock_free.specs.Walks.{HasWalked}
use Rattle.lock_free.proofs.walks.count_pairs_within.Given as goal

abbrev pub invariant-loop-count : goal.invariant-loop-count
invariant-loop-count l =
    (l.actor.table_id ≡ l.fn.actor.table_id) × IsSound l.words.table_id.words l.actor.me.0
    × ((pairs : List (ℕ × ℕ)) × (l.count ≡ length pairs) × HasWalked l.fn.actor.me.0 pairs l.actor.me.0 l.walker)
