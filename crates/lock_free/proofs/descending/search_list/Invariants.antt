use Rattle.std.proofs.Common.{◌≡◌}
use Rattle.lock_free.specs.Descending.{IsSearching}
use Rattle.lock_free.specs.Loading.{IsSound}
use Rattle.lock_free.proofs.descending.search_list.Given as goal

abbrev pub invariant-loop-position : goal.invariant-loop-position
invariant-loop-position l =
    (l.actor.table_id ≡ l.initial.actor.table_id) × IsSound l.words.table_id.words l.actor.me.0 × IsSearching l.initial.actor.me.0 l.task l.path l.given l.singles l.position l.actor.me.0
