use Rattle.std.proofs.Common.{◌≡◌}
use Rattle.lock_free.specs.Loading.{IsSound}
use Rattle.lock_free.proofs.copy_roots.try_roots.Given as goal

abbrev pub invariant-loop : goal.invariant-loop
invariant-loop l =
    (l.actor.table_id ≡ l.initial.actor.table_id)
    × IsSound l.words.table_id.words l.actor.me.0 × (l.actor.me.0 ≡ record l.initial.actor.me.0 { drafts = l.actor.me.0.drafts }) × (l.stock ≡ l.initial.stock)
