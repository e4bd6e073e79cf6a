use Rattle.std.proofs.Common.{◌≡◌}
use Rattle.lock_free.proofs.taken.take.Given as goal

abbrev pub invariant-loop : goal.invariant-loop
invariant-loop l =
    (l.actor.table_id ≡ l.initial.actor.table_id)
    × (l.actor.me.0 ≡ l.initial.actor.me.0) × (l.stock ≡ l.initial.stock)
