use Rattle.std.proofs.Common.{◌≡◌}
use Rattle.lock_free.proofs.Shutting.{Passed}
use Rattle.lock_free.proofs.closing.pass_all.Given as goal

abbrev pub invariant-loop-looked : goal.invariant-loop-looked
invariant-loop-looked l = (l.actor.table_id ≡ l.initial.actor.table_id) × Passed l.initial.actor.me.0 l.actor.me.0 l.handle l.looked
