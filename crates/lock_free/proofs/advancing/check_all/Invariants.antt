use Rattle.std.proofs.Common.{◌≡◌}
use Rattle.lock_free.specs.Epochs.{having_passed}
use Rattle.lock_free.proofs.advancing.check_all.Given as goal

abbrev pub invariant-loop-passed : goal.invariant-loop-passed
invariant-loop-passed l = (l.actor.table_id ≡ l.initial.actor.table_id) × (l.actor.me.0 ≡ having_passed l.initial.actor.me.0 l.passed)
