use Rattle.std.proofs.Common.{◌≡◌}
use Rattle.machine_model.specs.Lines.{new_try}
use Rattle.lock_free.specs.Holding.{IsOn}
use Rattle.lock_free.specs.Loading.{IsSound}
use Rattle.lock_free.specs.RunningOn.{RunsOn}
use Rattle.lock_free.specs.Stocks.{IsStock}
use Rattle.lock_free.proofs.attempts.run_key.Given as goal

abbrev pub invariant-loop : goal.invariant-loop
invariant-loop l =
    (l.actor.table_id ≡ l.initial.actor.table_id) × IsSound l.words.table_id.words l.actor.me.0 × IsStock l.stock l.actor.me.0 × RunsOn l.initial.actor.me.0 l.actor.me.0 × IsOn l.actor.me.0 new_try
