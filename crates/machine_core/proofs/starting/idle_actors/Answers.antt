use Rattle.std.proofs.Common.{◌+◌, sym, subst}
use Rattle.machine_core.specs.Starting.{AreIdle}
use Rattle.machine_core.proofs.Starts.{one_more_idle}
use Rattle.machine_core.proofs.starting.idle_actors.Goals as goal

pub loop-preserved : goal.loop-preserved
loop-preserved c =
    subst (AreIdle c.args.hashes (c.loop.counter + 1)) (sym c.in_ok-push.ensures.items)
    (one_more_idle c.args.hashes c.loop.counter c.loop.idle.items c.idle_actor.result c.loop.invariant c.idle_actor.ensures)
