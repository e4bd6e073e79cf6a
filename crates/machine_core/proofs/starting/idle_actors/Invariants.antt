use Rattle.machine_core.specs.Starting.{AreIdle}
use Rattle.machine_core.proofs.starting.idle_actors.Given as goal

abbrev pub invariant-loop : goal.invariant-loop
invariant-loop l = AreIdle l.hashes l.counter l.idle.items
