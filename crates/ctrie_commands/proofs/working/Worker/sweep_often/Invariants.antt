-- So many steps were taken, and none was denied.
use Rattle.std.proofs.Common.{◌≡◌, ◌+◌}
use Rattle.lock_runner.specs.Stepping.{HasGoneOn}
use Rattle.ctrie_commands.proofs.working.Worker.sweep_often.Given as goal

abbrev pub invariant-loop : goal.invariant-loop
invariant-loop g l = record {
  seat : HasGoneOn l.initial.self.seat l.self.seat;
  answers : l.self.seat.answers ≡ l.initial.self.seat.answers;
  running : l.self.seat.running ≡ l.initial.self.seat.running;
  sweeps : l.self.seat.sweeps ≡ l.initial.self.seat.sweeps + l.counter;
  denied : l.self.denied.items ≡ l.initial.self.denied.items;
}
