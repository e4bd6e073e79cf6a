-- The lines so far were carried out.
use Rattle.std.proofs.Common.{◌≡◌, take}
use Rattle.lock_runner.specs.Stepping.{HasGoneOn}
use Rattle.ctrie_commands.specs.Working.{HasPerformedAll, HasEnded}
use Rattle.ctrie_commands.proofs.working.Worker.perform_lines.Given as goal

abbrev pub invariant-loop-line : goal.invariant-loop-line
invariant-loop-line g l = record {
  seat : HasGoneOn l.initial.self.seat l.self.seat;
  sweeps : l.self.seat.sweeps ≡ l.initial.self.seat.sweeps;
  done : HasPerformedAll l.initial.self.seat.actor (take l.line-index l.lines) l.self;
  ended : HasEnded l.self;
}
