-- The lines so far were carried out.
use Rattle.std.proofs.Common.{◌≡◌, take}
use Rattle.lock_runner.specs.Stepping.{HasGoneOn}
use Rattle.ctrie_commands.specs.Working.{HasSweptAll}
use Rattle.ctrie_commands.proofs.working.Worker.sweep_lines.Given as goal

abbrev pub invariant-loop-line : goal.invariant-loop-line
invariant-loop-line g l = record {
  seat : HasGoneOn l.initial.self.seat l.self.seat;
  answers : l.self.seat.answers ≡ l.initial.self.seat.answers;
  running : l.self.seat.running ≡ l.initial.self.seat.running;
  done : HasSweptAll (take l.line-index l.lines) l.self;
}
