use Rattle.std.proofs.Common.{rules, refl}
use Rattle.lock_runner.proofs.Steps.{gone_same}
use Rattle.lock_runner.proofs.Whole.{gone_more}
use Rattle.ctrie_commands.proofs.Swept.{swept_none, swept_more}
use Rattle.ctrie_commands.proofs.working.Worker.sweep_lines.Goals as goal

pub loop-line-init : goal.loop-line-init
loop-line-init g c = record {
  seat = gone_same c.args.self.now.seat;
  answers = refl;
  running = refl;
  done = swept_none c.args.self.now c.requires.unused.sweeps c.requires.none;
}

pub loop-line-preserved : goal.loop-line-preserved
loop-line-preserved g c =
    let so_far = c.loop-line.invariant in record {
      seat = gone_more _ _ _ so_far.seat c.sweep_line.ensures.seat;
      answers = search rules;
      running = search rules;
      done = swept_more _ c.sweep_line.new.self c.args.lines.now c.loop-line.line-index _ c.loop-line-test.true c.sweep_line.ensures.seat so_far.done c.in_ok-sweep_line.ensures.done;
    }
