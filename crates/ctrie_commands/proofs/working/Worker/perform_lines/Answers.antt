use Rattle.std.proofs.Common.{rules, refl, ◌∙◌, inl}
use Rattle.lock_runner.proofs.Steps.{gone_same}
use Rattle.lock_runner.proofs.Whole.{gone_more}
use Rattle.ctrie_commands.proofs.Advancing.{performed_none, performed_more, ended_more}
use Rattle.ctrie_commands.proofs.working.Worker.perform_lines.Goals as goal

pub loop-line-init : goal.loop-line-init
loop-line-init g c = record {
  seat = gone_same c.args.self.now.seat;
  sweeps = refl;
  done = performed_none c.args.self.now.seat.actor c.args.self.now c.requires.unused.answers c.requires.none;
  ended = inl c.requires.unused.idle;
}

pub loop-line-preserved : goal.loop-line-preserved
loop-line-preserved g c =
    let so_far = c.loop-line.invariant in record {
      seat = gone_more _ _ _ so_far.seat c.perform_line.ensures.seat;
      sweeps = search rules;
      done = performed_more _ _ c.perform_line.new.self c.perform_line.ensures.seat (c.perform_line.ensures.seat.actor ∙ so_far.seat.actor) _ c.args.lines.now c.loop-line.line-index _
          c.loop-line-test.true so_far.seat.actor so_far.ended so_far.done c.in_ok-perform_line.ensures.done;
      ended = ended_more _ c.perform_line.new.self _ c.in_ok-perform_line.ensures.done so_far.ended;
    }
