use Rattle.ctrie_commands.specs.Beneath.script_text.specs.Views.{read}
use Rattle.ctrie_commands.proofs.Gathering.{moved_on}
use Rattle.ctrie_commands.proofs.Grouping.{have_worked_more}
use Rattle.ctrie_commands.proofs.groups.work_group.Goals as goal

pub loop-seat-preserved : goal.loop-seat-preserved
loop-seat-preserved g c = record {
  done = have_worked_more (read c.args.script.now) _ _ _ _ _ c.loop-seat.invariant.done c.in_ok-work.ensures c.in_ok-push.ensures.items;
  left = moved_on _ _ _ _ _ c.loop-seat.invariant.left c.in-Some.ensures.steps.0;
}
